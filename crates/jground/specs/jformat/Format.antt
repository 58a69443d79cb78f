-- Formats: how a value is spelled, which values have a spelling, and how a value is read from the front of bytes.
use Rattle.std.specs.Prelude.{ℕ, ℤ, ◌<◌, ◌^◌, Bool, true, false, ◌&&◌, List, [], ◌∷◌, ◌++◌, length, get_or, take, drop, Option, Some, None, Result, Ok, Err, nat_lt, ◌==◌, if◌then◌else◌}
use Rattle.std.specs.Str.{bytes_eq}
use Rattle.std.specs.Int.{Width, byte_len, from_be_bytes, to_be_bytes, cast_signed, cast_unsigned}
use Rattle.std.specs.Ordering.{int_eq}
use Rattle.jground.specs.jbase.MemoryFailures.{◌>>=◌}
use Rattle.jground.specs.declared.jformat.error.Fault.{Fault}

abbrev pub fault : {K A : Type 0} → K → List ℕ → Result A (Fault K)
fault kind bytes = Err (record { left = length bytes; kind = kind })

abbrev pub IsBytes : List ℕ → Type 0
IsBytes bytes = (i : ℕ) → get_or bytes i 0 < 256

-- a value and the bytes behind it, or a fault
abbrev pub Answer : Type 0 → Type 0 → Type 0
Answer K A = Result (A × List ℕ) (Fault K)

pub record Format (K A : Type 0) : Type 0 where
  pub spell : A → List ℕ
  pub fits : A → Bool
  pub read : List ℕ → Answer K A

-- ---- bytes and numbers

-- no bytes
abbrev pub void : {K : Type 0} → Format K (Unit {0})
void = record { spell = λ _. []; fits = λ _. true; read = λ bytes. Ok (tt, bytes) }

-- a byte
abbrev pub byte : {K : Type 0} → K → Format K ℕ
byte cut = record { spell = λ n. n ∷ []; fits = λ n. nat_lt n 256; read = elim [ [] ↦ fault cut [] | b ∷ rest ↦ Ok (b, rest) ] }

abbrev pub number_at : {K : Type 0} → Width → K → List ℕ → Answer K ℕ
number_at w cut bytes = if nat_lt (length bytes) (byte_len w) then fault cut bytes else Ok
    (from_be_bytes w (take (byte_len w) bytes), drop (byte_len w) bytes)

-- a number, the high byte first
abbrev pub number : {K : Type 0} → Width → K → Format K ℕ
number w cut = record { spell = to_be_bytes w; fits = λ n. nat_lt n (256 ^ byte_len w); read = number_at w cut }

-- a number in two's complement, the high byte first
abbrev pub signed : {K : Type 0} → Width → K → Format K ℤ
signed w cut = record {
  spell = λ z. to_be_bytes w (cast_unsigned w z);
  fits = λ z. nat_lt (cast_unsigned w z) (256 ^ byte_len w) && int_eq (cast_signed w (cast_unsigned w z)) z;
  read = λ bytes. number_at w cut bytes >>= λ x. Ok (cast_signed w x.0, x.1);
}

abbrev pub run_at : {K : Type 0} → K → ℕ → List ℕ → Answer K (List ℕ)
run_at cut n bytes = if nat_lt (length bytes) n then fault cut bytes else Ok (take n bytes, drop n bytes)

abbrev pub words_at : {K : Type 0} → K → List ℕ → List ℕ → Answer K (Unit {0})
words_at wrong text bytes = if bytes_eq (take (length text) bytes) text then Ok (tt, drop (length text) bytes) else fault wrong bytes

-- these very bytes
abbrev pub words : {K : Type 0} → K → List ℕ → Format K (Unit {0})
words wrong text = record { spell = λ _. text; fits = λ _. true; read = words_at wrong text }

-- ---- parts and values

-- one behind the other
infixr 12 ◌·◌
abbrev pub ◌·◌ : {K A B : Type 0} → Format K A → Format K B → Format K (A × B)
f · g = record {
  spell = λ p. f.spell p.0 ++ g.spell p.1;
  fits = λ p. f.fits p.0 && g.fits p.1;
  read = λ bytes. f.read bytes >>= λ x. g.read x.1 >>= λ y. Ok ((x.0, y.0), y.1);
}

-- one behind the other, where the first says how the second is read
infixr 12 ◌▹◌
abbrev pub ◌▹◌ : {K A B : Type 0} → Format K A → (A → Format K B) → Format K (A × B)
f ▹ g = record {
  spell = λ p. f.spell p.0 ++ (g p.0).spell p.1;
  fits = λ p. f.fits p.0 && (g p.0).fits p.1;
  read = λ bytes. f.read bytes >>= λ x. (g x.0).read x.1 >>= λ y. Ok ((x.0, y.0), y.1);
}

-- the same bytes for another type
abbrev pub via : {K A B : Type 0} → (A → B) → (B → A) → Format K A → Format K B
via make parts f = record { spell = λ b. f.spell (parts b); fits = λ b. f.fits (parts b); read = λ bytes. f.read bytes >>= λ x. Ok (make x.0, x.1) }

abbrev pub part_spell : {K A : Type 0} → Format K A → Option A → List ℕ
part_spell f x = elim x [ Some a ↦ f.spell a | None ↦ [] ]

abbrev pub part_fits : {K A : Type 0} → Format K A → Option A → Bool
part_fits f x = elim x [ Some a ↦ f.fits a | None ↦ false ]

-- the values of one form
abbrev pub as_case : {K A B : Type 0} → (A → B) → (B → Option A) → Format K A → Format K B
as_case make parts f = record {
  spell = λ b. part_spell f (parts b);
  fits = λ b. part_fits f (parts b);
  read = λ bytes. f.read bytes >>= λ x. Ok (make x.0, x.1);
}

-- a number that is known before, of which the bytes tell nothing
abbrev pub known : {K : Type 0} → ℕ → Format K ℕ
known n = as_case (λ _. n) (λ k. if k == n then Some tt else None) void

-- these very bytes in front of a value
abbrev pub after : {K A : Type 0} → K → List ℕ → Format K A → Format K A
after wrong text f = record {
  spell = λ a. text ++ f.spell a;
  fits = f.fits;
  read = λ bytes. words_at wrong text bytes >>= λ x. f.read x.1;
}

-- these very bytes behind a value
abbrev pub ended : {K A : Type 0} → K → Format K A → List ℕ → Format K A
ended wrong f text = record {
  spell = λ a. f.spell a ++ text;
  fits = f.fits;
  read = λ bytes. f.read bytes >>= λ x. words_at wrong text x.1 >>= λ y. Ok (x.0, y.1);
}

-- ---- tests

abbrev pub passed : {K A : Type 0} → Option K → List ℕ → A × List ℕ → Answer K A
passed y bytes x = elim y [ None ↦ Ok x | Some kind ↦ fault kind bytes ]

abbrev pub is_good : {K : Type 0} → Option K → Bool
is_good x = elim x [ None ↦ true | Some kind ↦ false ]

-- a kind of fault where a test fails
abbrev pub unless : {K : Type 0} → Bool → K → Option K
unless good kind = if good then None else Some kind

-- a value, where no fault was found
abbrev pub unless_fault : {K A : Type 0} → A → Option (Fault K) → Result A (Fault K)
unless_fault x y = elim y [ None ↦ Ok x | Some d ↦ Err d ]

-- only the values that pass a test; the fault stands at the value's first byte
abbrev pub such : {K A : Type 0} → (A → Option K) → Format K A → Format K A
such test f = record { spell = f.spell; fits = λ a. f.fits a && is_good (test a); read = λ bytes. f.read bytes >>= λ x. passed (test x.0) bytes x }

-- this very number
abbrev pub literal : {K : Type 0} → Format K ℕ → K → ℕ → Format K (Unit {0})
literal count wrong n = via (λ _. tt) (λ _. n) (such (λ k. if k == n then None else Some wrong) count)
