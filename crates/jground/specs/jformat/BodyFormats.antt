-- All of the bytes of a text, texts inside others, and values one behind the other.
use Rattle.std.specs.Prelude.{ℕ, zero, suc, ◌+◌, Bool, ◌&&◌, List, [], ◌∷◌, ◌++◌, length, Result, Ok, Err, nat_lt, ◌==◌, if◌then◌else◌}
use Rattle.std.specs.List.{flat_map, list_all}
use Rattle.jground.specs.jbase.MemoryFailures.{◌>>=◌}
use Rattle.jground.specs.declared.jformat.error.Fault.{Fault}
use Rattle.jground.specs.jformat.Format.{Answer, Format, fault, run_at}

-- how all bytes of a text are read
pub record Body (K A : Type 0) : Type 0 where
  pub spell : A → List ℕ
  pub fits : A → Bool
  pub read : List ℕ → Result A (Fault K)

-- the bytes themselves
abbrev pub all : {K : Type 0} → Body K (List ℕ)
all = record { spell = λ text. text; fits = λ text. list_all (λ b. nat_lt b 256) text; read = λ bytes. Ok bytes }

-- a value and nothing behind it
abbrev pub whole : {K A : Type 0} → K → Format K A → Body K A
whole more f = record { spell = f.spell; fits = f.fits; read = λ bytes. f.read bytes >>= λ x. if length x.1 == 0 then Ok x.0 else fault more x.1 }

-- ---- texts inside others

-- a fault inside a text, seen from outside: so many bytes lie behind the text
abbrev pub outward : {K A : Type 0} → ℕ → Result A (Fault K) → Result A (Fault K)
outward behind x = elim x [ Ok a ↦ Ok a | Err d ↦ Err (record { left = d.left + behind; kind = d.kind }) ]

-- a text of so many bytes
abbrev pub inner_at : {K A : Type 0} → K → (List ℕ → Result A (Fault K)) → ℕ → List ℕ → Answer K A
inner_at cut read n bytes = run_at cut n bytes >>= λ r. outward (length r.1) (read r.0) >>= λ a. Ok (a, r.1)

-- a text behind the number of its bytes
abbrev pub block : {K A : Type 0} → Format K ℕ → K → Body K A → Format K A
block count cut f = record {
  spell = λ a. count.spell (length (f.spell a)) ++ f.spell a;
  fits = λ a. f.fits a && count.fits (length (f.spell a));
  read = λ bytes. count.read bytes >>= λ n. inner_at cut f.read n.0 n.1;
}

-- bytes behind their number
abbrev pub sized : {K : Type 0} → Format K ℕ → K → Format K (List ℕ)
sized count cut = block count cut all

-- ---- values one behind the other

unfoldable pub times_at : {K A : Type 0} → (List ℕ → Answer K A) → ℕ → List ℕ → Answer K (List A)
times_at read zero bytes = Ok ([], bytes)
times_at read (suc n) bytes = read bytes >>= λ x. times_at read n x.1 >>= λ y. Ok (x.0 ∷ y.0, y.1)

abbrev pub counted_at : {K A : Type 0} → (List ℕ → Answer K ℕ) → (List ℕ → Answer K A) → List ℕ → Answer K (List A)
counted_at count read bytes = count bytes >>= λ n. times_at read n.0 n.1

-- values behind their number
abbrev pub counted : {K A : Type 0} → Format K ℕ → Format K A → Format K (List A)
counted count f = record {
  spell = λ xs. count.spell (length xs) ++ flat_map f.spell xs;
  fits = λ xs. list_all f.fits xs && count.fits (length xs);
  read = counted_at count.read f.read;
}

-- at most so many values, to the end of the bytes
unfoldable pub many_at : {K A : Type 0} → K → (List ℕ → Answer K A) → ℕ → List ℕ → Result (List A) (Fault K)
many_at more read zero [] = Ok []
many_at more read zero (b ∷ bs) = fault more (b ∷ bs)
many_at more read (suc n) [] = Ok []
many_at more read (suc n) (b ∷ bs) = read (b ∷ bs) >>= λ x. many_at more read n x.1 >>= λ y. Ok (x.0 ∷ y)

-- values to the end of the bytes; each takes a byte at least
abbrev pub many : {K A : Type 0} → K → Format K A → Body K (List A)
many more f = record { spell = flat_map f.spell; fits = list_all f.fits; read = λ bytes. many_at more f.read (length bytes) bytes }
