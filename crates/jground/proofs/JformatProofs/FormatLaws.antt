-- The laws of formats: what is read is spelled so, what is spelled so is read again, a fault stands within the bytes, and
-- the rest is no longer than the bytes.
use Rattle.std.proofs.Common.{◌≡◌, ℕ, ◌^◌, ◌<◌, ◌≤◌, Bool, true, false, cond, ltb, eqb, List, [], ◌∷◌, ◌++◌, length, take, drop, Option, Some, None, Ok, Err, refl, sym, ap, subst, ◌∙◌, append_assoc, arith, inl, inr}
use Rattle.std.specs.Prelude.{IsTrue, ◌==◌, if◌then◌else◌}
use Rattle.std.specs.Prelude.{ℤ}
use Rattle.std.specs.Str.{bytes_eq}
use Rattle.std.specs.Ordering.{int_eq}
use Rattle.std.specs.Int.{Width, w16, w32, w64, byte_len, from_be_bytes, to_be_bytes, cast_signed, cast_unsigned}
use Rattle.std.proofs.lemmas.Bool.{cases_Bool, ltb-false, ltb-true, lt-ltb, le-ltb, eqb-true}
use Rattle.std.proofs.lemmas.List.{take_at, drop_at, take-append-drop, length-append, length-take-le, length-drop}
use Rattle.std.proofs.lemmas.Slice.Eq.{bytes_eq-Decides}
use mir.Val.{bits}
use Rattle.std.proofs.lemmas.Int.{of_z-to_z}
use Rattle.std.proofs.lemmas.Bool.Decides.{Decides-int_eq}
use Rattle.std.proofs.lemmas.Nat.{be_bytes_2, be_bytes_4, from_be_bytes-to_be_bytes_2, from_be_bytes-to_be_bytes_4, be_bytes_8, from_be_bytes-to_be_bytes_8}
use Rattle.jground.specs.jbase.MemoryFailures.{◌>>=◌}
use Rattle.jground.specs.declared.jformat.error.Fault.{Fault}
use Rattle.jground.specs.jformat.Format.{IsBytes, Answer, Format, void, byte, number, number_at, signed, words, words_at, ◌·◌, ◌▹◌, via, as_case, part_fits, known, after, ended, such, passed, is_good, literal, part_spell}
use Rattle.jground.specs.ProofNames.{byte_at, fault_at}
use Rattle.jground.proofs.JformatProofs.ReadingSteps.{IsBytes-drop, IsBytes-take, IsBytes-rest, bind_ok, bind_err, guard_ok, guard_err, guard_ended, guard_cut, ok_is, both, first_true, second_true, fault_within, passed_ok, passed_none, passed_err}

-- ---- names for what definitions say in place

abbrev is_number : ℕ → ℕ → Option (Unit {0})
is_number n k = if k == n then Some tt else None

-- ---- the laws

-- what a value that was read says of the bytes
pub record Takes {A : Type 0} (spell : A → List ℕ) (fits : A → Bool) (bytes : List ℕ) (x : A × List ℕ) : Type 0 where
  pub parts : bytes ≡ spell x.0 ++ x.1
  pub rest_fits : IsBytes x.1
  pub fit : IsTrue (fits x.0)

-- A reading from the front stays within the bytes.
pub record IsReading {K A : Type 0} (read : List ℕ → Answer K A) : Type 0 where
  pub within : (bytes : List ℕ) (d : Fault K) → read bytes ≡ Err d → d.left ≤ length bytes
  pub shorter : (bytes : List ℕ) (x : A × List ℕ) → read bytes ≡ Ok x → length x.1 ≤ length bytes

pub record IsFormat {K A : Type 0} (f : Format K A) : Type 0 where
  pub takes : (bytes : List ℕ) (x : A × List ℕ) → IsBytes bytes → f.read bytes ≡ Ok x → Takes f.spell f.fits bytes x
  pub again : (x : A) (rest : List ℕ) → IsTrue (f.fits x) → f.read (f.spell x ++ rest) ≡ Ok (x, rest)
  pub reading : IsReading f.read

-- each spelling has a byte
abbrev pub HasBytes : {K A : Type 0} → Format K A → Type 0
HasBytes {K} {A} f = (a : A) → IsTrue (f.fits a) → 0 < length (f.spell a)

-- ---- readings behind readings

pub bind_reading : {K A B : Type 0} (read : List ℕ → Answer K A) (go : A × List ℕ → Answer K B) → IsReading read → ((x : A × List ℕ) (d : Fault K) → go x ≡ Err d → d.left ≤ length x.1) → ((x : A × List ℕ) (y : B × List ℕ) → go x ≡ Ok y → length y.1 ≤ length x.1) → IsReading (λ bytes. read bytes >>= go)
bind_reading read go R within shorter = record {
  within = λ bytes d e. elim (bind_err (read bytes) go d e) [
    | inl h ↦ R.within bytes d h
    | inr h ↦
        let le = R.shorter bytes h.0 h.1 in
        let in_rest : d.left ≤ length h.0.1 = within h.0 d h.2 in omega arith
  ];
  shorter = λ bytes y e.
      let h = bind_ok (read bytes) go y e in
      let le = R.shorter bytes h.0 h.1 in
      let more : length y.1 ≤ length h.0.1 = shorter h.0 y h.2 in
      omega arith;
}

pub ok_reading : {K A B : Type 0} (read : List ℕ → Answer K A) (make : A → B) → IsReading read → IsReading (λ bytes. read bytes >>= λ x. Ok (make x.0, x.1))
ok_reading {K} {A} {B} read make R = bind_reading read (λ x. Ok (make x.0, x.1)) R (λ x d e. absurd cc) (λ x y e. let made : B × List ℕ = (make x.0, x.1) in let same : made ≡ y = ok_is (Fault K) made y e in rw (sym same) (omega arith))

pub then_reading : {K A B C : Type 0} (read : List ℕ → Answer K A) (go : A → List ℕ → Answer K B) (make : A → B → C) → IsReading read → ((a : A) → IsReading (go a)) → IsReading (λ bytes. read bytes >>= λ x. go x.0 x.1 >>= λ y. Ok (make x.0 y.0, y.1))
then_reading {K} {A} {B} {C} read go make R G = bind_reading read (λ x. go x.0 x.1 >>= λ y. Ok (make x.0 y.0, y.1)) R
    (λ x d e. (ok_reading (go x.0) (make x.0) (G x.0)).within x.1 d e)
    (λ x y e. (ok_reading (go x.0) (make x.0) (G x.0)).shorter x.1 y e)

-- ---- nothing, bytes, numbers

pub void_law : {K : Type 0} → IsFormat (void {K = K})
void_law {K} = record {
  takes = λ bytes x fits e.
      let made : Unit {0} × List ℕ = (tt, bytes) in
      let all : Takes (λ (_ : Unit {0}). []) (λ (_ : Unit {0}). true) bytes made = record { parts = refl; rest_fits = fits; fit = refl } in
      subst (λ (y : Unit {0} × List ℕ). Takes (λ (_ : Unit {0}). []) (λ (_ : Unit {0}). true) bytes y) (ok_is (Fault K) made x e) all;
  again = λ x rest fit. refl;
  reading = record {
    within = λ bytes d e. absurd cc;
    shorter = λ bytes x e. let made : Unit {0} × List ℕ = (tt, bytes) in rw (sym (ok_is (Fault K) made x e)) (omega arith);
  };
}

byte_takes : {K : Type 0} (cut : K) (bytes : List ℕ) (x : ℕ × List ℕ) → IsBytes bytes → byte_at cut bytes ≡ Ok x → Takes (byte cut).spell (byte cut).fits bytes x
byte_takes cut [] x fits e = absurd cc
byte_takes {K} cut (b ∷ bs) x fits e =
    let made : ℕ × List ℕ = (b, bs) in
    let all : Takes (byte cut).spell (byte cut).fits (b ∷ bs) made = record { parts = refl; rest_fits = IsBytes-rest b bs fits; fit = lt-ltb _ _ (fits 0) } in
    subst (λ (y : ℕ × List ℕ). Takes (byte cut).spell (byte cut).fits (b ∷ bs) y) (ok_is (Fault K) made x e) all

byte_within : {K : Type 0} (cut : K) (bytes : List ℕ) (d : Fault K) → byte_at cut bytes ≡ Err d → d.left ≤ length bytes
byte_within cut [] d e = fault_within cut [] [] d (omega arith) cc
byte_within cut (b ∷ bs) d e = absurd cc

byte_shorter : {K : Type 0} (cut : K) (bytes : List ℕ) (x : ℕ × List ℕ) → byte_at cut bytes ≡ Ok x → length x.1 ≤ length bytes
byte_shorter cut [] x e = absurd cc
byte_shorter {K} cut (b ∷ bs) x e = let made : ℕ × List ℕ = (b, bs) in rw (sym (ok_is (Fault K) made x e)) (omega arith)

pub byte_law : {K : Type 0} (cut : K) → IsFormat (byte cut)
byte_law cut = record {
  takes = byte_takes cut;
  again = λ x rest fit. refl;
  reading = record { within = byte_within cut; shorter = byte_shorter cut };
}

-- a number of bytes that holds every number below its bound, once
pub record IsWide (w : Width) : Type 0 where
  pub len : (n : ℕ) → length (to_be_bytes w n) ≡ byte_len w
  pub back : (bytes : List ℕ) → length bytes ≡ byte_len w → IsBytes bytes → to_be_bytes w (from_be_bytes w bytes) ≡ bytes
  pub again : (n : ℕ) → n < 256 ^ byte_len w → from_be_bytes w (to_be_bytes w n) ≡ n
  pub below : (bytes : List ℕ) → IsBytes bytes → from_be_bytes w bytes < 256 ^ byte_len w
  pub bound : 2 ^ bits w ≡ 256 ^ byte_len w

pub wide16 : IsWide w16
wide16 = record {
  len = λ n. refl;
  back = λ bytes len fits. be_bytes_2 bytes _ len fits refl;
  again = λ n lt. from_be_bytes-to_be_bytes_2 n lt;
  below = λ bytes fits. omega (arith, fits 0, fits 1);
  bound = refl;
}

pub wide32 : IsWide w32
wide32 = record {
  len = λ n. refl;
  back = λ bytes len fits. be_bytes_4 bytes _ len fits refl;
  again = λ n lt. from_be_bytes-to_be_bytes_4 n lt;
  below = λ bytes fits. omega (arith, fits 0, fits 1, fits 2, fits 3);
  bound = refl;
}

pub wide64 : IsWide w64
wide64 = record {
  len = λ n. refl;
  back = λ bytes len fits. be_bytes_8 bytes _ len fits refl;
  again = λ n lt. from_be_bytes-to_be_bytes_8 n lt;
  below = λ bytes fits. omega (arith, fits 0, fits 1, fits 2, fits 3, fits 4, fits 5, fits 6, fits 7);
  bound = refl;
}

number_takes : {K : Type 0} (w : Width) (cut : K) → IsWide w → (bytes : List ℕ) (x : ℕ × List ℕ) → IsBytes bytes → number_at w cut bytes ≡ Ok x → Takes (number w cut).spell (number w cut).fits bytes x
number_takes {K} w cut wide bytes x fits e =
    let made : ℕ × List ℕ = (from_be_bytes w (take (byte_len w) bytes), drop (byte_len w) bytes) in
    let g = guard_ok {F = Fault K} (ltb (length bytes) (byte_len w)) (fault_at cut bytes) made x e in
    let long : byte_len w ≤ length bytes = ltb-false _ _ g.0 in
    let front : to_be_bytes w made.0 ≡ take (byte_len w) bytes = wide.back (take (byte_len w) bytes) (length-take-le (byte_len w) bytes long) (IsBytes-take (byte_len w) bytes fits) in
    let t : Takes (number w cut).spell (number w cut).fits bytes made = record {
      parts = rw front (sym (take-append-drop (byte_len w) bytes));
      rest_fits = IsBytes-drop (byte_len w) bytes fits;
      fit = lt-ltb _ _ (wide.below (take (byte_len w) bytes) (IsBytes-take (byte_len w) bytes fits));
    } in
    subst (λ (y : ℕ × List ℕ). Takes (number w cut).spell (number w cut).fits bytes y) g.1 t

number_again : {K : Type 0} (w : Width) (cut : K) → IsWide w → (n : ℕ) (rest : List ℕ) → n < 256 ^ byte_len w → number_at w cut (to_be_bytes w n ++ rest) ≡ Ok (n, rest)
number_again w cut wide n rest lt =
    let len = wide.len n in
    let long : ltb (length (to_be_bytes w n ++ rest)) (byte_len w) ≡ false = le-ltb _ _ (omega (arith, length-append (to_be_bytes w n) rest)) in
    rw (long, take_at (to_be_bytes w n) rest (byte_len w) len, drop_at (to_be_bytes w n) rest (byte_len w) len, wide.again n lt) refl

pub number_reading : {K : Type 0} (w : Width) (cut : K) → IsReading (number_at w cut)
number_reading {K} w cut = record {
  within = λ bytes d e. fault_within cut bytes bytes d (omega arith) (guard_err {A = ℕ × List ℕ} (ltb (length bytes) (byte_len w)) (fault_at cut bytes) d (from_be_bytes w (take (byte_len w) bytes), drop (byte_len w) bytes) e);
  shorter = λ bytes x e.
      let made : ℕ × List ℕ = (from_be_bytes w (take (byte_len w) bytes), drop (byte_len w) bytes) in
      let g = guard_ok {F = Fault K} (ltb (length bytes) (byte_len w)) (fault_at cut bytes) made x e in
      rw (sym g.1) (omega (arith, length-drop (byte_len w) bytes));
}

pub number_law : {K : Type 0} (w : Width) (cut : K) → IsWide w → IsFormat (number w cut)
number_law w cut wide = record {
  takes = number_takes w cut wide;
  again = λ n rest fit. number_again w cut wide n rest (ltb-true _ _ fit);
  reading = number_reading w cut;
}

pub signed_law : {K : Type 0} (w : Width) (cut : K) → IsWide w → IsFormat (signed w cut)
signed_law {K} w cut wide = record {
  takes = λ bytes x fits e.
      let a = bind_ok (number_at w cut bytes) (λ p. Ok (cast_signed w p.0, p.1)) x e in
      let s = number_takes w cut wide bytes a.0 fits a.1 in
      let below : a.0.0 < 2 ^ bits w = subst (λ (k : ℕ). a.0.0 < k) (sym wide.bound) (ltb-true _ _ s.fit) in
      let back : cast_unsigned w (cast_signed w a.0.0) ≡ a.0.0 = of_z-to_z w a.0.0 below in
      let made : ℤ × List ℕ = (cast_signed w a.0.0, a.0.1) in
      let same : int_eq (cast_signed w (cast_unsigned w made.0)) made.0 ≡ true = (Decides-int_eq (cast_signed w (cast_unsigned w made.0)) made.0).1 (ap (cast_signed w) back) in
      let all : Takes (signed w cut).spell (signed w cut).fits bytes made = record {
        parts = rw back s.parts;
        rest_fits = s.rest_fits;
        fit = both _ _ (rw back s.fit) same;
      } in
      subst (λ (y : ℤ × List ℕ). Takes (signed w cut).spell (signed w cut).fits bytes y) (ok_is (Fault K) made x a.2) all;
  again = λ z rest fit.
      let one = number_again w cut wide (cast_unsigned w z) rest (ltb-true _ _ (first_true _ _ fit)) in
      let same : cast_signed w (cast_unsigned w z) ≡ z = (Decides-int_eq (cast_signed w (cast_unsigned w z)) z).0 (second_true (ltb (cast_unsigned w z) (256 ^ byte_len w)) (int_eq (cast_signed w (cast_unsigned w z)) z) fit) in
      rw one (ap (λ (y : ℤ). Ok (y, rest)) same);
  reading = ok_reading (number_at w cut) (cast_signed w) (number_reading w cut);
}

-- ---- texts

words_reading : {K : Type 0} (wrong : K) (text : List ℕ) → IsReading (words_at wrong text)
words_reading {K} wrong text = record {
  within = λ bytes d e. fault_within wrong bytes bytes d (omega arith) (guard_cut {A = Unit {0} × List ℕ} (bytes_eq (take (length text) bytes) text) (fault_at wrong bytes) d (tt, drop (length text) bytes) e);
  shorter = λ bytes x e.
      let made : Unit {0} × List ℕ = (tt, drop (length text) bytes) in
      let g = guard_ended {F = Fault K} (bytes_eq (take (length text) bytes) text) (fault_at wrong bytes) made x e in
      rw (sym g.1) (omega (arith, length-drop (length text) bytes));
}

words_takes : {K : Type 0} (wrong : K) (text bytes : List ℕ) (x : Unit {0} × List ℕ) → IsBytes bytes → words_at wrong text bytes ≡ Ok x → Takes (words wrong text).spell (words wrong text).fits bytes x
words_takes {K} wrong text bytes x fits e =
    let made : Unit {0} × List ℕ = (tt, drop (length text) bytes) in
    let g = guard_ended {F = Fault K} (bytes_eq (take (length text) bytes) text) (fault_at wrong bytes) made x e in
    let front : take (length text) bytes ≡ text = (bytes_eq-Decides (take (length text) bytes) text).0 g.0 in
    let all : Takes (words wrong text).spell (words wrong text).fits bytes made = record {
      parts = sym (take-append-drop (length text) bytes) ∙ ap (λ (t : List ℕ). t ++ drop (length text) bytes) front;
      rest_fits = IsBytes-drop (length text) bytes fits;
      fit = refl;
    } in
    subst (λ (y : Unit {0} × List ℕ). Takes (words wrong text).spell (words wrong text).fits bytes y) g.1 all

words_again : {K : Type 0} (wrong : K) (text rest : List ℕ) → words_at wrong text (text ++ rest) ≡ Ok (tt, rest)
words_again wrong text rest =
    let same : bytes_eq text text ≡ true = (bytes_eq-Decides text text).1 refl in
    rw (take_at text rest (length text) refl, drop_at text rest (length text) refl, same) refl

pub words_law : {K : Type 0} (wrong : K) (text : List ℕ) → IsFormat (words wrong text)
words_law wrong text = record {
  takes = words_takes wrong text;
  again = λ x rest fit. words_again wrong text rest;
  reading = words_reading wrong text;
}

-- ---- one behind the other

pub pair_law : {K A B : Type 0} (f : Format K A) (g : Format K B) → IsFormat f → IsFormat g → IsFormat (f · g)
pair_law {K} {A} {B} f g F G = record {
  takes = λ bytes x fits e.
      let a = bind_ok (f.read bytes) (λ p. g.read p.1 >>= λ q. Ok ((p.0, q.0), q.1)) x e in
      let b = bind_ok (g.read a.0.1) (λ q. Ok ((a.0.0, q.0), q.1)) x a.2 in
      let s = F.takes bytes a.0 fits a.1 in
      let t = G.takes a.0.1 b.0 s.rest_fits b.1 in
      let made : (A × B) × List ℕ = ((a.0.0, b.0.0), b.0.1) in
      let all : Takes (f · g).spell (f · g).fits bytes made = record {
        parts = s.parts ∙ ap (λ (r : List ℕ). f.spell a.0.0 ++ r) t.parts ∙ sym (append_assoc (f.spell a.0.0) (g.spell b.0.0) b.0.1);
        rest_fits = t.rest_fits;
        fit = both _ _ s.fit t.fit;
      } in
      subst (λ (y : (A × B) × List ℕ). Takes (f · g).spell (f · g).fits bytes y) (ok_is (Fault K) made x b.2) all;
  again = λ x rest fit.
      let one = F.again x.0 (g.spell x.1 ++ rest) (first_true _ _ fit) in
      let two = G.again x.1 rest (second_true _ _ fit) in
      ap (f · g).read (append_assoc (f.spell x.0) (g.spell x.1) rest) ∙ rw (one, two) refl;
  reading = then_reading f.read (λ a. g.read) (λ a b. (a, b)) F.reading (λ a. G.reading);
}

pub then_law : {K A B : Type 0} (f : Format K A) (g : A → Format K B) → IsFormat f → ((a : A) → IsFormat (g a)) → IsFormat (f ▹ g)
then_law {K} {A} {B} f g F G = record {
  takes = λ bytes x fits e.
      let a = bind_ok (f.read bytes) (λ p. (g p.0).read p.1 >>= λ q. Ok ((p.0, q.0), q.1)) x e in
      let b = bind_ok ((g a.0.0).read a.0.1) (λ q. Ok ((a.0.0, q.0), q.1)) x a.2 in
      let s = F.takes bytes a.0 fits a.1 in
      let t = (G a.0.0).takes a.0.1 b.0 s.rest_fits b.1 in
      let made : (A × B) × List ℕ = ((a.0.0, b.0.0), b.0.1) in
      let all : Takes (f ▹ g).spell (f ▹ g).fits bytes made = record {
        parts = s.parts ∙ ap (λ (r : List ℕ). f.spell a.0.0 ++ r) t.parts ∙ sym (append_assoc (f.spell a.0.0) ((g a.0.0).spell b.0.0) b.0.1);
        rest_fits = t.rest_fits;
        fit = both _ _ s.fit t.fit;
      } in
      subst (λ (y : (A × B) × List ℕ). Takes (f ▹ g).spell (f ▹ g).fits bytes y) (ok_is (Fault K) made x b.2) all;
  again = λ x rest fit.
      let one = F.again x.0 ((g x.0).spell x.1 ++ rest) (first_true _ _ fit) in
      let two = (G x.0).again x.1 rest (second_true _ _ fit) in
      ap (f ▹ g).read (append_assoc (f.spell x.0) ((g x.0).spell x.1) rest) ∙ rw (one, two) refl;
  reading = then_reading f.read (λ a. (g a).read) (λ a b. (a, b)) F.reading (λ a. (G a).reading);
}

pub via_law : {K A B : Type 0} (make : A → B) (parts : B → A) (f : Format K A) → ((a : A) → IsTrue (f.fits a) → parts (make a) ≡ a) → ((b : B) → IsTrue (f.fits (parts b)) → make (parts b) ≡ b) → IsFormat f → IsFormat (via make parts f)
via_law {K} {A} {B} make parts f back forth F = record {
  takes = λ bytes x fits e.
      let a = bind_ok (f.read bytes) (λ p. Ok (make p.0, p.1)) x e in
      let s = F.takes bytes a.0 fits a.1 in
      let b = back a.0.0 s.fit in
      let made : B × List ℕ = (make a.0.0, a.0.1) in
      let all : Takes (via make parts f).spell (via make parts f).fits bytes made = record {
        parts = rw b s.parts;
        rest_fits = s.rest_fits;
        fit = rw b s.fit;
      } in
      subst (λ (y : B × List ℕ). Takes (via make parts f).spell (via make parts f).fits bytes y) (ok_is (Fault K) made x a.2) all;
  again = λ x rest fit. rw (F.again (parts x) rest fit, forth x fit) refl;
  reading = ok_reading f.read make F.reading;
}

part_again : {K A B : Type 0} (make : A → B) (parts : B → Option A) (f : Format K A) → ((b : B) (a : A) → parts b ≡ Some a → b ≡ make a) → IsFormat f → (b : B) (rest : List ℕ) (o : Option A) → parts b ≡ o → IsTrue (part_fits f (parts b)) → (as_case make parts f).read (part_spell f (parts b) ++ rest) ≡ Ok (b, rest)
part_again make parts f only F b rest (Some a) h fit =
    let fit' : IsTrue (f.fits a) = rw h at fit in
    let one = F.again a rest fit' in
    let whole_value = only b a h in
    rw (h, one) (ap (λ y. Ok (y, rest)) (sym whole_value))
part_again make parts f only F b rest None h fit = let no : false ≡ true = rw h at fit in absurd cc

pub as_case_law : {K A B : Type 0} (make : A → B) (parts : B → Option A) (f : Format K A) → ((a : A) → parts (make a) ≡ Some a) → ((b : B) (a : A) → parts b ≡ Some a → b ≡ make a) → IsFormat f → IsFormat (as_case make parts f)
as_case_law {K} {A} {B} make parts f made only F = record {
  takes = λ bytes x fits e.
      let a = bind_ok (f.read bytes) (λ p. Ok (make p.0, p.1)) x e in
      let s = F.takes bytes a.0 fits a.1 in
      let m = made a.0.0 in
      let value : B × List ℕ = (make a.0.0, a.0.1) in
      let all : Takes (as_case make parts f).spell (as_case make parts f).fits bytes value = record {
        parts = rw m s.parts;
        rest_fits = s.rest_fits;
        fit = rw m s.fit;
      } in
      subst (λ (y : B × List ℕ). Takes (as_case make parts f).spell (as_case make parts f).fits bytes y) (ok_is (Fault K) value x a.2) all;
  again = λ b rest fit. part_again make parts f only F b rest (parts b) refl fit;
  reading = ok_reading f.read make F.reading;
}

known_forth : (n k : ℕ) (u : Unit {0}) → is_number n k ≡ Some u → k ≡ n
known_forth n k u h = elim (cases_Bool (eqb k n)) [ inl hit ↦ eqb-true _ _ hit | inr miss ↦ let no : None ≡ Some u = rw miss at h in absurd cc ]

known_back : (n : ℕ) (u : Unit {0}) → is_number n n ≡ Some u
known_back n u = let same : eqb n n ≡ true = grind arith in rw same refl

pub known_law : {K : Type 0} (n : ℕ) → IsFormat (known {K = K} n)
known_law n = as_case_law (λ _. n) (is_number n) void (known_back n) (λ k u h. known_forth n k u h) void_law

pub after_law : {K A : Type 0} (wrong : K) (text : List ℕ) (f : Format K A) → IsFormat f → IsFormat (after wrong text f)
after_law {K} {A} wrong text f F = record {
  takes = λ bytes x fits e.
      let a = bind_ok (words_at wrong text bytes) (λ p. f.read p.1) x e in
      let s = words_takes wrong text bytes a.0 fits a.1 in
      let t = F.takes a.0.1 x s.rest_fits a.2 in
      record {
        parts = s.parts ∙ ap (λ (r : List ℕ). text ++ r) t.parts ∙ sym (append_assoc text (f.spell x.0) x.1);
        rest_fits = t.rest_fits;
        fit = t.fit;
      };
  again = λ x rest fit.
      let one = words_again wrong text (f.spell x ++ rest) in
      ap (after wrong text f).read (append_assoc text (f.spell x) rest) ∙ rw one (F.again x rest fit);
  reading = bind_reading (words_at wrong text) (λ p. f.read p.1) (words_reading wrong text) (λ x d e. F.reading.within x.1 d e) (λ x y e. F.reading.shorter x.1 y e);
}

pub ended_law : {K A : Type 0} (wrong : K) (f : Format K A) (text : List ℕ) → IsFormat f → IsFormat (ended wrong f text)
ended_law {K} {A} wrong f text F = record {
  takes = λ bytes x fits e.
      let a = bind_ok (f.read bytes) (λ p. words_at wrong text p.1 >>= λ q. Ok (p.0, q.1)) x e in
      let b = bind_ok (words_at wrong text a.0.1) (λ q. Ok (a.0.0, q.1)) x a.2 in
      let s = F.takes bytes a.0 fits a.1 in
      let t = words_takes wrong text a.0.1 b.0 s.rest_fits b.1 in
      let made : A × List ℕ = (a.0.0, b.0.1) in
      let all : Takes (ended wrong f text).spell (ended wrong f text).fits bytes made = record {
        parts = s.parts ∙ ap (λ (r : List ℕ). f.spell a.0.0 ++ r) t.parts ∙ sym (append_assoc (f.spell a.0.0) text b.0.1);
        rest_fits = t.rest_fits;
        fit = s.fit;
      } in
      subst (λ (y : A × List ℕ). Takes (ended wrong f text).spell (ended wrong f text).fits bytes y) (ok_is (Fault K) made x b.2) all;
  again = λ x rest fit.
      let one = F.again x (text ++ rest) fit in
      let two = words_again wrong text rest in
      ap (ended wrong f text).read (append_assoc (f.spell x) text rest) ∙ rw (one, two) refl;
  reading = then_reading f.read (λ a. words_at wrong text) (λ a u. a) F.reading (λ a. words_reading wrong text);
}

-- ---- tests

pub such_law : {K A : Type 0} (test : A → Option K) (f : Format K A) → IsFormat f → IsFormat (such test f)
such_law {K} {A} test f F = record {
  takes = λ bytes x fits e.
      let a = bind_ok (f.read bytes) (λ p. passed (test p.0) bytes p) x e in
      let g = passed_ok (test a.0.0) bytes a.0 x a.2 in
      let s = F.takes bytes a.0 fits a.1 in
      let all : Takes (such test f).spell (such test f).fits bytes a.0 = record { parts = s.parts; rest_fits = s.rest_fits; fit = both _ _ s.fit g.0 } in
      subst (λ (y : A × List ℕ). Takes (such test f).spell (such test f).fits bytes y) g.1 all;
  again = λ x rest fit. rw (F.again x rest (first_true _ _ fit)) (passed_none (test x) (f.spell x ++ rest) (x, rest) (second_true (f.fits x) (is_good (test x)) fit));
  reading = record {
    within = λ bytes d e. elim (bind_err (f.read bytes) (λ p. passed (test p.0) bytes p) d e) [ inl h ↦ F.reading.within bytes d h | inr h ↦ passed_err (test h.0.0) bytes h.0 d h.2 ];
    shorter = λ bytes x e.
        let a = bind_ok (f.read bytes) (λ p. passed (test p.0) bytes p) x e in
        let g = passed_ok (test a.0.0) bytes a.0 x a.2 in
        rw (sym g.1) (F.reading.shorter bytes a.0 a.1);
  };
}

-- a choice by a test that is known
pub cond_law : {K A : Type 0} (b : Bool) (f g : Format K A) → IsFormat f → IsFormat g → IsFormat (cond b f g)
cond_law true f g F G = F
cond_law false f g F G = G

literal_back : {K : Type 0} (k n : ℕ) (wrong : K) → IsTrue (is_good (cond (eqb k n) None (Some wrong))) → n ≡ k
literal_back {K} k n wrong h =
    elim (cases_Bool (eqb k n)) [
      | inl hit ↦ sym (eqb-true _ _ hit)
      | inr miss ↦ let no : false ≡ true = rw miss at h in absurd cc
    ]

unit_is : (x : Unit {0}) → tt ≡ x
unit_is x = refl

pub literal_law : {K : Type 0} (count : Format K ℕ) (wrong : K) (n : ℕ) → IsFormat count → IsFormat (literal count wrong n)
literal_law {K} count wrong n C = via_law (λ _. tt) (λ _. n) (such (λ k. cond (eqb k n) None (Some wrong)) count)
    (λ k fit. literal_back {K = K} k n wrong (second_true (count.fits k) (is_good (cond (eqb k n) None (Some wrong))) fit))
    (λ x fit. unit_is x) (such_law (λ k. cond (eqb k n) None (Some wrong)) count C)
