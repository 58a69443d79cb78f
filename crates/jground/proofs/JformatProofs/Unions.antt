-- The laws of first bytes and of rows.
use Rattle.std.proofs.Common.{◌≡◌, ℕ, ◌<◌, ◌≤◌, Bool, true, false, ◌&&◌, not, cond, ltb, eqb, List, [], ◌∷◌, ◌++◌, length, Result, Ok, Err, refl, sym, ap, subst, ◌∙◌, arith, inl, inr}
use Rattle.std.specs.Prelude.{IsTrue}
use Rattle.std.proofs.lemmas.Bool.{cases_Bool, lt-ltb, eqb-true}
use Rattle.jground.specs.declared.jformat.error.Fault.{Fault}
use Rattle.jground.specs.jformat.Format.{IsBytes, Answer, Format}
use Rattle.jground.specs.jformat.TagTables.{is_in, apart, rows, rows_at, row_read}
use Rattle.jground.specs.ProofNames.{row_spell, row_fits}
use Rattle.jground.proofs.JformatProofs.ReadingSteps.{IsBytes-rest, bind_ok, bind_err, ok_is, both, first_true, second_true, fault_within}
use Rattle.jground.proofs.JformatProofs.FormatLaws.{Takes, IsReading, IsFormat, HasBytes, ok_reading}

pub is_in_append : (t : ℕ) (us vs : List ℕ) → is_in t (us ++ vs) ≡ cond (is_in t us) true (is_in t vs)
is_in_append t [] vs = refl
is_in_append t (u ∷ us) vs = elim (cases_Bool (eqb t u)) [ inl hit ↦ rw hit refl | inr miss ↦ rw miss (is_in_append t us vs) ]

not_true : (b : Bool) → IsTrue (not b) → b ≡ false
not_true true h = absurd cc
not_true false h = refl

true_or_false : (b : Bool) → b ≡ true → b ≡ false → ⊥
true_or_false b h k = cc

pub in_one : (t u : ℕ) → is_in t (u ∷ []) ≡ true → t ≡ u
in_one t u e = elim (cases_Bool (eqb t u)) [ inl hit ↦ eqb-true _ _ hit | inr miss ↦ absurd (true_or_false _ e (rw miss refl)) ]

pub not_in_first : (t : ℕ) (us vs : List ℕ) → IsTrue (apart us vs) → is_in t vs ≡ true → is_in t us ≡ false
not_in_first t [] vs A h = refl
not_in_first t (u ∷ us) vs A h =
    elim (cases_Bool (eqb t u)) [
      | inl hit ↦
          let same : t ≡ u = eqb-true _ _ hit in
          let out : is_in u vs ≡ false = not_true _ (first_true (not (is_in u vs)) (apart us vs) A) in
          absurd (true_or_false _ (ap (λ (k : ℕ). is_in k vs) (sym same) ∙ h) out)
      | inr miss ↦ rw miss (not_in_first t us vs (second_true (not (is_in u vs)) (apart us vs) A) h)
    ]

pub cond_reading : {K A : Type 0} (b : Bool) (r s : List ℕ → Answer K A) → IsReading r → IsReading s → IsReading (λ bytes. cond b (r bytes) (s bytes))
cond_reading true r s R S = R
cond_reading false r s R S = S

-- ---- rows

row_takes : {K R A : Type 0} (row : ℕ → Result R K) (f : R → Format K A) → ((r : R) → IsFormat (f r)) → (t : ℕ) (rest : List ℕ) (x : (ℕ × A) × List ℕ) → IsBytes rest → t < 256 → (o : Result R K) → row t ≡ o → row_read f t rest o ≡ Ok x → Takes (λ (p : ℕ × A). row_spell f p.0 p.1 (row p.0)) (λ (p : ℕ × A). ltb p.0 256 && row_fits f p.1 (row p.0)) (t ∷ rest) x
row_takes {K} {R} {A} row f F t rest x fits lt (Ok r) h e =
    let a = bind_ok ((f r).read rest) (λ y. Ok ((t, y.0), y.1)) x e in
    let s = (F r).takes rest a.0 fits a.1 in
    let made : (ℕ × A) × List ℕ = ((t, a.0.0), a.0.1) in
    let all : Takes (λ (p : ℕ × A). row_spell f p.0 p.1 (row p.0)) (λ (p : ℕ × A). ltb p.0 256 && row_fits f p.1 (row p.0)) (t ∷ rest) made = record {
      parts = rw h (ap (λ (r : List ℕ). t ∷ r) s.parts);
      rest_fits = s.rest_fits;
      fit = both _ _ (lt-ltb _ _ lt) (rw h s.fit);
    } in
    subst (λ (y : (ℕ × A) × List ℕ). Takes (λ (p : ℕ × A). row_spell f p.0 p.1 (row p.0)) (λ (p : ℕ × A). ltb p.0 256 && row_fits f p.1 (row p.0)) (t ∷ rest) y) (ok_is (Fault K) made x a.2) all
row_takes row f F t rest x fits lt (Err k) h e = absurd cc

rows_takes : {K R A : Type 0} (cut : K) (row : ℕ → Result R K) (f : R → Format K A) → ((r : R) → IsFormat (f r)) → (bytes : List ℕ) (x : (ℕ × A) × List ℕ) → IsBytes bytes → rows_at cut row f bytes ≡ Ok x → Takes (rows cut row f).spell (rows cut row f).fits bytes x
rows_takes cut row f F [] x fits e = absurd cc
rows_takes cut row f F (t ∷ rest) x fits e = row_takes row f F t rest x (IsBytes-rest t rest fits) (fits 0) (row t) refl e

row_within : {K R A : Type 0} (f : R → Format K A) → ((r : R) → IsFormat (f r)) → (t : ℕ) (rest : List ℕ) (d : Fault K) (o : Result R K) → row_read f t rest o ≡ Err d → d.left ≤ length (t ∷ rest)
row_within f F t rest d (Ok r) e = elim (bind_err ((f r).read rest) (λ y. Ok ((t, y.0), y.1)) d e) [ inl h ↦ let le = (F r).reading.within rest d h in omega arith | inr h ↦ absurd cc ]
row_within f F t rest d (Err k) e = fault_within k (t ∷ rest) (t ∷ rest) d (omega arith) cc

row_shorter : {K R A : Type 0} (f : R → Format K A) → ((r : R) → IsFormat (f r)) → (t : ℕ) (rest : List ℕ) (x : (ℕ × A) × List ℕ) (o : Result R K) → row_read f t rest o ≡ Ok x → length x.1 ≤ length (t ∷ rest)
row_shorter {K} {R} {A} f F t rest x (Ok r) e = let le : length x.1 ≤ length rest = (ok_reading {A = A} {B = ℕ × A} (f r).read (λ a. (t, a)) (F r).reading).shorter rest x e in omega arith
row_shorter f F t rest x (Err k) e = absurd cc

rows_within : {K R A : Type 0} (cut : K) (row : ℕ → Result R K) (f : R → Format K A) → ((r : R) → IsFormat (f r)) → (bytes : List ℕ) (d : Fault K) → rows_at cut row f bytes ≡ Err d → d.left ≤ length bytes
rows_within cut row f F [] d e = fault_within cut [] [] d (omega arith) cc
rows_within cut row f F (t ∷ rest) d e = row_within f F t rest d (row t) e

rows_shorter : {K R A : Type 0} (cut : K) (row : ℕ → Result R K) (f : R → Format K A) → ((r : R) → IsFormat (f r)) → (bytes : List ℕ) (x : (ℕ × A) × List ℕ) → rows_at cut row f bytes ≡ Ok x → length x.1 ≤ length bytes
rows_shorter cut row f F [] x e = absurd cc
rows_shorter cut row f F (t ∷ rest) x e = row_shorter f F t rest x (row t) e

row_again : {K R A : Type 0} (cut : K) (row : ℕ → Result R K) (f : R → Format K A) → ((r : R) → IsFormat (f r)) → (t : ℕ) (a : A) (rest : List ℕ) (o : Result R K) → row t ≡ o → IsTrue (row_fits f a (row t)) → rows_at cut row f (row_spell f t a (row t) ++ rest) ≡ Ok ((t, a), rest)
row_again cut row f F t a rest (Ok r) h fit =
    let fit' : IsTrue ((f r).fits a) = rw h at fit in
    let one = (F r).again a rest fit' in
    ap (λ (o : Result _ _). rows_at cut row f (row_spell f t a o ++ rest)) h ∙ rw (h, one) refl
row_again cut row f F t a rest (Err k) h fit = let no : false ≡ true = rw h at fit in absurd cc

-- Any table will do.
pub rows_law : {K R A : Type 0} (cut : K) (row : ℕ → Result R K) (f : R → Format K A) → ((r : R) → IsFormat (f r)) → IsFormat (rows cut row f)
rows_law cut row f F = record {
  takes = rows_takes cut row f F;
  again = λ p rest fit. row_again cut row f F p.0 p.1 rest (row p.0) refl (second_true (ltb p.0 256) (row_fits f p.1 (row p.0)) fit);
  reading = record { within = rows_within cut row f F; shorter = rows_shorter cut row f F };
}

row_some : {K R A : Type 0} (row : ℕ → Result R K) (f : R → Format K A) (t : ℕ) (a : A) (o : Result R K) → row t ≡ o → IsTrue (row_fits f a (row t)) → 0 < length (row_spell f t a (row t))
row_some row f t a (Ok r) h fit = rw h (omega arith)
row_some row f t a (Err k) h fit = let no : false ≡ true = rw h at fit in absurd cc

pub rows_some : {K R A : Type 0} (cut : K) (row : ℕ → Result R K) (f : R → Format K A) → HasBytes (rows cut row f)
rows_some cut row f p fit = row_some row f p.0 p.1 (row p.0) refl (second_true (ltb p.0 256) (row_fits f p.1 (row p.0)) fit)
