-- The laws of values by a state.
use Rattle.std.proofs.Common.{◌≡◌, ℕ, zero, suc, ◌+◌, ◌<◌, ◌≤◌, List, [], ◌∷◌, ◌++◌, length, Ok, Err, refl, sym, ap, subst, ◌∙◌, append_assoc, arith, inl, inr}
use Rattle.std.specs.Prelude.{IsTrue}
use Rattle.std.proofs.lemmas.List.{length-append}
use Rattle.jground.specs.jbase.MemoryFailures.{◌>>=◌}
use Rattle.jground.specs.declared.jformat.error.Fault.{Fault}
use Rattle.jground.specs.jformat.Format.{IsBytes, Answer, Format}
use Rattle.jground.specs.jformat.StatefulFormats.{times_from, many_from, spell_from, fits_from, counted_from, many_by}
use Rattle.jground.proofs.JformatProofs.ReadingSteps.{bind_ok, bind_err, ok_is, both, first_true, second_true, fault_within}
use Rattle.jground.proofs.JformatProofs.FormatLaws.{IsReading, IsFormat, HasBytes, bind_reading}
use Rattle.jground.proofs.JformatProofs.Blocks.{IsBody}

record TakesFrom {K S A : Type 0} (f : S → Format K A) (next : S → A → S) (s : S) (bytes : List ℕ) (n : ℕ) (x : List A × List ℕ) : Type 0 where
  parts : bytes ≡ spell_from (λ t. (f t).spell) next s x.0 ++ x.1
  rest_fits : IsBytes x.1
  fit : IsTrue (fits_from (λ t. (f t).fits) next s x.0)
  len : length x.0 ≡ n

from_take : {K S A : Type 0} (f : S → Format K A) (next : S → A → S) → ((s : S) → IsFormat (f s)) → (s : S) (n : ℕ) (bytes : List ℕ) (x : List A × List ℕ) → IsBytes bytes → times_from (λ t. (f t).read) next s n bytes ≡ Ok x → TakesFrom f next s bytes n x
unfolding times_from spell_from fits_from
from_take {K} {S} {A} f next F s zero bytes x fits e =
    let made : List A × List ℕ = ([], bytes) in
    let whole_list : TakesFrom f next s bytes 0 made = record { parts = refl; rest_fits = fits; fit = refl; len = refl } in
    subst (λ (y : List A × List ℕ). TakesFrom f next s bytes 0 y) (ok_is (Fault K) made x e) whole_list
from_take {K} {S} {A} f next F s (suc n) bytes x fits e =
    let a = bind_ok ((f s).read bytes) (λ p. times_from (λ t. (f t).read) next (next s p.0) n p.1 >>= λ q. Ok (p.0 ∷ q.0, q.1)) x e in
    let b = bind_ok (times_from (λ t. (f t).read) next (next s a.0.0) n a.0.1) (λ q. Ok (a.0.0 ∷ q.0, q.1)) x a.2 in
    let h = (F s).takes bytes a.0 fits a.1 in
    let t = from_take f next F (next s a.0.0) n a.0.1 b.0 h.rest_fits b.1 in
    let made : List A × List ℕ = (a.0.0 ∷ b.0.0, b.0.1) in
    let whole_list : TakesFrom f next s bytes (suc n) made = record {
      parts = h.parts ∙ ap (λ (r : List ℕ). (f s).spell a.0.0 ++ r) t.parts ∙ sym (append_assoc ((f s).spell a.0.0) (spell_from (λ u. (f u).spell) next (next s a.0.0) b.0.0) b.0.1);
      rest_fits = t.rest_fits;
      fit = both _ _ h.fit t.fit;
      len = ap suc t.len;
    } in
    subst (λ (y : List A × List ℕ). TakesFrom f next s bytes (suc n) y) (ok_is (Fault K) made x b.2) whole_list

from_again : {K S A : Type 0} (f : S → Format K A) (next : S → A → S) → ((s : S) → IsFormat (f s)) → (s : S) (xs : List A) (rest : List ℕ) → IsTrue (fits_from (λ t. (f t).fits) next s xs) → times_from (λ t. (f t).read) next s (length xs) (spell_from (λ t. (f t).spell) next s xs ++ rest) ≡ Ok (xs, rest)
unfolding times_from spell_from fits_from
from_again f next F s [] rest fit = refl
from_again f next F s (x ∷ xs) rest fit =
    let one = (F s).again x (spell_from (λ t. (f t).spell) next (next s x) xs ++ rest) (first_true ((f s).fits x) (fits_from (λ t. (f t).fits) next (next s x) xs) fit) in
    let others = from_again f next F (next s x) xs rest (second_true ((f s).fits x) (fits_from (λ t. (f t).fits) next (next s x) xs) fit) in
    ap (times_from (λ t. (f t).read) next s (suc (length xs))) (append_assoc ((f s).spell x) (spell_from (λ t. (f t).spell) next (next s x) xs) rest) ∙ rw (one, others) refl

from_within : {K S A : Type 0} (read : S → List ℕ → Answer K A) (next : S → A → S) → ((s : S) → IsReading (read s)) → (s : S) (n : ℕ) (bytes : List ℕ) (d : Fault K) → times_from read next s n bytes ≡ Err d → d.left ≤ length bytes
unfolding times_from
from_within read next R s zero bytes d e = absurd cc
from_within read next R s (suc n) bytes d e =
    elim (bind_err (read s bytes) (λ p. times_from read next (next s p.0) n p.1 >>= λ q. Ok (p.0 ∷ q.0, q.1)) d e) [
      | inl h ↦ (R s).within bytes d h
      | inr h ↦
          let le = (R s).shorter bytes h.0 h.1 in
          elim (bind_err (times_from read next (next s h.0.0) n h.0.1) (λ q. Ok (h.0.0 ∷ q.0, q.1)) d h.2) [
            | inl m ↦ let in_rest : d.left ≤ length h.0.1 = from_within read next R (next s h.0.0) n h.0.1 d m in omega arith
            | inr m ↦ absurd cc
          ]
    ]

from_shorter : {K S A : Type 0} (read : S → List ℕ → Answer K A) (next : S → A → S) → ((s : S) → IsReading (read s)) → (s : S) (n : ℕ) (bytes : List ℕ) (x : List A × List ℕ) → times_from read next s n bytes ≡ Ok x → length x.1 ≤ length bytes
unfolding times_from
from_shorter {K} {S} {A} read next R s zero bytes x e = let made : List A × List ℕ = ([], bytes) in rw (sym (ok_is (Fault K) made x e)) (omega arith)
from_shorter {K} {S} {A} read next R s (suc n) bytes x e =
    let a = bind_ok (read s bytes) (λ p. times_from read next (next s p.0) n p.1 >>= λ q. Ok (p.0 ∷ q.0, q.1)) x e in
    let b = bind_ok (times_from read next (next s a.0.0) n a.0.1) (λ q. Ok (a.0.0 ∷ q.0, q.1)) x a.2 in
    let one = (R s).shorter bytes a.0 a.1 in
    let two = from_shorter read next R (next s a.0.0) n a.0.1 b.0 b.1 in
    let made : List A × List ℕ = (a.0.0 ∷ b.0.0, b.0.1) in
    rw (sym (ok_is (Fault K) made x b.2)) (omega arith)

pub from_reading : {K S A : Type 0} (read : S → List ℕ → Answer K A) (next : S → A → S) → ((s : S) → IsReading (read s)) → (s : S) (n : ℕ) → IsReading (times_from read next s n)
from_reading read next R s n = record { within = from_within read next R s n; shorter = from_shorter read next R s n }

pub counted_from_law : {K S A : Type 0} (count : Format K ℕ) (f : S → Format K A) (next : S → A → S) → IsFormat count → ((s : S) → IsFormat (f s)) → (s : S) → IsFormat (counted_from count f next s)
counted_from_law {K} {S} {A} count f next C F s = record {
  takes = λ bytes x fits e.
      let a = bind_ok (count.read bytes) (λ n. times_from (λ t. (f t).read) next s n.0 n.1) x e in
      let h = C.takes bytes a.0 fits a.1 in
      let t = from_take f next F s a.0.0 a.0.1 x h.rest_fits a.2 in
      record {
        parts = rw t.len (h.parts ∙ ap (λ (r : List ℕ). count.spell a.0.0 ++ r) t.parts ∙ sym (append_assoc (count.spell a.0.0) (spell_from (λ u. (f u).spell) next s x.0) x.1));
        rest_fits = t.rest_fits;
        fit = both _ _ t.fit (rw t.len h.fit);
      };
  again = λ xs rest fit.
      let one = C.again (length xs) (spell_from (λ t. (f t).spell) next s xs ++ rest) (second_true (fits_from (λ t. (f t).fits) next s xs) (count.fits (length xs)) fit) in
      ap (counted_from count f next s).read (append_assoc (count.spell (length xs)) (spell_from (λ t. (f t).spell) next s xs) rest) ∙ rw one (from_again f next F s xs rest (first_true (fits_from (λ t. (f t).fits) next s xs) (count.fits (length xs)) fit));
  reading = bind_reading count.read (λ n. times_from (λ t. (f t).read) next s n.0 n.1) C.reading (λ x d e. from_within (λ t. (f t).read) next (λ t. (F t).reading) s x.0 x.1 d e) (λ x y e. from_shorter (λ t. (f t).read) next (λ t. (F t).reading) s x.0 x.1 y e);
}

many_from_takes : {K S A : Type 0} (more : K) (f : S → Format K A) (next : S → A → S) → ((s : S) → IsFormat (f s)) → (s : S) (n : ℕ) (bytes : List ℕ) (xs : List A) → IsBytes bytes → many_from more (λ t. (f t).read) next s n bytes ≡ Ok xs → IsTrue (fits_from (λ t. (f t).fits) next s xs) × (bytes ≡ spell_from (λ t. (f t).spell) next s xs)
unfolding many_from spell_from fits_from
many_from_takes {K} {S} {A} more f next F s zero [] xs fits e = let none : [] ≡ xs = ok_is (Fault K) [] xs e in subst (λ (ys : List A). IsTrue (fits_from (λ t. (f t).fits) next s ys) × ([] ≡ spell_from (λ t. (f t).spell) next s ys)) none (refl, refl)
many_from_takes more f next F s zero (b ∷ bs) xs fits e = absurd cc
many_from_takes {K} {S} {A} more f next F s (suc n) [] xs fits e = let none : [] ≡ xs = ok_is (Fault K) [] xs e in subst (λ (ys : List A). IsTrue (fits_from (λ t. (f t).fits) next s ys) × ([] ≡ spell_from (λ t. (f t).spell) next s ys)) none (refl, refl)
many_from_takes {K} {S} {A} more f next F s (suc n) (b ∷ bs) xs fits e =
    let a = bind_ok ((f s).read (b ∷ bs)) (λ p. many_from more (λ t. (f t).read) next (next s p.0) n p.1 >>= λ q. Ok (p.0 ∷ q)) xs e in
    let c = bind_ok (many_from more (λ t. (f t).read) next (next s a.0.0) n a.0.1) (λ q. Ok (a.0.0 ∷ q)) xs a.2 in
    let h = (F s).takes (b ∷ bs) a.0 fits a.1 in
    let t = many_from_takes more f next F (next s a.0.0) n a.0.1 c.0 h.rest_fits c.1 in
    let made : List A = a.0.0 ∷ c.0 in
    let text : b ∷ bs ≡ spell_from (λ u. (f u).spell) next s made = h.parts ∙ ap (λ (r : List ℕ). (f s).spell a.0.0 ++ r) t.1 in
    subst (λ (ys : List A). IsTrue (fits_from (λ u. (f u).fits) next s ys) × (b ∷ bs ≡ spell_from (λ u. (f u).spell) next s ys)) (ok_is (Fault K) made xs c.2) (both _ _ h.fit t.0, text)

pub many_from_some : {K S A : Type 0} (more : K) (read : S → List ℕ → Answer K A) (next : S → A → S) (s : S) (n : ℕ) (bytes : List ℕ) → 0 < length bytes → many_from more read next s (suc n) bytes ≡ (read s bytes >>= λ x. many_from more read next (next s x.0) n x.1 >>= λ y. Ok (x.0 ∷ y))
unfolding many_from
many_from_some more read next s n [] lt = absurd (omega arith)
many_from_some more read next s n (b ∷ bs) lt = refl

many_from_again : {K S A : Type 0} (more : K) (f : S → Format K A) (next : S → A → S) → ((s : S) → IsFormat (f s)) → ((s : S) → HasBytes (f s)) → (s : S) (xs : List A) (n : ℕ) → length (spell_from (λ t. (f t).spell) next s xs) ≤ n → IsTrue (fits_from (λ t. (f t).fits) next s xs) → many_from more (λ t. (f t).read) next s n (spell_from (λ t. (f t).spell) next s xs) ≡ Ok xs
unfolding many_from spell_from fits_from
many_from_again more f next F some s [] zero le fit = refl
many_from_again more f next F some s [] (suc n) le fit = refl
many_from_again more f next F some s (x ∷ xs) zero le fit =
    let lt = some s x (first_true ((f s).fits x) (fits_from (λ t. (f t).fits) next (next s x) xs) fit) in
    absurd (omega (arith, length-append ((f s).spell x) (spell_from (λ t. (f t).spell) next (next s x) xs)))
many_from_again more f next F some s (x ∷ xs) (suc n) le fit =
    let fit_x = first_true ((f s).fits x) (fits_from (λ t. (f t).fits) next (next s x) xs) fit in
    let lt = some s x fit_x in
    let sum : length ((f s).spell x ++ spell_from (λ t. (f t).spell) next (next s x) xs) ≡ length ((f s).spell x) + length (spell_from (λ t. (f t).spell) next (next s x) xs) = length-append ((f s).spell x) (spell_from (λ t. (f t).spell) next (next s x) xs) in
    let le' : length (spell_from (λ t. (f t).spell) next (next s x) xs) ≤ n = omega arith in
    let others = many_from_again more f next F some (next s x) xs n le' (second_true ((f s).fits x) (fits_from (λ t. (f t).fits) next (next s x) xs) fit) in
    let one = (F s).again x (spell_from (λ t. (f t).spell) next (next s x) xs) fit_x in
    let long : 0 < length ((f s).spell x ++ spell_from (λ t. (f t).spell) next (next s x) xs) = omega arith in
    many_from_some more (λ t. (f t).read) next s n ((f s).spell x ++ spell_from (λ t. (f t).spell) next (next s x) xs) long ∙ rw (one, others) refl

many_from_within : {K S A : Type 0} (more : K) (read : S → List ℕ → Answer K A) (next : S → A → S) → ((s : S) → IsReading (read s)) → (s : S) (n : ℕ) (bytes : List ℕ) (d : Fault K) → many_from more read next s n bytes ≡ Err d → d.left ≤ length bytes
unfolding many_from
many_from_within more read next R s zero [] d e = absurd cc
many_from_within more read next R s zero (b ∷ bs) d e = fault_within more (b ∷ bs) (b ∷ bs) d (omega arith) cc
many_from_within more read next R s (suc n) [] d e = absurd cc
many_from_within more read next R s (suc n) (b ∷ bs) d e =
    elim (bind_err (read s (b ∷ bs)) (λ p. many_from more read next (next s p.0) n p.1 >>= λ q. Ok (p.0 ∷ q)) d e) [
      | inl h ↦ (R s).within (b ∷ bs) d h
      | inr h ↦
          let le = (R s).shorter (b ∷ bs) h.0 h.1 in
          elim (bind_err (many_from more read next (next s h.0.0) n h.0.1) (λ q. Ok (h.0.0 ∷ q)) d h.2) [
            | inl m ↦ let in_rest : d.left ≤ length h.0.1 = many_from_within more read next R (next s h.0.0) n h.0.1 d m in omega arith
            | inr m ↦ absurd cc
          ]
    ]

pub many_by_law : {K S A : Type 0} (more : K) (f : S → Format K A) (next : S → A → S) → ((s : S) → IsFormat (f s)) → ((s : S) → HasBytes (f s)) → (s : S) → IsBody (many_by more f next s)
many_by_law more f next F some s = record {
  takes = λ bytes xs fits e. many_from_takes more f next F s (length bytes) bytes xs fits e;
  again = λ xs fit. many_from_again more f next F some s xs (length (spell_from (λ t. (f t).spell) next s xs)) (omega arith) fit;
  within = λ bytes d e. many_from_within more (λ t. (f t).read) next (λ t. (F t).reading) s (length bytes) bytes d e;
}
