-- Texts, each once, and the numbers of their strings.
use Rattle.std.proofs.Common.{◌≡◌, ℕ, ◌+◌, Bool, true, false, cond, List, [], ◌∷◌, ◌++◌, length, Option, Some, refl, sym, ap, subst, ◌∙◌, arith, append_assoc}
use Rattle.std.specs.Prelude.{◌||◌, is_some}
use Rattle.std.specs.List.{list_any, range_with_len, zip}
use Rattle.std.specs.Str.{bytes_eq}
use Rattle.std.specs.Cmp.Lexicographic.{nat_list_eq_equiv}
use Rattle.std.proofs.lemmas.List.{append-nil}
use Rattle.std.proofs.lemmas.Slice.Eq.{bytes_eq-Decides}
use Rattle.jresolution.specs.juses.PoolTables.{Grows}
use Rattle.jsemantics.specs.jmachine.FieldInstructions.{out}
use Rattle.jsemantics.specs.jmachine.OpeningState.{constants_of, distinct}
use Rattle.jsemantics.specs.jmachine.Store.{constant_at}

-- a text stands among these
abbrev pub among : List ℕ → List (List ℕ) → Bool
among t texts = list_any (bytes_eq t) texts

same_text : (t : List ℕ) → bytes_eq t t ≡ true
same_text t = (bytes_eq-Decides t t).1 refl

turned : (s t : List ℕ) → bytes_eq s t ≡ bytes_eq t s
turned s t = nat_list_eq_equiv.symm s t

-- ---- one more text

-- a text behind others, where it stood already or not
abbrev pub unless_there : Bool → List (List ℕ) → List ℕ → List (List ℕ)
unless_there there texts t = cond there texts (texts ++ t ∷ [])

cons_unless : (b c : Bool) (x : List ℕ) (texts : List (List ℕ)) (t : List ℕ) → b ≡ c → x ∷ unless_there b texts t ≡ unless_there c (x ∷ texts) t
cons_unless true true x texts t e = refl
cons_unless true false x texts t e = absurd cc
cons_unless false true x texts t e = absurd cc
cons_unless false false x texts t e = refl

shuffled : (x a d : Bool) → ((x || a) || d) ≡ (a || (x || d))
shuffled true true d = refl
shuffled true false d = refl
shuffled false true d = refl
shuffled false false d = refl

alone : (b : Bool) (t : List ℕ) → cond b [] (t ∷ []) ≡ unless_there (b || false) [] t
alone true t = refl
alone false t = refl

pub distinct_seen : (seen xs : List (List ℕ)) (t : List ℕ) → distinct seen (xs ++ t ∷ []) ≡ unless_there (among t seen || among t (distinct seen xs)) (distinct seen xs) t
unfolding distinct
distinct_seen seen [] t = alone (among t seen) t
distinct_seen seen (x ∷ xs) t = by_seen (among x seen) (distinct_seen seen xs t) (distinct_seen (x ∷ seen) xs t)
  where
    by_seen : (b : Bool)
        → distinct seen (xs ++ t ∷ []) ≡ unless_there (among t seen || among t (distinct seen xs)) (distinct seen xs) t
        → distinct (x ∷ seen) (xs ++ t ∷ []) ≡ unless_there (among t (x ∷ seen) || among t (distinct (x ∷ seen) xs)) (distinct (x ∷ seen) xs) t
        → cond b (distinct seen (xs ++ t ∷ [])) (x ∷ distinct (x ∷ seen) (xs ++ t ∷ []))
        ≡ unless_there (among t seen || among t (cond b (distinct seen xs) (x ∷ distinct (x ∷ seen) xs))) (cond b (distinct seen xs) (x ∷ distinct (x ∷ seen) xs)) t
    by_seen true here more = here
    by_seen false here more =
        ap (λ (l : List (List ℕ)). x ∷ l) more
        ∙ cons_unless (among t (x ∷ seen) || among t (distinct (x ∷ seen) xs)) (among t seen || among t (x ∷ distinct (x ∷ seen) xs)) x (distinct (x ∷ seen) xs) t
        (shuffled (bytes_eq t x) (among t seen) (among t (distinct (x ∷ seen) xs)))

pub distinct_more : (xs : List (List ℕ)) (t : List ℕ) → distinct [] (xs ++ t ∷ []) ≡ unless_there (among t (distinct [] xs)) (distinct [] xs) t
distinct_more xs t = distinct_seen [] xs t

grows_unless : (b : Bool) (texts : List (List ℕ)) (t : List ℕ) → Grows texts (unless_there b texts t)
grows_unless true texts t = ([], sym (append-nil texts))
grows_unless false texts t = (t ∷ [], refl)

-- those of a front stand first
pub distinct_grows : (xs ys : List (List ℕ)) → Grows (distinct [] xs) (distinct [] (xs ++ ys))
distinct_grows xs [] = ([], ap (distinct []) (append-nil xs) ∙ sym (append-nil (distinct [] xs)))
distinct_grows xs (y ∷ ys) =
    let one : Grows (distinct [] xs) (distinct [] (xs ++ y ∷ [])) =
    subst (Grows (distinct [] xs)) (sym (distinct_more xs y)) (grows_unless (among y (distinct [] xs)) (distinct [] xs) y) in
    let rest = distinct_grows (xs ++ y ∷ []) ys in (
      one.0 ++ rest.0,
      ap (distinct []) (sym (append_assoc xs (y ∷ []) ys)) ∙ rest.1 ∙ ap (λ (l : List (List ℕ)). l ++ rest.0) one.1 ∙ append_assoc (distinct [] xs) one.0 rest.0,
    )

-- ---- their numbers

abbrev numbered : ℕ → List (List ℕ) → List (List ℕ × ℕ)
numbered k texts = zip texts (range_with_len k (length texts))

numbered_more : (k : ℕ) (texts : List (List ℕ)) (t : List ℕ) (n : ℕ) → n ≡ k + length texts → numbered k (texts ++ t ∷ []) ≡ numbered k texts ++ (t, n) ∷ []
numbered_more k [] t n e = let same : k ≡ n = omega (arith, e) in ap (λ (m : ℕ). (t, m) ∷ []) same
numbered_more k (x ∷ texts) t n e =
    ap (λ (l : List (List ℕ × ℕ)). (x, k) ∷ l) (numbered_more (k + 1) texts t n (omega (arith, e)))

pub constants_more : (texts : List (List ℕ)) (t : List ℕ) (n : ℕ) → n ≡ length texts + 2 → constants_of (texts ++ t ∷ []) ≡ constants_of texts ++ (t, n) ∷ []
constants_more texts t n e = numbered_more (out + 1) texts t n (omega (arith, e))

some_if : (b : Bool) (k : ℕ) (o : Option ℕ) (d : Bool) → is_some o ≡ d → is_some (cond b (Some k) o) ≡ (b || d)
some_if true k o d e = refl
some_if false k o d e = e

found_in : (k : ℕ) (texts : List (List ℕ)) (t : List ℕ) → is_some (constant_at (numbered k texts) t) ≡ among t texts
found_in k [] t = refl
found_in k (x ∷ texts) t =
    some_if (bytes_eq x t) k (constant_at (numbered (k + 1) texts) t) (among t texts) (found_in (k + 1) texts t)
    ∙ ap (λ (b : Bool). b || among t texts) (turned x t)

-- a string was made exactly where its text stands among those
pub found_among : (texts : List (List ℕ)) (t : List ℕ) → is_some (constant_at (constants_of texts) t) ≡ among t texts
found_among texts t = found_in (out + 1) texts t
