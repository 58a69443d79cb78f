-- The laws of the first failing test.
use Rattle.std.proofs.Common.{◌≡◌, ℕ, zero, suc, ◌+◌, ◌<◌, List, [], ◌∷◌, Option, Some, None, refl, sym, ap, ◌∙◌, arith}
use Rattle.std.specs.Prelude.{slice_get}
use Rattle.jground.specs.jbase.FirstFaults.{or_else, first_along}

pub none_of : {F : Type 0} (a b : Option F) → or_else a b ≡ None → (a ≡ None) × (b ≡ None)
none_of (Some f) b e = cc
none_of None b e = (refl, e)

some_is : {A : Type 0} (a b : A) → Some a ≡ Some b → a ≡ b
some_is a b e = cc

at_first : (i : ℕ) → i + 0 ≡ i
at_first i = omega arith

at_next : (i k : ℕ) → i + suc k ≡ i + 1 + k
at_next i k = omega arith

at_zero : (k : ℕ) → 0 + k ≡ k
at_zero k = omega arith

none_from : {A F : Type 0} (test : ℕ → A → Option F) (i : ℕ) (xs : List A) (k : ℕ) (x : A) → first_along test i xs ≡ None → slice_get xs k ≡ Some x → test (i + k) x ≡ None
unfolding first_along
none_from test i [] k x e at = cc
none_from test i (y ∷ ys) zero x e at = rw (at_first i, sym (some_is y x at)) ((none_of (test i y) (first_along test (i + 1) ys) e).0)
none_from test i (y ∷ ys) (suc k) x e at = rw (at_next i k) (none_from test (i + 1) ys k x ((none_of (test i y) (first_along test (i + 1) ys) e).1) at)

-- where none is found, no test fails
pub none_fails : {A F : Type 0} (test : ℕ → A → Option F) (xs : List A) (k : ℕ) (x : A) → first_along test 0 xs ≡ None → slice_get xs k ≡ Some x → test k x ≡ None
none_fails test xs k x e at = ap (λ (i : ℕ). test i x) (sym (at_zero k)) ∙ none_from test 0 xs k x e at

pass_from : {A F : Type 0} (test : ℕ → A → Option F) (i : ℕ) (xs : List A) → ((k : ℕ) (x : A) → slice_get xs k ≡ Some x → test (i + k) x ≡ None) → first_along test i xs ≡ None
unfolding first_along
pass_from test i [] h = refl
pass_from test i (y ∷ ys) h =
    let one : test i y ≡ None = ap (λ (j : ℕ). test j y) (sym (at_first i)) ∙ h 0 y refl in
    let others : first_along test (i + 1) ys ≡ None = pass_from test (i + 1) ys (λ k x at. ap (λ (j : ℕ). test j x) (sym (at_next i k)) ∙ h (suc k) x at) in
    rw (one, others) refl

-- where no test fails, none is found
pub all_pass : {A F : Type 0} (test : ℕ → A → Option F) (xs : List A) → ((k : ℕ) (x : A) → slice_get xs k ≡ Some x → test k x ≡ None) → first_along test 0 xs ≡ None
all_pass test xs h = pass_from test 0 xs (λ k x at. ap (λ (i : ℕ). test i x) (at_zero k) ∙ h k x at)

-- the place and item of the first fault, where a list's places count from i
pub record IsFirst {A F : Type 0} (test : ℕ → A → Option F) (i : ℕ) (xs : List A) (fault : F) : Type 0 where
  pub place : ℕ
  pub item : A
  pub there : slice_get xs place ≡ Some item
  pub fails : test (i + place) item ≡ Some fault
  pub earlier : (j : ℕ) (y : A) → j < place → slice_get xs j ≡ Some y → test (i + j) y ≡ None

earlier_next : {A F : Type 0} (test : ℕ → A → Option F) (i : ℕ) (y : A) (ys : List A) (place : ℕ) → test i y ≡ None → ((j : ℕ) (z : A) → j < place → slice_get ys j ≡ Some z → test (i + 1 + j) z ≡ None)
    → (j : ℕ) (z : A) → j < suc place → slice_get (y ∷ ys) j ≡ Some z → test (i + j) z ≡ None
earlier_next test i y ys place one h zero z lt at = rw (at_first i, sym (some_is y z at)) one
earlier_next test i y ys place one h (suc j) z lt at = rw (at_next i j) (h j z (omega arith) at)

first_here : {A F : Type 0} (test : ℕ → A → Option F) (i : ℕ) (y : A) (ys : List A) (fault : F) (found : Option F) → test i y ≡ found → or_else found (first_along test (i + 1) ys) ≡ Some fault → ((first_along test (i + 1) ys ≡ Some fault) → IsFirst test (i + 1) ys fault) → IsFirst test i (y ∷ ys) fault
first_here test i y ys fault (Some f) is e h = record {
  place = 0;
  item = y;
  there = refl;
  fails = ap (λ (j : ℕ). test j y) (at_first i) ∙ is ∙ e;
  earlier = λ j z lt at. absurd (omega arith);
}
first_here test i y ys fault None is e h =
    let r = h e in
    record {
      place = suc r.place;
      item = r.item;
      there = r.there;
      fails = ap (λ (j : ℕ). test j r.item) (at_next i r.place) ∙ r.fails;
      earlier = earlier_next test i y ys r.place is r.earlier;
    }

first_from : {A F : Type 0} (test : ℕ → A → Option F) (i : ℕ) (xs : List A) (fault : F) → first_along test i xs ≡ Some fault → IsFirst test i xs fault
unfolding first_along
first_from test i [] fault e = cc
first_from test i (y ∷ ys) fault e = first_here test i y ys fault (test i y) refl e (λ h. first_from test (i + 1) ys fault h)

-- what is found is the fault of the first item that has one
pub first_found : {A F : Type 0} (test : ℕ → A → Option F) (xs : List A) (fault : F) → first_along test 0 xs ≡ Some fault → (k : ℕ) × (x : A) × (slice_get xs k ≡ Some x) × (test k x ≡ Some fault) × ((j : ℕ) (y : A) → j < k → slice_get xs j ≡ Some y → test j y ≡ None)
first_found test xs fault e =
    let r = first_from test 0 xs fault e in
    (r.place, r.item, r.there, ap (λ (i : ℕ). test i r.item) (sym (at_zero r.place)) ∙ r.fails, λ j y lt at. ap (λ (i : ℕ). test i y) (sym (at_zero j)) ∙ r.earlier j y lt at)
