-- Tests along lists: none fails exactly where each item passes.
use Rattle.std.proofs.Common.{◌≡◌, ℕ, zero, suc, Bool, true, false, ◌&&◌, not, List, [], ◌∷◌, Option, Some, None, refl, sym, ap, ◌∙◌, cond}
use Rattle.std.specs.Prelude.{slice_get}
use Rattle.std.specs.List.{list_all}
use Rattle.jground.specs.jbase.FirstFaults.{fault_if, first_some, or_else}
use Rattle.jground.proofs.JbaseProofs.Firsts.{none_of}
use Rattle.jclass.specs.FileContents.{IsIn}

pub some_is : {A : Type 0} (a b : A) → Some a ≡ Some b → a ≡ b
some_is a b e = cc

pub of_none : {F : Type 0} (a b : Option F) → a ≡ None → b ≡ None → or_else a b ≡ None
of_none (Some f) b e h = cc
of_none None b e h = h

-- ---- one test

pub unless_none : {F : Type 0} (b : Bool) (fault : F) → fault_if (not b) fault ≡ None → b ≡ true
unless_none true fault e = refl
unless_none false fault e = cc

pub none_unless : {F : Type 0} (b : Bool) (fault : F) → b ≡ true → fault_if (not b) fault ≡ None
none_unless true fault e = refl
none_unless false fault e = cc

pub if_none : {F : Type 0} (b : Bool) (fault : F) → fault_if b fault ≡ None → b ≡ false
if_none true fault e = cc
if_none false fault e = refl

pub none_if : {F : Type 0} (b : Bool) (fault : F) → b ≡ false → fault_if b fault ≡ None
none_if true fault e = cc
none_if false fault e = refl

-- ---- along a list

some_at : {A F : Type 0} (test : A → Option F) (xs : List A) (k : ℕ) (x : A) → first_some test xs ≡ None → slice_get xs k ≡ Some x → test x ≡ None
unfolding first_some
some_at test [] k x e at = cc
some_at test (y ∷ ys) zero x e at = ap test (sym (some_is y x at)) ∙ (none_of (test y) (first_some test ys) e).0
some_at test (y ∷ ys) (suc k) x e at = some_at test ys k x ((none_of (test y) (first_some test ys) e).1) at

pub none_in : {A F : Type 0} (test : A → Option F) (xs : List A) (x : A) → first_some test xs ≡ None → IsIn x xs → test x ≡ None
none_in test xs x e is = some_at test xs is.0 x e is.1

pub in_none : {A F : Type 0} (test : A → Option F) (xs : List A) → ((x : A) → IsIn x xs → test x ≡ None) → first_some test xs ≡ None
unfolding first_some
in_none test [] h = refl
in_none test (y ∷ ys) h = of_none (test y) (first_some test ys) (h y (0, refl)) (in_none test ys (λ x is. h x (suc is.0, is.1)))

and_left : (a b : Bool) → (a && b) ≡ true → a ≡ true
and_left true b e = refl
and_left false b e = cc

and_right : (a b : Bool) → (a && b) ≡ true → b ≡ true
and_right true b e = e
and_right false b e = cc

both : (a b : Bool) → a ≡ true → b ≡ true → (a && b) ≡ true
both true b e h = h
both false b e h = cc

pub both_of : (a b : Bool) → (a && b) ≡ true → (a ≡ true) × (b ≡ true)
both_of a b e = (and_left a b e, and_right a b e)

all_at : {A : Type 0} (test : A → Bool) (xs : List A) (k : ℕ) (x : A) → list_all test xs ≡ true → slice_get xs k ≡ Some x → test x ≡ true
all_at test [] k x e at = cc
all_at test (y ∷ ys) zero x e at = ap test (sym (some_is y x at)) ∙ and_left (test y) (list_all test ys) e
all_at test (y ∷ ys) (suc k) x e at = all_at test ys k x (and_right (test y) (list_all test ys) e) at

pub all_in : {A : Type 0} (test : A → Bool) (xs : List A) (x : A) → list_all test xs ≡ true → IsIn x xs → test x ≡ true
all_in test xs x e is = all_at test xs is.0 x e is.1

pub in_all : {A : Type 0} (test : A → Bool) (xs : List A) → ((x : A) → IsIn x xs → test x ≡ true) → list_all test xs ≡ true
in_all test [] h = refl
in_all test (y ∷ ys) h = both (test y) (list_all test ys) (h y (0, refl)) (in_all test ys (λ x is. h x (suc is.0, is.1)))

-- ---- where a condition holds

pub holds_where : (b v : Bool) → cond b v true ≡ true → b ≡ true → v ≡ true
holds_where true v e h = e
holds_where false v e h = cc

pub where_holds : (b v : Bool) → (b ≡ true → v ≡ true) → cond b v true ≡ true
where_holds true v h = h refl
where_holds false v h = refl
