-- Values that are there.
use Rattle.std.proofs.Common.{◌≡◌, suc, List, [], ◌∷◌, Option, Some, None, refl, subst, ◌∙◌}
use Rattle.std.specs.Prelude.{option_and_then, option_map}
use Rattle.std.specs.List.{AllByRecursion}
use Rattle.std.specs.Option.{IsSome}
use Rattle.jground.specs.jbase.ListMaps.{each_some, put_front}
use Rattle.jground.specs.jbase.FirstFaults.{first_some, or_else}
use Rattle.jclass.specs.FileContents.{IsIn}

-- ---- what makes one

pub has_some : {A : Type 0} (o : Option A) → IsSome o → (x : A) × (o ≡ Some x)
has_some None h = absurd cc
has_some (Some x) h = (x, refl)

pub is_there : {A : Type 0} (o : Option A) (x : A) → o ≡ Some x → IsSome o
is_there o x e = rw e refl

pub map_has : {A B : Type 0} (f : A → B) (o : Option A) → IsSome o → IsSome (option_map f o)
map_has f None h = absurd cc
map_has f (Some x) h = refl

pub then_has : {A B : Type 0} (f : A → Option B) (o : Option A) → IsSome o → ((x : A) → o ≡ Some x → IsSome (f x)) → IsSome (option_and_then f o)
then_has f None h more = absurd cc
then_has f (Some x) h more = more x refl

put_has : {A : Type 0} (o : Option A) (rest : Option (List A)) → IsSome o → IsSome rest → IsSome (put_front o rest)
put_has None rest one more = absurd cc
put_has (Some x) None one more = absurd cc
put_has (Some x) (Some xs) one more = refl

pub each_has : {A B : Type 0} (f : A → Option B) (xs : List A) → AllByRecursion (λ x. IsSome (f x)) xs → IsSome (each_some f xs)
unfolding each_some
each_has f [] all = refl
each_has f (x ∷ xs) all = put_has (f x) (each_some f xs) all.0 (each_has f xs all.1)

-- ---- what it is made of

pub map_is : {A B : Type 0} (f : A → B) (o : Option A) (y : B) → option_map f o ≡ Some y → (x : A) × (o ≡ Some x) × (f x ≡ y)
map_is f None y e = absurd cc
map_is f (Some x) y e = (x, refl, cc)

pub then_is : {A B : Type 0} (f : A → Option B) (o : Option A) (y : B) → option_and_then f o ≡ Some y → (x : A) × (o ≡ Some x) × (f x ≡ Some y)
then_is f None y e = absurd cc
then_is f (Some x) y e = (x, refl, e)

put_is : {A : Type 0} (P : A → Type 0) (o : Option A) (rest : Option (List A)) (all : List A) → ((x : A) → o ≡ Some x → P x) → ((xs : List A) → rest ≡ Some xs → AllByRecursion P xs) → put_front o rest ≡ Some all → AllByRecursion P all
put_is P None rest all one more e = absurd cc
put_is P (Some x) None all one more e = absurd cc
put_is P (Some x) (Some xs) all one more e =
    let same : x ∷ xs ≡ all = cc in
    subst (AllByRecursion P) same (one x refl, more xs refl)

-- what holds of each value holds of all
pub each_is : {A B : Type 0} (P : B → Type 0) (f : A → Option B) → ((x : A) (y : B) → f x ≡ Some y → P y) → (xs : List A) (ys : List B) → each_some f xs ≡ Some ys → AllByRecursion P ys
unfolding each_some
each_is P f h [] ys e =
    let same : [] ≡ ys = cc in
    subst (AllByRecursion P) same tt
each_is P f h (x ∷ xs) ys e = put_is P (f x) (each_some f xs) ys (h x) (each_is P f h xs) e

-- ---- the item that has the first value

first_by : {A B : Type 0} (f : A → Option B) (x : A) (xs : List A) (o : Option B) (y : B) → f x ≡ o → or_else o (first_some f xs) ≡ Some y → (first_some f xs ≡ Some y → (z : A) × IsIn z xs × (f z ≡ Some y)) → (z : A) × IsIn z (x ∷ xs) × (f z ≡ Some y)
first_by f x xs None y is e more =
    let r = more e in
    (r.0, (suc r.1.0, r.1.1), r.2)
first_by f x xs (Some v) y is e more = (x, (0, refl), is ∙ e)

pub first_in : {A B : Type 0} (f : A → Option B) (xs : List A) (y : B) → first_some f xs ≡ Some y → (x : A) × IsIn x xs × (f x ≡ Some y)
unfolding first_some
first_in f [] y e = absurd cc
first_in f (x ∷ xs) y e = first_by f x xs (f x) y refl e (first_in f xs y)
