-- Where the method that a call names was found.
use Rattle.std.proofs.Common.{◌≡◌, ℕ, zero, suc, Bool, true, false, List, [], ◌∷◌, length, ◌+◌, Option, Some, None, refl, ap, sym, ◌∙◌, subst, inl, inr}
use Rattle.std.specs.Prelude.{◌⊎◌, option_map, option_to_list, slice_get, ◌||◌, if◌then◌else◌}
use Rattle.std.specs.List.{AllByRecursion, flat_map, list_any}
use Rattle.std.specs.Str.{bytes_eq}
use Rattle.std.proofs.lemmas.Slice.Eq.{bytes_eq-Decides}
use Rattle.jground.specs.jbase.FirstFaults.{first_some, or_else}
use Rattle.jclass.specs.FileContents.{IsIn}
use Rattle.jlib.specs.declared.classes.LibClass.{LibClass}
use Rattle.jlib.specs.LibraryClasses as library
use Rattle.jlib.proofs.LibraryLookup.{class_implements}
use Rattle.jresolution.specs.declared.jprogram.member.Member.{Member}
use Rattle.jresolution.specs.jprogram.ProgramClasses.{Class, Program, extends, face_names, find, holds, is_interface, known, object, over, superinterfaces, up, faces_of}
use Rattle.jresolution.specs.jprogram.MemberResolution.{init, method_at, resolve_method}
use Rattle.jresolution.specs.jprogram.OrderedPrograms.{StandsInOrder}
use Rattle.jresolution.proofs.JprogramProofs.ImplementedInterfaces.{faces_are}
use Rattle.jresolution.proofs.JprogramProofs.NameReachability.{name_is}
use Rattle.jresolution.proofs.JprogramProofs.ClassHeights.{all_append, any_of_all, lib_find, not_taken}
use Rattle.jlinking.proofs.JlinkProofs.PresentValues.{first_in}
use Rattle.jrewriting.proofs.JrewriteProofs.ParameterSlots.{either}
use Rattle.jmoved_laws.proofs.NamesProofs.ClassChains.{LibAt, lib_along}

-- ---- lists

in_any : (x : List ℕ) (xs : List (List ℕ)) → IsIn x xs → list_any (bytes_eq x) xs ≡ true
in_any x xs is = by xs is.0 is.1
  where
    here : (x : List ℕ) → bytes_eq x x ≡ true
    here x = (bytes_eq-Decides x x).1 refl

    or_first : (a b : Bool) → a ≡ true → (a || b) ≡ true
    or_first true b h = refl
    or_first false b h = absurd cc

    or_second : (a b : Bool) → b ≡ true → (a || b) ≡ true
    or_second true b h = refl
    or_second false b h = h

    by : (ys : List (List ℕ)) (i : ℕ) → slice_get ys i ≡ Some x → list_any (bytes_eq x) ys ≡ true
    by [] i e = absurd cc
    by (y ∷ ys) zero e = let same : y ≡ x = cc in or_first (bytes_eq x y) (list_any (bytes_eq x) ys) (ap (bytes_eq x) same ∙ here x)
    by (y ∷ ys) (suc i) e = or_second (bytes_eq x y) (list_any (bytes_eq x) ys) (by ys i e)

pub of_all : (P : List ℕ → Type 0) (x : List ℕ) (xs : List (List ℕ)) → IsIn x xs → AllByRecursion P xs → P x
of_all P x xs is all = any_of_all (bytes_eq x) P xs (in_any x xs is) all (λ y same h. subst P (sym (name_is x y same)) h)

-- ---- interfaces above

flat_all : (P : List ℕ → Type 0) (f : List ℕ → List (List ℕ)) (xs : List (List ℕ)) → AllByRecursion P xs → ((x : List ℕ) → P x → AllByRecursion P (f x)) → AllByRecursion P (flat_map f xs)
flat_all P f [] all h = tt
flat_all P f (x ∷ xs) all h = all_append P (f x) (flat_map f xs) (h x all.0) (flat_all P f xs all.1 h)

-- what holds of names and of the interfaces that a class lists of which it holds, holds of all above
over_all : (p : Program) (P : List ℕ → Type 0) → ((c : List ℕ) → P c → AllByRecursion P (face_names p c)) → (n : ℕ) (names : List (List ℕ)) → AllByRecursion P names → AllByRecursion P (over p n names)
unfolding over
over_all p P h zero names all = tt
over_all p P h (suc n) names all = flat_all P (λ name. name ∷ over p n (face_names p name)) names all (λ x is. (is, over_all p P h n (face_names p x) (h x is)))

pub faces_above : (p : Program) (good : StandsInOrder p) (c : List ℕ) → AllByRecursion (λ f. holds is_interface (find p f) ≡ true) (superinterfaces p c)
faces_above p good c = over_all p (λ f. holds is_interface (find p f) ≡ true) (λ x is. faces_are p good x) (length (known p)) (face_names p c) (faces_are p good c)

lib_faces : (p : Program) (good : StandsInOrder p) (c : List ℕ) → LibAt p c → AllByRecursion (LibAt p) (face_names p c)
lib_faces p good c l = subst (λ (o : Option Class). AllByRecursion (LibAt p) (faces_of o)) (sym l.is) (by (library.implemented l.one) refl)
  where
    by : (o : Option LibClass) → library.implemented l.one ≡ o → AllByRecursion (LibAt p) (option_to_list (option_map library.name_of o))
    by None e = tt
    by (Some i) e = (record { one = i; is = lib_find p (not_taken p good) i ((class_implements p.side l.one i e).1) }, tt)

pub lib_above : (p : Program) (good : StandsInOrder p) (c : List ℕ) → LibAt p c → AllByRecursion (LibAt p) (superinterfaces p c)
lib_above p good c l = over_all p (LibAt p) (lib_faces p good) (length (known p)) (face_names p c) (lib_faces p good c l)

-- ---- where it was found

-- in a class that the named one extends, or in an interface above such a class
pub data Place (p : Program) (owner c : List ℕ) : Type 0 where
  Above : IsIn c (up p owner) → Place p owner c
  Over : (x : List ℕ) → IsIn x (up p owner) → IsIn c (superinterfaces p x) → Place p owner c

pub record Resolved (p : Program) (owner name desc : List ℕ) (m : Member) : Type 0 where
  pub class : List ℕ
  pub place : Place p owner class
  pub here : method_at p name desc class ≡ Some m

pub resolved_at : (p : Program) (owner name desc : List ℕ) (m : Member) → bytes_eq name init ≡ false → resolve_method p owner name desc ≡ Some m → Resolved p owner name desc m
unfolding resolve_method
resolved_at p owner name desc m plain e =
    let f = method_at p name desc in
    let rest = or_else (first_some f (up p owner)) (first_some (λ x. first_some f (superinterfaces p x)) (up p owner)) in
    let found : rest ≡ Some m = sym (ap (λ (b : Bool). if b then f owner else rest) plain) ∙ e in
    either (first_some f (up p owner)) (first_some (λ x. first_some f (superinterfaces p x)) (up p owner)) m found
    (λ h. (let r = first_in f (up p owner) m h in record { class = r.0; place = Above r.1; here = r.2 }))
    (λ h. (
    let r = first_in (λ x. first_some f (superinterfaces p x)) (up p owner) m h in
    let s = first_in f (superinterfaces p r.0) m r.2 in
    record { class = s.0; place = Over r.0 r.1 s.1; here = s.2 }
    ))

-- what a class of the library names is the library's
pub lib_place : (p : Program) (good : StandsInOrder p) (owner c : List ℕ) → LibAt p owner → Place p owner c → LibAt p c
lib_place p good owner c l (Above is) = of_all (LibAt p) c (up p owner) is (lib_along p good (length (known p) + 1) owner l)
lib_place p good owner c l (Over x at is) = of_all (LibAt p) c (superinterfaces p x) is (lib_above p good x (of_all (LibAt p) x (up p owner) at (lib_along p good (length (known p) + 1) owner l)))

-- where it isn't above the named class it stands in an interface
pub place_is : (p : Program) (good : StandsInOrder p) (owner c : List ℕ) → Place p owner c → (extends p owner c ≡ true) ⊎ (holds is_interface (find p c) ≡ true)
unfolding extends
place_is p good owner c (Above is) = inl (or_second (bytes_eq c object) (list_any (bytes_eq c) (up p owner)) (in_any c (up p owner) is))
  where
    or_second : (a b : Bool) → b ≡ true → (a || b) ≡ true
    or_second true b h = refl
    or_second false b h = h
place_is p good owner c (Over x at is) = inr (of_all (λ f. holds is_interface (find p f) ≡ true) c (superinterfaces p x) is (faces_above p good x))
