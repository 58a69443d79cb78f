-- Where a method stands that a reference names: the class of a name declares it, which the class extends by which it is named, or an interface.
use Rattle.std.proofs.Common.{◌≡◌, ◌∙◌, ◌⊎◌, inl, inr, ℕ, zero, suc, Bool, true, false, List, [], ◌∷◌, length, Option, Some, None, refl, sym, ap, subst}
use Rattle.std.specs.Prelude.{option_and_then, option_map, slice_get, if◌then◌else◌}
use Rattle.std.specs.List.{AllByRecursion, flat_map, list_any, position}
use Rattle.std.specs.Str.{bytes_eq}
use Rattle.jground.specs.jbase.FirstFaults.{first_some, or_else}
use Rattle.jclass.specs.declared.class.MemberInfo.{MemberInfo}
use Rattle.jclass.specs.FileContents.{IsIn}
use Rattle.jlib.specs.declared.calls.LibCall.{LibCall}
use Rattle.jlib.specs.declared.classes.LibClass.{LibClass}
use Rattle.jlib.specs.LibraryMembers as library_calls
use Rattle.jlib.specs.LibraryClasses as library
use Rattle.jlib.proofs.LibraryLookup.{call_found, class_found}
use Rattle.jresolution.specs.declared.jprogram.member.Member.{Member}
use Rattle.jresolution.specs.declared.jprogram.member.Member.TheVariants.{LibMethod, Method}
use Rattle.jresolution.specs.declared.jprogram.part.ClassRef.TheVariants as refs
use Rattle.jresolution.specs.declared.jprogram.part.CodePart.{CodePart}
use Rattle.jresolution.specs.jprogram.ClassFileParts.{is_called, this_name}
use Rattle.jresolution.specs.jprogram.ProgramClasses.{Lib, Program, User, extends, face_names, find, holds, is_interface, known, name_at, object, over, superinterfaces, up, named}
use Rattle.jresolution.specs.jprogram.MemberResolution.{info_of, init, lib_method, method_at, method_id, method_in, resolve_method}
use Rattle.jresolution.specs.jprogram.OrderedPrograms.{StandsInOrder}
use Rattle.jresolution.proofs.JprogramProofs.ImplementedInterfaces.{faces_are}
use Rattle.jresolution.proofs.JprogramProofs.NameReachability.{name_equal, or_right}
use Rattle.jresolution.proofs.JprogramProofs.ClassHeights.{Stands, Users, Libs, Nowhere, all_append, stands}
use Rattle.jlinking.proofs.JlinkProofs.PresentValues.{first_in, map_is, then_is}
use Rattle.jlinking.proofs.JlinkProofs.MethodSelection.{first_called}

-- ---- in the class of a name

-- a user's class of this name declares the method
pub record IsUsers (p : Program) (x : List ℕ) (m : Member) : Type 0 where
  pub i : ℕ
  pub j : ℕ
  pub part : CodePart
  pub stand : slice_get p.parts i ≡ Some part
  pub own : this_name part.class ≡ x
  pub found : find p x ≡ Some (User i part.class)
  pub info : MemberInfo
  pub at : slice_get part.class.methods j ≡ Some info
  pub is : m ≡ Method (method_id i j)

-- a class of the library
pub record IsLibs (p : Program) (x : List ℕ) (m : Member) : Type 0 where
  pub class : LibClass
  pub call : LibCall
  pub called : library.class_named p.side x ≡ Some class
  pub found : find p x ≡ Some (Lib class)
  pub own : library.name_of (library_calls.owner call) ≡ x
  pub is : m ≡ LibMethod call

abbrev pub IsDeclared : Program → List ℕ → Member → Type 0
IsDeclared p x m = IsUsers p x m ⊎ IsLibs p x m

method_only : (call : LibCall) (m : Member) (b : Bool) → (if b then None else Some (LibMethod call)) ≡ Some m → m ≡ LibMethod call
method_only call m true e = absurd cc
method_only call m false e = cc

pub declared_at : (p : Program) (called desc x : List ℕ) (m : Member) → method_at p called desc x ≡ Some m → IsDeclared p x m
declared_at p called desc x m e = by (stands p x)
  where
    by : Stands p x → IsDeclared p x m
    by (Users k part at own is) =
        let here : option_map (λ j. Method (method_id k j)) (position (is_called part.class called desc) part.class.methods) ≡ Some m =
        sym (ap (option_and_then (λ c. method_in p.side c called desc)) is) ∙ e in
        let r = map_is (λ j. Method (method_id k j)) (position (is_called part.class called desc) part.class.methods) m here in
        let f = first_called part.class called desc part.class.methods r.0 r.1 in
        inl (record { i = k; j = r.0; part = part; stand = at; own = own; found = is; info = f.0; at = f.1; is = sym r.2 })
    by (Libs l named is) =
        let here : option_and_then lib_method (library_calls.member_named p.side (library.name_of l) called desc) ≡ Some m =
        sym (ap (option_and_then (λ c. method_in p.side c called desc)) is) ∙ e in
        let r = then_is lib_method (library_calls.member_named p.side (library.name_of l) called desc) m here in
        let found = call_found p.side (library.name_of l) called desc r.0 r.1 in
        inr (record {
          class = l;
          call = r.0;
          called = named;
          found = is;
          own = found.0 ∙ (class_found p.side x l named).0;
          is = method_only r.0 m (library_calls.is_field r.0) r.2;
        })
    by (Nowhere none) =
        let never : None ≡ Some m = sym (ap (option_and_then (λ c. method_in p.side c called desc)) none) ∙ e in
        absurd cc

module _ (p : Program) (x : List ℕ) (m : Member) (u : IsUsers p x m) where
  info_is : info_of p (Method (method_id u.i u.j)) ≡ Some (u.part.class, u.info)
  info_is =
      ap (λ (o : Option CodePart). option_and_then (λ c. option_map (λ m. (c, m)) (slice_get c.methods u.j)) (option_map (λ part. part.class) o)) u.stand
      ∙ ap (λ (o : Option MemberInfo). option_map (λ m. (u.part.class, m)) o) u.at

  pub declared_is : info_of p m ≡ Some (u.part.class, u.info)
  declared_is = ap (info_of p) u.is ∙ info_is

  pub name_is : name_at p (refs.User u.i) ≡ x
  name_is = ap (λ (q : Option CodePart). named (option_map (λ part. User u.i part.class) q)) u.stand ∙ u.own

-- ---- resolved

-- in a class that the class extends by which it is named, or in an interface
pub data IsResolved (p : Program) (owner called desc : List ℕ) (m : Member) : Type 0 where
  Upward : (x : List ℕ) → extends p owner x ≡ true → method_at p called desc x ≡ Some m → IsResolved p owner called desc m
  Faced : (x : List ℕ) → holds is_interface (find p x) ≡ true → method_at p called desc x ≡ Some m → IsResolved p owner called desc m

pub either : {A P : Type 0} (a b : Option A) (x : A) → or_else a b ≡ Some x → (a ≡ Some x → P) → (b ≡ Some x → P) → P
either None b x e one two = two e
either (Some y) b x e one two = one e

any_in : (xs : List (List ℕ)) (x : List ℕ) → IsIn x xs → list_any (bytes_eq x) xs ≡ true
any_in [] x (k, at) = absurd cc
any_in (y ∷ xs) x (zero, at) =
    let same : y ≡ x = cc in
    subst (λ (z : List ℕ). list_any (bytes_eq x) (z ∷ xs) ≡ true) (sym same) (rw (name_equal x) refl)
any_in (y ∷ xs) x (suc k, at) = or_right (bytes_eq x y) (list_any (bytes_eq x) xs) (any_in xs x (k, at))

one_of : (P : List ℕ → Type 0) (xs : List (List ℕ)) (x : List ℕ) → AllByRecursion P xs → IsIn x xs → P x
one_of P [] x all (k, at) = absurd cc
one_of P (y ∷ xs) x all (zero, at) = let same : y ≡ x = cc in subst P same all.0
one_of P (y ∷ xs) x all (suc k, at) = one_of P xs x all.1 (k, at)

module _ (p : Program) (good : StandsInOrder p) where
  abbrev IsFace : List ℕ → Type 0
  IsFace x = holds is_interface (find p x) ≡ true

  faces_along : (f : List ℕ → List (List ℕ)) → ((x : List ℕ) → AllByRecursion IsFace (f x)) → (xs : List (List ℕ)) → AllByRecursion IsFace xs
      → AllByRecursion IsFace (flat_map (λ x. x ∷ f x) xs)
  faces_along f each [] all = tt
  faces_along f each (x ∷ xs) all = all_append IsFace (x ∷ f x) (flat_map (λ x. x ∷ f x) xs) (all.0, each x) (faces_along f each xs all.1)

  faces_over : (n : ℕ) (names : List (List ℕ)) → AllByRecursion IsFace names → AllByRecursion IsFace (over p n names)
  unfolding over
  faces_over zero names all = tt
  faces_over (suc n) names all = faces_along (λ x. over p n (face_names p x)) (λ x. faces_over n (face_names p x) (faces_are p good x)) names all

  extends_in : (owner x : List ℕ) → IsIn x (up p owner) → extends p owner x ≡ true
  unfolding extends
  extends_in owner x at = or_right (bytes_eq x object) (list_any (bytes_eq x) (up p owner)) (any_in (up p owner) x at)

  pub resolved_at : (owner called desc : List ℕ) (m : Member) → bytes_eq called init ≡ false → resolve_method p owner called desc ≡ Some m → IsResolved p owner called desc m
  unfolding resolve_method
  resolved_at owner called desc m apart e =
      let above = first_some (λ x. first_some (method_at p called desc) (superinterfaces p x)) (up p owner) in
      let search = or_else (first_some (method_at p called desc) (up p owner)) above in
      let here : search ≡ Some m = sym (ap (λ (b : Bool). if b then method_at p called desc owner else search) apart) ∙ e in
      either (first_some (method_at p called desc) (up p owner)) above m here
      (λ own. let r = first_in (method_at p called desc) (up p owner) m own in Upward r.0 (extends_in owner r.0 r.1) r.2)
      (λ faced.
      let r = first_in (λ x. first_some (method_at p called desc) (superinterfaces p x)) (up p owner) m faced in
      let s = first_in (method_at p called desc) (superinterfaces p r.0) m r.2 in
      Faced s.0 (one_of IsFace (superinterfaces p r.0) s.0 (faces_over (length (known p)) (face_names p r.0) (faces_are p good r.0)) s.1) s.2)

pub begun_at : (p : Program) (owner called desc : List ℕ) (m : Member) → bytes_eq called init ≡ true → resolve_method p owner called desc ≡ Some m
    → method_at p called desc owner ≡ Some m
unfolding resolve_method
begun_at p owner called desc m is e = sym (ap (λ (b : Bool). if b then method_at p called desc owner else or_else (first_some (method_at p called desc) (up p owner))
    (first_some (λ x. first_some (method_at p called desc) (superinterfaces p x)) (up p owner))) is) ∙ e
