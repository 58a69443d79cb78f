-- A method of the library that is handed no context is found in the moved program as it was, along each chain on which its class stands.
use Rattle.std.proofs.Common.{◌≡◌, ℕ, zero, suc, Bool, true, false, List, [], ◌∷◌, Option, Some, None, refl, ap, sym, ◌∙◌, subst, inl, inr}
use Rattle.std.specs.Prelude.{IfSome, option_and_then, option_map, slice_get}
use Rattle.std.specs.List.{AllByRecursion, list_any, position}
use Rattle.std.specs.Str.{bytes_eq}
use Rattle.std.proofs.lemmas.Bool.{and_parts}
use Rattle.std.proofs.lemmas.Slice.Eq.{bytes_eq-Decides}
use Rattle.jparts.specs.jpool.Descriptors.{descriptor_of}
use Rattle.jclass.specs.declared.class.ClassParts.{ClassParts}
use Rattle.jclass.specs.declared.class.MemberInfo.{MemberInfo}
use Rattle.jlib.specs.declared.classes.LibClass.{LibClass}
use Rattle.jlib.specs.declared.classes.LibClass.TheVariants as lib
use Rattle.jlib.specs.declared.calls.LibCall.{LibCall}
use Rattle.jlib.specs.declared.side.Side.{Side}
use Rattle.jlib.specs.declared.side.Side.TheVariants.{Passing, Source}
use Rattle.jlib.specs.LibraryMembers as library
use Rattle.jlib.specs.LibraryMembers.{desc_of, fixes, is_concrete, member_among, members, name_of_call, owner}
use Rattle.jlib.specs.LibraryClasses as library_classes
use Rattle.jlib.proofs.NamePrefixes.{by_class}
use Rattle.jlib.proofs.LibraryLookup.{call_only, class_above}
use Rattle.jlinking.specs.jmembers.MemberDeclarations.{is_fixed, is_fixed_by}
use Rattle.jlinking.specs.ProofNames.{is_fixed_at}
use Rattle.jresolution.specs.declared.jprogram.member.Member.TheVariants.{Method}
use Rattle.jresolution.specs.declared.jprogram.member.MethodId.{MethodId}
use Rattle.jresolution.specs.jprogram.ProgramClasses.{Class, Lib, Program, User, above, above_name, chain, find, object, onward, up}
use Rattle.jresolution.specs.jprogram.MemberResolution.{init, lib_method, method_at, method_id, method_in}
use Rattle.jresolution.specs.jprogram.NameChecks.{is_reserved}
use Rattle.jresolution.specs.jprogram.ClassFileParts.{is_called, is_interface, member_desc, member_name, super_name}
use Rattle.jresolution.specs.jprogram.OrderedPrograms.{StandsInOrder}
use Rattle.jresolution.proofs.JprogramProofs.CycleSearch.{all_weaken, or_split}
use Rattle.jresolution.proofs.JprogramProofs.SuperclassOrder.{object_up}
use Rattle.jresolution.proofs.JprogramProofs.NameReachability.{clash, name_is}
use Rattle.jresolution.proofs.JprogramProofs.ClassHeights.{Stands, Users, Libs, Nowhere, any_of_all, lib_find, not_taken, stands}
use Rattle.jmoveclass.specs.MovedMembers.{new_desc}
use Rattle.jlinking.specs.jlink.LinkedPrograms.{Links}
use Rattle.jlinking.proofs.JlinkProofs.MethodSelection.{first_called}
use Rattle.jrewriting.proofs.JmoveclassLawsProofs.MovedMethods.{Alike, Like}
use Rattle.jrewriting.specs.jrewrite.RewrittenPrograms.{moved}
use Rattle.jrewriting.proofs.JrewriteProofs.DeclarationChecks.{Moving, desc_is, ends_so, new_ends}
use Rattle.jrewriting.proofs.JrewriteProofs.ClassLookup.{SameFound}
use Rattle.jrewriting.proofs.JrewriteProofs.FinalOverrides.{AllMoving, moved_side}
use Rattle.jrewriting.proofs.JrewriteProofs.HierarchyPhases.{IsPlain, same}
use Rattle.jmoved_laws.proofs.NamesProofs.ClassChains.{OpenAt, UserAt, found_plain, open_above_it, user_open, within}
use Rattle.jmoved_laws.proofs.NamesProofs.LibraryOverrides.{fixes_found, one_named, onward_free, open_in, user_found}
use Rattle.jmoved_laws.proofs.NamesProofs.ForbiddenMethods.{class_fixed, face_fixed, not_fixed_at}
use Rattle.jmoved_laws.proofs.NamesProofs.LibraryMembers.{apart_above, apart_low, concrete_below, concrete_ends, is_apart, own_same, same_members}

-- in the class of a name the same is found, and no user's method
pub record StaysAt (p : Program) (name desc c : List ℕ) : Type 0 where
  pub same : method_at (moved p) name desc c ≡ method_at p name desc c
  pub alone : (m : MethodId) → method_at p name desc c ≡ Some (Method m) → false ≡ true

-- ---- in classes of the library

stays_in : (name desc : List ℕ) (c : LibClass) → member_among Passing name desc (members c) ≡ member_among Source name desc (members c) → method_in Passing (Lib c) name desc ≡ method_in Source (Lib c) name desc
stays_in name desc c e = ap (option_and_then lib_method) (sym (by_class Passing c name desc) ∙ e ∙ by_class Source c name desc)

found_lib : (p : Program) (a b : Option Class) → SameFound p a b → (l : LibClass) → a ≡ Some (Lib l) → b ≡ Some (Lib l)
found_lib p (Some (Lib c)) (Some (Lib d)) h l at = ap (λ (y : LibClass). Some (Lib y)) (sym h) ∙ at
found_lib p None b h l at = absurd cc
found_lib p (Some (User i c)) b h l at = let no : User i c ≡ Lib l = cc in absurd cc
found_lib p (Some (Lib c)) None h l at = absurd h
found_lib p (Some (Lib c)) (Some (User j d)) h l at = absurd h

no_users : (p : Program) (name desc c : List ℕ) (l : LibClass) (m : MethodId) → find p c ≡ Some (Lib l) → method_at p name desc c ≡ Some (Method m) → false ≡ true
no_users p name desc c l m is e =
    let u = user_found p name desc c m e in
    let both : Some (Lib l) ≡ Some (User m.class u.part.class) = sym is ∙ u.is in
    let no : Lib l ≡ User m.class u.part.class = cc in
    absurd cc

lib_stays : (p : Program) → IsPlain p → (name desc c : List ℕ) (l : LibClass) → is_reserved c ≡ false → find p c ≡ Some (Lib l) → member_among Passing name desc (members l) ≡ member_among Source name desc (members l) → StaysAt p name desc c
lib_stays p is name desc c l plain at e = record {
  same = ap (λ (o : Option Class). option_and_then (λ d. method_in (moved p).side d name desc) o) (found_lib p (find p c) (find (moved p) c) (same p is c plain) l at)
      ∙ ap (λ (s : Side). method_in s (Lib l) name desc) (moved_side p)
      ∙ stays_in name desc l e
      ∙ ap (λ (s : Side). method_in s (Lib l) name desc) (sym is.source)
      ∙ sym (ap (option_and_then (λ d. method_in p.side d name desc)) at);
  alone = λ m h. no_users p name desc c l m at h;
}

-- ---- in users' classes

back : (c d : ClassParts) (xs ys : List MemberInfo) (j : ℕ) → Alike c d.pool xs ys → (y : MemberInfo) → slice_get ys j ≡ Some y → (x : MemberInfo) × (slice_get xs j ≡ Some x) × (Like c d.pool x y)
back c d [] [] j all y at = absurd cc
back c d [] (z ∷ ys) j all y at = absurd all
back c d (x ∷ xs) [] j all y at = absurd all
back c d (x ∷ xs) (z ∷ ys) zero all y at = let same : z ≡ y = cc in (x, refl, subst (λ (m : MemberInfo). Like c d.pool x m) same all.0)
back c d (x ∷ xs) (z ∷ ys) (suc j) all y at = back c d xs ys j all.1 y at

-- a moved class declares nothing that is handed no context
none_handed : (c d : ClassParts) (name desc : List ℕ) → Moving c d → Alike c d.pool c.methods d.methods → ends_so (descriptor_of desc) ≡ false → (o : Option ℕ) → position (is_called d name desc) d.methods ≡ o → position (is_called d name desc) d.methods ≡ None
none_handed c d name desc k all ends None e = e
none_handed c d name desc k all ends (Some j) e =
    let m = first_called d name desc d.methods j e in
    let x = back c d c.methods d.methods j all m.0 m.1 in
    let both = and_parts (bytes_eq (member_name d m.0) name) (bytes_eq (member_desc d m.0) desc) m.2 in
    let is : member_desc d m.0 ≡ desc = (bytes_eq-Decides (member_desc d m.0) desc).0 both.1 in
    let new : member_desc d m.0 ≡ new_desc c x.0 = desc_is c d x.0 m.0 x.2 in
    clash (ends_so (descriptor_of desc)) (ap (λ (t : List ℕ). ends_so (descriptor_of t)) (sym is ∙ new) ∙ new_ends c x.0 (k.facts x.0 (j, x.1))) ends

found_user : (p : Program) → AllMoving p → (name desc : List ℕ) → ends_so (descriptor_of desc) ≡ false → (a b : Option Class) → SameFound p a b → (i : ℕ) (c : ClassParts) → a ≡ Some (User i c) → option_and_then (λ d. method_in (moved p).side d name desc) b ≡ None
found_user p all name desc ends (Some (User i c)) (Some (User j d)) h k e at =
    let one = all i c d h.1 in
    ap (option_map (λ n. Method (method_id j n))) (none_handed c d name desc one.0 one.1 ends (position (is_called d name desc) d.methods) refl)
found_user p all name desc ends None b h k e at = absurd cc
found_user p all name desc ends (Some (Lib c)) b h k e at = let no : Lib c ≡ User k e = cc in absurd cc
found_user p all name desc ends (Some (User i c)) None h k e at = absurd h
found_user p all name desc ends (Some (User i c)) (Some (Lib d)) h k e at = absurd h

module _ (p : Program) (is : IsPlain p) (good : StandsInOrder p) (links : Links p) (all : AllMoving p) (y : LibCall) (concrete : is_concrete y ≡ true) (plain_name : bytes_eq (name_of_call y) init ≡ false) (on : library.call_stands_on Source y ≡ true) (at : find p (library_classes.name_of (owner y)) ≡ Some (Lib (owner y))) where
  abbrev name : List ℕ
  name = name_of_call y

  abbrev desc : List ℕ
  desc = desc_of y

  -- its class
  abbrev there : List ℕ
  there = library_classes.name_of (owner y)

  abbrev Stays : List ℕ → Type 0
  Stays c = StaysAt p name desc c

  -- ---- a user's class below it

  fixed_there : library_classes.is_open (owner y) ≡ true → fixes name desc (owner y) ≡ true
  fixed_there opened = fixes_found Source name desc (owner y) y opened plain_name refl refl (call_only Source y on)

  -- it declares none that is called so
  module _ (c : List ℕ) (u : UserAt p c) (n : ℕ) (far : list_any (bytes_eq there) (onward (chain p n) (above_name p c)) ≡ true) where
    is_there : (P : List ℕ → Type 0) → AllByRecursion P (onward (chain p n) (above_name p c)) → P there
    is_there P each = any_of_all (bytes_eq there) P (onward (chain p n) (above_name p c)) far each (λ x same one. subst P (sym (name_is there x same)) one)

    fixed : fixes name desc (owner y) ≡ true
    fixed = fixed_there (is_there (OpenAt p) (open_above_it p good n c (user_open p c u)) (owner y) at)

    free_of : (b : Bool) → is_interface u.part.class.flags ≡ b → is_fixed p u.part.class name desc ≡ false → fixes name desc (owner y) ≡ false
    free_of true face e = clash (list_any (fixes name desc) library_classes.open_classes) (open_in (fixes name desc) (owner y) (is_there (OpenAt p) (open_above_it p good n c (user_open p c u)) (owner y) at) fixed) (face_fixed p u.part.class name desc face e)
    free_of false face e =
        let each = onward_free p good (λ x. is_fixed_at p name desc x ≡ false) n (super_name u.part.class) (class_fixed p u.part.class name desc face e) in
        let one = is_there (λ x. is_fixed_at p name desc x ≡ false) (subst (λ (o : Option (List ℕ)). AllByRecursion (λ x. is_fixed_at p name desc x ≡ false) (onward (chain p n) o)) (sym (ap (option_and_then above) u.is)) each) in
        sym (ap (is_fixed_by name desc) at) ∙ one

    none_declared : (o : Option ℕ) → position (is_called u.part.class name desc) u.part.class.methods ≡ o → position (is_called u.part.class name desc) u.part.class.methods ≡ None
    none_declared None e = e
    none_declared (Some j) e =
        let c = u.part.class in
        let m = first_called c name desc c.methods j e in
        let both = and_parts (bytes_eq (member_name c m.0) name) (bytes_eq (member_desc c m.0) desc) m.2 in
        let called : member_name c m.0 ≡ name = (bytes_eq-Decides (member_name c m.0) name).0 both.0 in
        let typed : member_desc c m.0 ≡ desc = (bytes_eq-Decides (member_desc c m.0) desc).0 both.1 in
        let free : is_fixed p c name desc ≡ false =
        ap (λ (t : List ℕ). is_fixed p c t desc) (sym called) ∙ ap (is_fixed p c (member_name c m.0)) (sym typed) ∙ not_fixed_at p u.i j u.part m.0 links u.at m.1 in
        clash (fixes name desc (owner y)) fixed (free_of (is_interface c.flags) refl free)

    no_user_method : (m : MethodId) → method_at p name desc c ≡ Some (Method m) → false ≡ true
    no_user_method m e =
        let here : option_map (λ j. Method (method_id u.i j)) (position (is_called u.part.class name desc) u.part.class.methods) ≡ Some (Method m) = sym (ap (option_and_then (λ d. method_in p.side d name desc)) u.is) ∙ e in
        let no : None ≡ Some (Method m) = sym (ap (option_map (λ j. Method (method_id u.i j))) (none_declared (position (is_called u.part.class name desc) u.part.class.methods) refl)) ∙ here in
        absurd cc

    user_stays : is_reserved c ≡ false → Stays c
    user_stays plain = record {
      same = found_user p all name desc (concrete_ends y concrete) (find p c) (find (moved p) c) (same p is c plain) u.i u.part.class u.is
          ∙ sym (ap (option_and_then (λ d. method_in p.side d name desc)) u.is ∙ ap (option_map (λ j. Method (method_id u.i j))) (none_declared (position (is_called u.part.class name desc) u.part.class.methods) refl));
      alone = no_user_method;
    }

  -- ---- above it

  -- a class of the library whose members are the same on both sides
  record SafeAt (c : List ℕ) : Type 0 where
    one : LibClass
    here : find p c ≡ Some (Lib one)
    safe : is_apart one ≡ false

  safe_onward : (n : ℕ) (l : LibClass) (o : Option LibClass) → library_classes.superclass l ≡ o → IfSome o (λ s. is_apart s ≡ false) → ((a : List ℕ) → SafeAt a → AllByRecursion SafeAt (chain p n a)) → AllByRecursion SafeAt (onward (chain p n) (option_map library_classes.name_of o))
  safe_onward n l None e safe h = tt
  safe_onward n l (Some s) e safe h = h (library_classes.name_of s) (record { one = s; here = lib_find p (not_taken p good) s ((class_above p.side l s e).1); safe = safe })

  safe_above : (n : ℕ) (c : List ℕ) (l : LibClass) → find p c ≡ Some (Lib l) → ((a : List ℕ) → SafeAt a → AllByRecursion SafeAt (chain p n a)) → AllByRecursion SafeAt (onward (chain p n) (above_name p c))
  safe_above n c l e h = subst (λ (o : Option Class). AllByRecursion SafeAt (onward (chain p n) (option_and_then above o))) (sym e) (safe_onward n l (library_classes.superclass l) refl (apart_above l) h)

  safe_along : (n : ℕ) (c : List ℕ) → SafeAt c → AllByRecursion SafeAt (chain p n c)
  unfolding chain
  safe_along zero c s = tt
  safe_along (suc n) c s = (s, safe_above n c s.one s.here (λ a t. safe_along n a t))

  safe_stays : (c : List ℕ) → SafeAt c → Stays c
  safe_stays c s = lib_stays p is name desc c s.one (found_plain p is c (Lib s.one) s.here) s.here (same_members s.one s.safe name desc)

  from_own : (n : ℕ) → AllByRecursion Stays (onward (chain p n) (above_name p there))
  from_own n = all_weaken SafeAt Stays safe_stays (onward (chain p n) (above_name p there)) (safe_above n there (owner y) at (safe_along n))

  own_stays : Stays there
  own_stays = lib_stays p is name desc there (owner y) (found_plain p is there (Lib (owner y)) at) at (own_same y concrete)

  -- ---- all along

  top_alone : (n : ℕ) → list_any (bytes_eq there) (chain p n object) ≡ true → there ≡ object
  top_alone n h =
      let top : AllByRecursion (λ x. x ≡ object) (up p object) = subst (AllByRecursion (λ x. x ≡ object)) (sym (object_up p good)) (refl, tt) in
      any_of_all (bytes_eq there) (λ x. x ≡ object) (chain p n object) h (within p good (λ x. x ≡ object) n object top) (λ x same e. name_is there x same ∙ e)

  lib_here : (n : ℕ) (c : List ℕ) (l : LibClass) (b : Bool) → find p c ≡ Some (Lib l) → is_apart l ≡ b → list_any (bytes_eq there) (onward (chain p n) (above_name p c)) ≡ true → Stays c
  lib_here n c l false e safe far = safe_stays c (record { one = l; here = e; safe = safe })
  lib_here n c l true e low far =
      let above_is : above_name p c ≡ Some object = ap (option_and_then above) e ∙ ap (option_map library_classes.name_of) (apart_low l low) in
      let top = top_alone n (subst (λ (o : Option (List ℕ)). list_any (bytes_eq there) (onward (chain p n) o) ≡ true) above_is far) in
      concrete_below y concrete (one_named (owner y) lib.Object top)

  here_stays : (n : ℕ) (c : List ℕ) → list_any (bytes_eq there) (onward (chain p n) (above_name p c)) ≡ true → Stands p c → Stays c
  here_stays n c far (Users i part stands named here) = user_stays c (record { i = i; part = part; at = stands; is = here }) n far (found_plain p is c (User i part.class) here)
  here_stays n c far (Libs l named here) = lib_here n c l (is_apart l) here refl far
  here_stays n c far (Nowhere none) =
      let no : false ≡ true = sym (ap (λ (o : Option Class). list_any (bytes_eq there) (onward (chain p n) (option_and_then above o))) none) ∙ far in
      absurd cc

  onward_stays : (n : ℕ) (o : Option (List ℕ)) → ((a : List ℕ) → list_any (bytes_eq there) (chain p n a) ≡ true → AllByRecursion Stays (chain p n a)) → list_any (bytes_eq there) (onward (chain p n) o) ≡ true → AllByRecursion Stays (onward (chain p n) o)
  onward_stays n None h far = absurd cc
  onward_stays n (Some a) h far = h a far

  pub stays_along : (n : ℕ) (c : List ℕ) → list_any (bytes_eq there) (chain p n c) ≡ true → AllByRecursion Stays (chain p n c)
  unfolding chain
  stays_along zero c h = absurd cc
  stays_along (suc n) c h = elim (or_split (bytes_eq there c) (list_any (bytes_eq there) (onward (chain p n) (above_name p c))) h) [
    | inl same ↦ subst (λ (x : List ℕ). AllByRecursion Stays (x ∷ onward (chain p n) (above_name p x))) (name_is there c same) (own_stays, from_own n)
    | inr far ↦ (here_stays n c far (stands p c), onward_stays n (above_name p c) (λ a. stays_along n a) far)
  ]
