-- What calls come to in a moved program, where their operands were taken.
use Rattle.std.proofs.Common.{◌≡◌, ℕ, Bool, true, false, List, refl, ap, sym, ◌∙◌, subst, inl, inr}
use Rattle.std.specs.Prelude.{codes, ◌||◌}
use Rattle.std.specs.List.{AllByRecursion}
use Rattle.std.specs.Str.{bytes_eq}
use Rattle.jlib.specs.declared.classes.LibClass.{LibClass}
use Rattle.jlib.specs.declared.classes.LibClass.TheVariants as lib
use Rattle.jlib.specs.declared.calls.LibCall.{LibCall}
use Rattle.jlib.specs.declared.side.Side.{Side}
use Rattle.jlib.specs.LibraryMembers as library
use Rattle.jlib.specs.LibraryClasses as library_classes
use Rattle.jtypes.specs.declared.vtype.VType.{VType}
use Rattle.jtypes.specs.declared.vtype.VType.TheVariants as types
use Rattle.jtypes.specs.Assignability.{is_above_arrays}
use Rattle.jresolution.specs.declared.jprogram.member.CallKind.{CallKind}
use Rattle.jresolution.specs.declared.jprogram.member.ClassId.{ClassId}
use Rattle.jresolution.specs.declared.jprogram.member.Member.{Member}
use Rattle.jresolution.specs.declared.jprogram.member.Member.TheVariants.{Field, LibField, LibMethod, Method}
use Rattle.jresolution.specs.jprogram.ProgramClasses.{Program, extends, find, holds, implements, is_interface, object, superinterfaces, up, faces_of}
use Rattle.jresolution.specs.jprogram.MemberResolution.{desc_of, init, name_of, name_of_id, select}
use Rattle.jresolution.specs.jprogram.NameChecks.{is_reserved}
use Rattle.jresolution.specs.jprogram.OrderedPrograms.{StandsInOrder}
use Rattle.jresolution.proofs.JprogramProofs.CycleSearch.{or_split}
use Rattle.jresolution.proofs.JprogramProofs.SuperclassOrder.{object_find, object_up}
use Rattle.jresolution.proofs.JprogramProofs.NameReachability.{clash, name_is}
use Rattle.jresolution.proofs.JprogramProofs.ClassHeights.{lib_find, not_taken}
use Rattle.jlinking.specs.jlink.LinkedPrograms.{Links}
use Rattle.jresolution.specs.juses.DescriptorTypes.{name}
use Rattle.jsemantics.specs.jmachine.HeapObjects.{Object, class_of, id_of}
use Rattle.jsemantics.specs.jmachine.World.{fits, is_instance, world}
use Rattle.jrewriting.specs.jrewrite.RewrittenPrograms.{moved}
use Rattle.jrewriting.proofs.JrewriteProofs.FinalOverrides.{AllMoving}
use Rattle.jrewriting.proofs.JrewriteProofs.HierarchyPhases.{IsPlain}
use Rattle.jsimulation_laws.specs.relation.InstructionExpansion.{Alone, Handed, Way, moved_member, way_of}
use Rattle.jmoved_laws.specs.names.MovedLookUps.{is_handed, library_handed}
use Rattle.jmoved_laws.specs.names.SelectionLaws.{moved_selected}
use Rattle.jmoved_laws.proofs.NamesProofs.ClassChains.{LibAt}
use Rattle.jmoved_laws.proofs.NamesProofs.CallSelection.{select_moved}
use Rattle.jmoved_laws.proofs.NamesProofs.Classes.{no_faces, none_has}
use Rattle.jmoved_laws.proofs.NamesProofs.LibraryOverrides.{lib_found, one_named}
use Rattle.jmoved_laws.proofs.NamesProofs.ReceiverDispatch.{Kind, OfArray, OfClass, id_same, kind}
use Rattle.jmoved_laws.proofs.NamesProofs.LibraryMembers.{handed_name, handed_no_object}
use Rattle.jmoved_laws.proofs.NamesProofs.ChainLookup.{Meets, extends_parts, not_lib, plain_below, run_clear, user_has, user_meets}
use Rattle.jmoved_laws.proofs.NamesProofs.MethodResolution.{Above, Over, Place, Resolved, of_all}
use Rattle.jmoved_laws.proofs.NamesProofs.Texts.{Spoken, found_declared, lib_spoken, user_spoken}

-- ---- what is above arrays is the library's

pub or_three : {P : Type 0} (a b c : Bool) → (a || b || c) ≡ true → (a ≡ true → P) → (b ≡ true → P) → (c ≡ true → P) → P
or_three true b c h f g k = f refl
or_three false true c h f g k = g refl
or_three false false c h f g k = k h

array_lib : (p : Program) (good : StandsInOrder p) (d : List ℕ) → is_above_arrays (name d) ≡ true → LibAt p d
array_lib p good d h =
    or_three (bytes_eq d (codes "java/lang/Object")) (bytes_eq d (codes "java/lang/Cloneable")) (bytes_eq d (codes "java/io/Serializable")) h
    (λ e. at lib.Object refl (name_is d (codes "java/lang/Object") e)) (λ e. at lib.Cloneable refl (name_is d (codes "java/lang/Cloneable") e)) (λ e. at lib.Serializable refl (name_is d (codes "java/io/Serializable") e))
  where
    at : (l : LibClass) → library_classes.stands_on p.side l ≡ true → d ≡ library_classes.name_of l → LibAt p d
    at l on e = record { one = l; is = ap (find p) e ∙ lib_find p (not_taken p good) l on }

-- ---- of a method that is handed a context

-- what the place of a member says in Object
top_place : (p : Program) (is : IsPlain p) (good : StandsInOrder p) (c : List ℕ) → Place p object c → c ≡ object
top_place p is good c (Above at) = of_all (λ x. x ≡ object) c (up p object) at (subst (AllByRecursion (λ x. x ≡ object)) (sym (object_up p good)) (refl, tt))
top_place p is good c (Over x there at) =
    let top : x ≡ object = of_all (λ y. y ≡ object) x (up p object) there (subst (AllByRecursion (λ y. y ≡ object)) (sym (object_up p good)) (refl, tt)) in
    of_all (λ y. y ≡ object) c (superinterfaces p x) at (subst (λ (xs : List (List ℕ)). AllByRecursion (λ y. y ≡ object) xs) (sym (ap (superinterfaces p) top ∙ no_faces p object (ap faces_of (object_find p good)))) tt)

module _ (p : Program) (is : IsPlain p) (good : StandsInOrder p) (links : Links p) (all : AllMoving p) (owner : List ℕ) (plain : is_reserved owner ≡ false) where
  -- the member that a call names, where it was found
  abbrev Names : Member → Type 0
  Names m = Resolved p owner (name_of p m) (desc_of p m) m

  pub no_way : {P : Type 0} (w : Way) → w ≡ Alone → w ≡ Handed → P
  no_way w a h = let no : is_handed Alone ≡ is_handed Handed = ap is_handed (sym a ∙ h) in absurd cc

  not_top : {P : Type 0} (y : LibCall) → library_handed y ≡ true → Names (LibMethod y) → owner ≡ object → P
  not_top y h r e =
      let f = lib_found p (name_of p (LibMethod y)) (desc_of p (LibMethod y)) r.class y r.here in
      let top : r.class ≡ object = top_place p is good r.class (subst (λ (o : List ℕ). Place p o r.class) e r.place) in
      handed_no_object y h (one_named (library.owner y) lib.Object (ap library_classes.name_of f.owned ∙ f.named ∙ top))

  lib_run : (y : LibCall) → library_handed y ≡ true → bytes_eq (name_of p (LibMethod y)) init ≡ false → name_of p (LibMethod y) ≡ codes "run"
  unfolding name_of
  lib_run y h plain_name = handed_name y h plain_name

  lib_meets : (y : LibCall) → library_handed y ≡ true → bytes_eq (name_of p (LibMethod y)) init ≡ false → (c : List ℕ) → is_reserved c ≡ false → Meets p (name_of p (LibMethod y)) (desc_of p (LibMethod y)) c
  lib_meets y h plain_name c kept =
      record { plain = kept; clear = run_clear p is good links (name_of p (LibMethod y)) (desc_of p (LibMethod y)) plain_name owner plain (lib_run y h plain_name) (up p c) }

  -- along a class that extends the one by which it is named
  pub meets_below : (m : Member) → way_of m ≡ Handed → bytes_eq (name_of p m) init ≡ false → Names m → (c : List ℕ) → extends p c owner ≡ true → Meets p (name_of p m) (desc_of p m) c
  meets_below (Method x) w plain_name r c ext = user_meets p is good links (name_of p (Method x)) (desc_of p (Method x)) plain_name owner plain x r c ext
  meets_below (LibMethod y) w plain_name r c ext = elim (extends_parts p c owner ext) [
    | inl top ↦ not_top y (ap is_handed w) r top
    | inr far ↦ lib_meets y (ap is_handed w) plain_name c (plain_below p is good c owner plain far)
  ]
  meets_below (Field i j) w plain_name r c ext = no_way Alone refl w
  meets_below LibField w plain_name r c ext = no_way Alone refl w

  -- along one that has the interface by which it is named
  has_plain : (c : List ℕ) (b : Bool) → is_reserved c ≡ b → implements p c owner ≡ true → is_reserved c ≡ false
  has_plain c false e h = e
  has_plain c true e h = clash (implements p c owner) h (none_has p is c e owner)

  meets_has : (m : Member) → way_of m ≡ Handed → bytes_eq (name_of p m) init ≡ false → Names m → holds is_interface (find p owner) ≡ true → (c : List ℕ) → implements p c owner ≡ true → Meets p (name_of p m) (desc_of p m) c
  unfolding implements
  meets_has (Method x) w plain_name r face c h = user_has p is good links (name_of p (Method x)) (desc_of p (Method x)) plain_name owner plain x r c face h (has_plain c (is_reserved c) refl h)
  meets_has (LibMethod y) w plain_name r face c h = lib_meets y (ap is_handed w) plain_name c (has_plain c (is_reserved c) refl h)
  meets_has (Field i j) w plain_name r face c h = no_way Alone refl w
  meets_has LibField w plain_name r face c h = no_way Alone refl w

  -- of an array
  meets_array : (m : Member) → way_of m ≡ Handed → bytes_eq (name_of p m) init ≡ false → Names m → is_above_arrays (name owner) ≡ true → Meets p (name_of p m) (desc_of p m) object
  meets_array (Method x) w plain_name r h = not_lib p is good links (name_of p (Method x)) (desc_of p (Method x)) plain_name owner plain x r (array_lib p good owner h)
  meets_array (LibMethod y) w plain_name r h = lib_meets y (ap is_handed w) plain_name object refl
  meets_array (Field i j) w plain_name r h = no_way Alone refl w
  meets_array LibField w plain_name r h = no_way Alone refl w

  -- ---- of an object

  -- which fits the class by which the method is named
  pub fits_below : {K : Type 0} (m : Member) → way_of m ≡ Handed → bytes_eq (name_of p m) init ≡ false → Names m → holds is_interface (find p owner) ≡ false → (x : Object K) → fits (world p) (class_of (world p).named x) (types.Object (name owner)) ≡ true
      → Kind p x → Meets p (name_of p m) (desc_of p m) (name_of_id p (id_of x))
  unfolding world
  fits_below m w plain_name r face x h (OfClass e) =
      let both : (holds is_interface (find p owner) || extends p (name_of_id p (id_of x)) owner) ≡ true = sym (ap (λ (a : VType). fits (world p) a (types.Object (name owner))) e) ∙ h in
      elim (or_split (holds is_interface (find p owner)) (extends p (name_of_id p (id_of x)) owner) both) [
        | inl over ↦ clash (holds is_interface (find p owner)) over face
        | inr ext ↦ meets_below m w plain_name r (name_of_id p (id_of x)) ext
      ]
  fits_below m w plain_name r face x h (OfArray e a at) =
      let both : (is_above_arrays (name owner) || holds is_interface (find p owner)) ≡ true = sym (ap (λ (b : VType). fits (world p) b (types.Object (name owner))) at) ∙ h in
      elim (or_split (is_above_arrays (name owner)) (holds is_interface (find p owner)) both) [
        | inl above ↦ subst (λ (on : ClassId). Meets p (name_of p m) (desc_of p m) (name_of_id p on)) (sym e) (meets_array m w plain_name r above)
        | inr over ↦ clash (holds is_interface (find p owner)) over face
      ]

  -- which has the interface by which it is named
  pub has_below : {K : Type 0} (m : Member) → way_of m ≡ Handed → bytes_eq (name_of p m) init ≡ false → Names m → holds is_interface (find p owner) ≡ true → (x : Object K) → is_instance (world p) (class_of (world p).named x) (types.Object (name owner)) ≡ true
      → Kind p x → Meets p (name_of p m) (desc_of p m) (name_of_id p (id_of x))
  unfolding world
  has_below m w plain_name r face x h (OfClass e) =
      let both : (extends p (name_of_id p (id_of x)) owner || implements p (name_of_id p (id_of x)) owner) ≡ true = sym (ap (λ (a : VType). is_instance (world p) a (types.Object (name owner))) e) ∙ h in
      elim (or_split (extends p (name_of_id p (id_of x)) owner) (implements p (name_of_id p (id_of x)) owner) both) [
        | inl ext ↦ meets_below m w plain_name r (name_of_id p (id_of x)) ext
        | inr has ↦ meets_has m w plain_name r face (name_of_id p (id_of x)) has
      ]
  has_below m w plain_name r face x h (OfArray e a at) =
      let above : is_above_arrays (name owner) ≡ true = sym (ap (λ (b : VType). is_instance (world p) b (types.Object (name owner))) at) ∙ h in
      subst (λ (on : ClassId). Meets p (name_of p m) (desc_of p m) (name_of_id p on)) (sym e) (meets_array m w plain_name r above)

  -- ---- what is selected

  spoken_of : (m : Member) → way_of m ≡ Handed → Names m → Spoken p m
  spoken_of (Method x) w r = user_spoken p is all x (found_declared p all (name_of p (Method x)) (desc_of p (Method x)) r.class x r.here)
  spoken_of (LibMethod y) w r =
      let f = lib_found p (name_of p (LibMethod y)) (desc_of p (LibMethod y)) r.class y r.here in
      lib_spoken p y (ap is_handed w) (ap (λ (s : Side). library.call_stands_on s y) (sym is.source) ∙ f.on)
  spoken_of (Field i j) w r = no_way Alone refl w
  spoken_of LibField w r = no_way Alone refl w

  pub selects : (m : Member) → way_of m ≡ Handed → Names m → (on : ClassId) (call : CallKind) → Meets p (name_of p m) (desc_of p m) (name_of_id p on) → select (moved p) on (moved_member m) call ≡ moved_selected (select p on m call)
  selects m w r on call k =
      let s = spoken_of m w r in
      select_moved p is all m on call s.text s.named (id_same p is all on) k.plain k.clear

  pub fits_selects : {K : Type 0} (m : Member) → way_of m ≡ Handed → bytes_eq (name_of p m) init ≡ false → Names m → holds is_interface (find p owner) ≡ false → (x : Object K) (call : CallKind) → fits (world p) (class_of (world p).named x) (types.Object (name owner)) ≡ true
      → select (moved p) (id_of x) (moved_member m) call ≡ moved_selected (select p (id_of x) m call)
  fits_selects m w plain_name r face x call h = selects m w r (id_of x) call (fits_below m w plain_name r face x h (kind p x))

  pub has_selects : {K : Type 0} (m : Member) → way_of m ≡ Handed → bytes_eq (name_of p m) init ≡ false → Names m → holds is_interface (find p owner) ≡ true → (x : Object K) (call : CallKind) → is_instance (world p) (class_of (world p).named x) (types.Object (name owner)) ≡ true
      → select (moved p) (id_of x) (moved_member m) call ≡ moved_selected (select p (id_of x) m call)
  has_selects m w plain_name r face x call h = selects m w r (id_of x) call (has_below m w plain_name r face x h (kind p x))
