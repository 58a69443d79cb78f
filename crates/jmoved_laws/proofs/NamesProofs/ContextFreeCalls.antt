-- A call that hands on no context comes to the same member of the library.
use Rattle.std.proofs.Common.{◌≡◌, ℕ, Bool, true, false, List, Option, Some, None, refl, ap, sym, ◌∙◌, inl, inr}
use Rattle.std.specs.Prelude.{slice_get, codes, ◌||◌, if◌then◌else◌}
use Rattle.std.specs.Str.{bytes_eq}
use Rattle.jlib.specs.declared.classes.LibClass.{LibClass}
use Rattle.jlib.specs.declared.classes.LibClass.TheVariants as lib
use Rattle.jlib.specs.declared.calls.LibCall.{LibCall}
use Rattle.jlib.specs.LibraryMembers as library
use Rattle.jlib.specs.LibraryClasses as library_classes
use Rattle.jtypes.specs.declared.vtype.VType.{VType}
use Rattle.jtypes.specs.declared.vtype.VType.TheVariants as types
use Rattle.jtypes.specs.Assignability.{is_above_arrays}
use Rattle.jresolution.specs.declared.jprogram.member.CallKind.{CallKind}
use Rattle.jresolution.specs.declared.jprogram.member.CallKind.TheVariants as kinds
use Rattle.jresolution.specs.declared.jprogram.member.ClassId.{ClassId}
use Rattle.jresolution.specs.declared.jprogram.member.Member.{Member}
use Rattle.jresolution.specs.declared.jprogram.member.Member.TheVariants.{Field, LibField, LibMethod, Method}
use Rattle.jresolution.specs.declared.jprogram.member.Selected.{Selected}
use Rattle.jresolution.specs.declared.jprogram.part.ClassRef.{ClassRef}
use Rattle.jresolution.specs.declared.jprogram.part.ClassRef.TheVariants as refs
use Rattle.jresolution.specs.declared.jprogram.part.CodePart.{CodePart}
use Rattle.jresolution.specs.jprogram.ProgramClasses.{Program, extends, find, holds, is_interface, object, super_at}
use Rattle.jresolution.specs.jprogram.MemberResolution.{desc_of, init, is_static, name_of, name_of_id, select}
use Rattle.jresolution.specs.jprogram.NameChecks.{is_reserved}
use Rattle.jresolution.specs.jprogram.ClassFileParts.{this_name}
use Rattle.jresolution.specs.jprogram.OrderedPrograms.{StandsInOrder}
use Rattle.jresolution.proofs.JprogramProofs.CycleSearch.{or_split}
use Rattle.jresolution.proofs.JprogramProofs.NameReachability.{clash, name_is}
use Rattle.jresolution.proofs.JprogramProofs.ClassHeights.{lib_find, not_taken}
use Rattle.jlinking.specs.jlink.LinkedPrograms.{Links}
use Rattle.jlinking.specs.jlink.NamedCalls.{begins}
use Rattle.jresolution.specs.declared.juses.meaning.InvokeKind.{InvokeKind}
use Rattle.jresolution.specs.declared.juses.meaning.InvokeKind.TheVariants as how
use Rattle.jresolution.specs.juses.InstructionMeanings.{CallMeaning}
use Rattle.jresolution.specs.juses.DescriptorTypes.{name}
use Rattle.jsemantics.specs.jmachine.CallTargets.{from_above, reached, special}
use Rattle.jsemantics.specs.ProofNames.{by_class}
use Rattle.jsemantics.specs.jmachine.HeapObjects.{Object, class_of, id_of}
use Rattle.jsemantics.specs.jmachine.World.{class_id, fits, world}
use Rattle.jrewriting.specs.jrewrite.RewrittenPrograms.{moved}
use Rattle.jrewriting.proofs.JrewriteProofs.FinalOverrides.{AllMoving}
use Rattle.jrewriting.proofs.JrewriteProofs.HierarchyPhases.{IsPlain}
use Rattle.jsimulation_laws.specs.relation.InstructionExpansion.{way_of}
use Rattle.jmoved_laws.specs.names.ResolvedCalls.{IsResolvedCall, calls_static}
use Rattle.jmoved_laws.specs.names.MovedLookUps.{is_handed, library_handed}
use Rattle.jmoved_laws.proofs.NamesProofs.CallSelection.{select_same}
use Rattle.jmoved_laws.proofs.NamesProofs.ReceiverDispatch.{Kind, OfArray, OfClass, id_same, itself_same, kind}
use Rattle.jmoved_laws.proofs.NamesProofs.OperandDispatch.{Serves, above_same, named_is, named_same, on_in, super_extends, super_is}
use Rattle.jmoved_laws.proofs.NamesProofs.ContextCalls.{or_three}
use Rattle.jmoved_laws.proofs.NamesProofs.ContextMethodLookup.{finds_method}
use Rattle.jmoved_laws.proofs.NamesProofs.LibraryMembers.{alone_concrete}
use Rattle.jmoved_laws.proofs.NamesProofs.ChainLookup.{alone_face, alone_plain, alone_stays, alone_top}
use Rattle.jmoved_laws.proofs.NamesProofs.MethodResolution.{Resolved, resolved_at}

-- of what is above arrays Object alone is no interface
array_top : (p : Program) (good : StandsInOrder p) (d : List ℕ) → is_above_arrays (name d) ≡ true → holds is_interface (find p d) ≡ false → d ≡ object
array_top p good d h face =
    or_three (bytes_eq d (codes "java/lang/Object")) (bytes_eq d (codes "java/lang/Cloneable")) (bytes_eq d (codes "java/io/Serializable")) h
    (λ e. name_is d (codes "java/lang/Object") e)
    (λ e. clash (holds is_interface (find p d)) (at lib.Cloneable refl (name_is d (codes "java/lang/Cloneable") e)) face)
    (λ e. clash (holds is_interface (find p d)) (at lib.Serializable refl (name_is d (codes "java/io/Serializable") e)) face)
  where
    at : (l : LibClass) → library_classes.stands_on p.side l ≡ true → d ≡ library_classes.name_of l → holds is_interface (find p d) ≡ library_classes.is_interface l
    at l on e = ap (λ (n : List ℕ). holds is_interface (find p n)) e ∙ ap (holds is_interface) (lib_find p (not_taken p good) l on)

module _ (p : Program) (is : IsPlain p) (good : StandsInOrder p) (links : Links p) (all : AllMoving p) (y : LibCall) (alone : library_handed y ≡ false) (owner : List ℕ) (plain : is_reserved owner ≡ false)
    (plain_name : bytes_eq (library.name_of_call y) init ≡ false) (static : library.is_static y ≡ false) (r : Resolved p owner (library.name_of_call y) (library.desc_of y) (LibMethod y)) where
  concrete : library.is_concrete y ≡ true
  concrete = alone_concrete y static plain_name alone

  -- what is selected below the class by which it is named
  pub below_same : (on : ClassId) (call : CallKind) → extends p (name_of_id p on) owner ≡ true → select (moved p) on (LibMethod y) call ≡ select p on (LibMethod y) call
  unfolding name_of desc_of
  below_same on call ext =
      select_same p is all (LibMethod y) on call refl refl (id_same p is all on)
      (alone_plain p is good links all y owner alone concrete plain_name r (name_of_id p on) ext plain)
      (alone_stays p is good links all y owner alone concrete plain_name r (name_of_id p on) ext)

  -- the class of an object that fits it extends it
  pub object_extends : {K : Type 0} (x : Object K) → holds is_interface (find p owner) ≡ false → fits (world p) (class_of (world p).named x) (types.Object (name owner)) ≡ true → Kind p x → extends p (name_of_id p (id_of x)) owner ≡ true
  unfolding world
  object_extends x face h (OfClass e) =
      let both : (holds is_interface (find p owner) || extends p (name_of_id p (id_of x)) owner) ≡ true = sym (ap (λ (a : VType). fits (world p) a (types.Object (name owner))) e) ∙ h in
      elim (or_split (holds is_interface (find p owner)) (extends p (name_of_id p (id_of x)) owner) both) [
        | inl over ↦ clash (holds is_interface (find p owner)) over face
        | inr ext ↦ ext
      ]
  object_extends x face h (OfArray e a at) =
      let both : (is_above_arrays (name owner) || holds is_interface (find p owner)) ≡ true = sym (ap (λ (b : VType). fits (world p) b (types.Object (name owner))) at) ∙ h in
      elim (or_split (is_above_arrays (name owner)) (holds is_interface (find p owner)) both) [
        | inl above ↦ alone_top p is good links all y owner alone concrete plain_name r (array_top p good owner above face)
        | inr over ↦ clash (holds is_interface (find p owner)) over face
      ]

  object_same : {K : Type 0} (x : Object K) (call : CallKind) → holds is_interface (find p owner) ≡ false → fits (world p) (class_of (world p).named x) (types.Object (name owner)) ≡ true → Kind p x → select (moved p) (id_of x) (LibMethod y) call ≡ select p (id_of x) (LibMethod y) call
  object_same x call face h k = below_same (id_of x) call (object_extends x face h k)

-- ---- by the way of a call

module _ (p : Program) (is : IsPlain p) (good : StandsInOrder p) (links : Links p) (all : AllMoving p) where
  -- the member that a call names, where it is no constructor
  pub record IsAlone (c : CallMeaning) (owner : List ℕ) : Type 0 where
    pub y : LibCall
    pub is_y : c.member ≡ LibMethod y
    pub alone : library_handed y ≡ false
    pub plain_name : bytes_eq (library.name_of_call y) init ≡ false
    pub static : library.is_static y ≡ false
    pub resolved : Resolved p owner (library.name_of_call y) (library.desc_of y) (LibMethod y)

  alone_by : (m : Member) (owner : List ℕ) → is_handed (way_of m) ≡ false → bytes_eq (name_of p m) init ≡ false → is_static p m ≡ false → Resolved p owner (name_of p m) (desc_of p m) m → (c : CallMeaning) → c.member ≡ m → IsAlone c owner
  unfolding name_of desc_of is_static
  alone_by (LibMethod y) owner w n s r c e = record { y = y; is_y = e; alone = w; plain_name = n; static = s; resolved = r }
  alone_by (Method m) owner w n s r c e = clash true refl w
  alone_by (Field i j) owner w n s r c e = let no : false ≡ true = finds_method p (name_of p (Field i j)) (desc_of p (Field i j)) r.class (Field i j) r.here in absurd cc
  alone_by LibField owner w n s r c e = let no : false ≡ true = finds_method p (name_of p LibField) (desc_of p LibField) r.class LibField r.here in absurd cc

  pub alone_of : (this : List ℕ) (by : InvokeKind) (c : CallMeaning) → begins by ≡ false → calls_static by ≡ false → IsResolvedCall p this by c → is_handed (way_of c.member) ≡ false → IsAlone c c.owner.0
  alone_of this by c plain instance says w =
      let n : bytes_eq (name_of p c.member) init ≡ false = says.begins ∙ plain in
      alone_by c.member c.owner.0 w n (says.static ∙ instance) (resolved_at p c.owner.0 (name_of p c.member) (desc_of p c.member) c.member n says.resolved) c refl

  select_to : (on : ClassId) (c : CallMeaning) (y : LibCall) (call : CallKind) → c.member ≡ LibMethod y → select (moved p) on (LibMethod y) call ≡ select p on (LibMethod y) call → select (moved p) on c.member call ≡ select p on c.member call
  select_to on c y call e h = ap (λ (m : Member). select (moved p) on m call) e ∙ h ∙ sym (ap (λ (m : Member). select p on m call) e)

  virtual_same : {K : Type 0} (this : List ℕ) (c : CallMeaning) (full : Bool) (x : Object K) → IsResolvedCall p this how.Virtual c → is_handed (way_of c.member) ≡ false → fits (world p) (class_of (world p).named x) (types.Object c.owner) ≡ true
      → by_class (world (moved p)) full c x ≡ by_class (world p) full c x
  unfolding world
  virtual_same this c full x says w h =
      let k = alone_of this how.Virtual c refl refl says w in
      ap (reached full) (select_to (id_of x) c k.y kinds.Virtual k.is_y (object_same p is good links all k.y k.alone c.owner.0 says.plain k.plain_name k.static k.resolved x kinds.Virtual says.crossed h (kind p x)))

  -- an interface's method is handed one
  pub face_apart : {P : Type 0} (this : List ℕ) (c : CallMeaning) → IsResolvedCall p this how.Interface c → is_handed (way_of c.member) ≡ false → P
  face_apart this c says w =
      let k = alone_of this how.Interface c refl refl says w in
      alone_face p is good links all k.y c.owner.0 k.alone (alone_concrete k.y k.static k.plain_name k.alone) k.plain_name k.resolved says.crossed

  above_same_by : (m : Member) (o : Option ClassRef) → ((r : ClassRef) → o ≡ Some r → (world (moved p)).select (class_id r) m kinds.Special ≡ (world p).select (class_id r) m kinds.Special)
      → from_above (world (moved p)) m o ≡ from_above (world p) m o
  above_same_by m None h = refl
  above_same_by m (Some r) h = h r refl

  special_selects : (i : ℕ) (part : CodePart) (c : CallMeaning) → slice_get p.parts i ≡ Some part → IsResolvedCall p (this_name part.class) how.Special c → is_handed (way_of c.member) ≡ false → bytes_eq c.owner.0 (this_name part.class) ≡ false
      → (r : ClassRef) → super_at p (refs.User i) ≡ Some r → (world (moved p)).select (class_id r) c.member kinds.Special ≡ (world p).select (class_id r) c.member kinds.Special
  unfolding world
  special_selects i part c at says w apart r e =
      let ext = super_extends p good i part at c.owner.0 r e (says.upward refl) apart in
      let k = alone_of (this_name part.class) how.Special c refl refl says w in
      select_to (class_id r) c k.y kinds.Special k.is_y (below_same p is good links all k.y k.alone c.owner.0 says.plain k.plain_name k.static k.resolved (class_id r) kinds.Special ext)

  if_same : (b : Bool) (s t u v : Selected) → s ≡ t → (b ≡ false → u ≡ v) → (if b then s else u) ≡ (if b then t else v)
  if_same true s t u v e h = e
  if_same false s t u v e h = h refl

  special_same : (i : ℕ) (part : CodePart) (c : CallMeaning) → slice_get p.parts i ≡ Some part → IsResolvedCall p (this_name part.class) how.Special c → is_handed (way_of c.member) ≡ false
      → special (world (moved p)) i c ≡ special (world p) i c
  special_same i part c at says w =
      ap (λ (n : List ℕ). if bytes_eq c.owner.0 n then (world (moved p)).itself c.member else from_above (world (moved p)) c.member ((world (moved p)).above i)) (named_same p is good links all i)
      ∙ ap (λ (o : Option ClassRef). if bytes_eq c.owner.0 ((world p).named i).0 then (world (moved p)).itself c.member else from_above (world (moved p)) c.member o) (above_same p is good links all i)
      ∙ if_same (bytes_eq c.owner.0 ((world p).named i).0) ((world (moved p)).itself c.member) ((world p).itself c.member) (from_above (world (moved p)) c.member ((world p).above i)) (from_above (world p) c.member ((world p).above i))
      (itself_same p is all c.member)
      (λ apart. above_same_by c.member ((world p).above i) (λ r e. special_selects i part c at says w (sym (ap (bytes_eq c.owner.0) (named_is p is good links all i part at)) ∙ apart) r (super_is p is good links all i r e)))

  pub object_alone : {K : Type 0} (by : InvokeKind) (i : ℕ) (part : CodePart) (c : CallMeaning) (full : Bool) (x : Object K) → slice_get p.parts i ≡ Some part → IsResolvedCall p (this_name part.class) by c → is_handed (way_of c.member) ≡ false → Serves p is good links all by c x
      → on_in (world (moved p)) i full by c x ≡ on_in (world p) i full by c x
  object_alone how.Virtual i part c full x at says w h = virtual_same (this_name part.class) c full x says w h
  object_alone how.Interface i part c full x at says w h = face_apart (this_name part.class) c says w
  object_alone how.Special i part c full x at says w h = ap (reached full) (special_same i part c at says w)
  object_alone how.Static i part c full x at says w h = ap (reached full) (itself_same p is all c.member)
  object_alone how.Init i part c full x at says w h = ap (reached full) (itself_same p is all c.member)
