-- Where the operands of a call were taken, it comes to the same method in the moved program.
use Rattle.std.proofs.Common.{◌≡◌, ℕ, Bool, true, false, List, ◌∷◌, Option, Some, None, refl, ap, sym, ◌∙◌, subst, inl, inr}
use Rattle.std.specs.Prelude.{option_and_then, option_map, slice_get, ◌||◌, if◌then◌else◌}
use Rattle.std.specs.List.{list_any}
use Rattle.std.specs.Str.{bytes_eq}
use Rattle.jlib.proofs.LibraryLookup.{class_found}
use Rattle.jtypes.specs.declared.vtype.VType.TheVariants as types
use Rattle.jresolution.specs.declared.jprogram.member.CallKind.TheVariants as kinds
use Rattle.jresolution.specs.declared.jprogram.member.Member.{Member}
use Rattle.jresolution.specs.declared.jprogram.member.Selected.{Selected}
use Rattle.jresolution.specs.declared.jprogram.part.ClassRef.{ClassRef}
use Rattle.jresolution.specs.declared.jprogram.part.ClassRef.TheVariants as refs
use Rattle.jresolution.specs.declared.jprogram.part.CodePart.{CodePart}
use Rattle.jresolution.specs.jprogram.ProgramClasses.{Class, Lib, Program, User, above, above_name, extends, find, object, onward, ref_of, super_at, up, named}
use Rattle.jresolution.specs.jprogram.MemberResolution.{desc_of, init, name_of, name_of_id, select}
use Rattle.jresolution.specs.jprogram.ClassFileParts.{super_name, this_name}
use Rattle.jresolution.specs.jprogram.OrderedPrograms.{StandsInOrder}
use Rattle.jresolution.proofs.JprogramProofs.CycleSearch.{or_split}
use Rattle.jresolution.proofs.JprogramProofs.SuperclassOrder.{extends_object, up_is}
use Rattle.jresolution.proofs.JprogramProofs.ImplementationRows.{found_part, own_place}
use Rattle.jresolution.proofs.JprogramProofs.NameReachability.{clash, or_right}
use Rattle.jresolution.proofs.JprogramProofs.ClassHeights.{Stands, Users, Libs, Nowhere, stands}
use Rattle.jlinking.specs.jlink.LinkedPrograms.{Links}
use Rattle.jlinking.specs.jlink.NamedCalls.{begins}
use Rattle.jlinking.proofs.JlinkProofs.PresentValues.{map_is, then_is}
use Rattle.jresolution.specs.declared.juses.meaning.InvokeKind.{InvokeKind}
use Rattle.jresolution.specs.declared.juses.meaning.InvokeKind.TheVariants as how
use Rattle.jresolution.specs.juses.InstructionMeanings.{CallMeaning}
use Rattle.jsemantics.specs.jmachine.CallTargets.{Target, by_interface, from_above, on_object, reached, special}
use Rattle.jsemantics.specs.ProofNames.{by_class}
use Rattle.jsemantics.specs.jmachine.HeapObjects.{Object, class_of, id_of}
use Rattle.jsemantics.specs.jmachine.InstructionSites.{Site}
use Rattle.jsemantics.specs.jmachine.World.{World, class_id, fits, is_instance, world}
use Rattle.jrewriting.specs.jrewrite.RewrittenPrograms.{moved}
use Rattle.jrewriting.proofs.JrewriteProofs.FinalOverrides.{AllMoving}
use Rattle.jrewriting.proofs.JrewriteProofs.HierarchyPhases.{IsPlain}
use Rattle.jsimulation_laws.specs.relation.InstructionExpansion.{Handed, handed, moved_member, moved_target, way_of}
use Rattle.jmoved_laws.specs.names.ResolvedCalls.{IsResolvedCall}
use Rattle.jmoved_laws.specs.names.SelectionLaws.{moved_selected}
use Rattle.jmoved_laws.proofs.NamesProofs.Classes.{name_same, super_same}
use Rattle.jmoved_laws.proofs.NamesProofs.ReceiverDispatch.{interface_moved, itself_moved, reached_moved}
use Rattle.jmoved_laws.proofs.NamesProofs.ContextCalls.{fits_selects, has_selects, meets_below, selects}
use Rattle.jmoved_laws.proofs.NamesProofs.ChainLookup.{extends_parts}
use Rattle.jmoved_laws.proofs.NamesProofs.MethodResolution.{Resolved, resolved_at}

-- ---- the class above

-- the name of a class that was found, by its number
ref_named : (p : Program) (s : List ℕ) (k : Class) → find p s ≡ Some k → name_of_id p (class_id (ref_of k)) ≡ s
ref_named p s k e = by (stands p s)
  where
    by : Stands p s → name_of_id p (class_id (ref_of k)) ≡ s
    by (Users i part at own is) =
        let both : Some k ≡ Some (User i part.class) = sym e ∙ is in
        let same : k ≡ User i part.class = cc in
        ap (λ (x : Class). name_of_id p (class_id (ref_of x))) same ∙ ap (λ (o : Option CodePart). named (option_map (λ part. User i part.class) o)) at ∙ own
    by (Libs l at is) =
        let both : Some k ≡ Some (Lib l) = sym e ∙ is in
        let same : k ≡ Lib l = cc in
        ap (λ (x : Class). name_of_id p (class_id (ref_of x))) same ∙ (class_found p.side s l at).0
    by (Nowhere none) = let no : None ≡ Some k = sym none ∙ e in absurd cc

record IsSuper (p : Program) (c : List ℕ) (r : ClassRef) : Type 0 where
  above_is : above_name p c ≡ Some (name_of_id p (class_id r))

module _ (p : Program) (good : StandsInOrder p) (i : ℕ) (part : CodePart) (at : slice_get p.parts i ≡ Some part) where
  abbrev this : List ℕ
  this = this_name part.class

  this_find : find p this ≡ Some (User i part.class)
  this_find = found_part p good this i part (own_place p good i part at) at

  super_of : (r : ClassRef) → super_at p (refs.User i) ≡ Some r → IsSuper p this r
  super_of r e =
      let here : option_map ref_of (option_and_then (find p) (super_name part.class)) ≡ Some r = sym (ap (λ (o : Option CodePart). option_map ref_of (option_and_then (find p) (option_and_then above (option_map (λ x. User i x.class) o)))) at) ∙ e in
      let k = map_is ref_of (option_and_then (find p) (super_name part.class)) r here in
      let s = then_is (find p) (super_name part.class) k.0 k.1 in
      let named_so : name_of_id p (class_id r) ≡ s.0 = ap (λ (x : ClassRef). name_of_id p (class_id x)) (sym k.2) ∙ ref_named p s.0 k.0 s.2 in
      record { above_is = ap (option_and_then above) this_find ∙ s.1 ∙ ap (λ (x : List ℕ). Some x) (sym named_so) }

  -- what the class extends besides itself, the class above it extends
  pub super_extends : (owner : List ℕ) (r : ClassRef) → super_at p (refs.User i) ≡ Some r → extends p this owner ≡ true → bytes_eq owner this ≡ false → extends p (name_of_id p (class_id r)) owner ≡ true
  unfolding extends
  super_extends owner r e ext apart =
      let s = name_of_id p (class_id r) in
      elim (extends_parts p this owner ext) [
        | inl top ↦ subst (λ (x : List ℕ). extends p s x ≡ true) (sym top) (extends_object p s)
        | inr far ↦ (
            let chain : up p this ≡ this ∷ up p s = up_is p good this ∙ ap (λ (o : Option (List ℕ)). this ∷ onward (up p) o) (super_of r e).above_is in
            let both : (bytes_eq owner this || list_any (bytes_eq owner) (up p s)) ≡ true = subst (λ (xs : List (List ℕ)). list_any (bytes_eq owner) xs ≡ true) chain far in
            elim (or_split (bytes_eq owner this) (list_any (bytes_eq owner) (up p s)) both) [
              | inl same ↦ clash (bytes_eq owner this) same apart
              | inr more ↦ or_right (bytes_eq owner object) (list_any (bytes_eq owner) (up p s)) more
            ]
            )
      ]

-- ---- calls on an object, by what is looked at of a place

abbrev pub on_in : {K : Type 0} → World → ℕ → Bool → InvokeKind → CallMeaning → Object K → Target
on_in w i full how.Virtual c x = by_class w full c x
on_in w i full how.Interface c x = by_interface w full c x
on_in w i full how.Special c x = reached full (special w i c)
on_in w i full by c x = reached full (w.itself c.member)

pub on_same : {K : Type 0} (at : Site) (by : InvokeKind) (c : CallMeaning) (x : Object K) → on_object at by c x ≡ on_in at.world at.class at.full by c x
on_same at how.Virtual c x = refl
on_same at how.Interface c x = refl
on_same at how.Special c x = refl
on_same at how.Static c x = refl
on_same at how.Init c x = refl

-- ---- calls that hand on a context

module _ (p : Program) (is : IsPlain p) (good : StandsInOrder p) (links : Links p) (all : AllMoving p) where
  target_same : (full : Bool) (a b : Selected) → a ≡ moved_selected b → reached full a ≡ moved_target (reached full b)
  target_same full a b e = ap (reached full) e ∙ reached_moved full b

  -- where none is called as a constructor
  abbrev pub plain_by : (by : InvokeKind) (c : CallMeaning) (from : List ℕ) → begins by ≡ false → IsResolvedCall p from by c → bytes_eq (name_of p c.member) init ≡ false
  plain_by by c from none says = says.begins ∙ none

  abbrev pub found_by : (by : InvokeKind) (c : CallMeaning) (from : List ℕ) → begins by ≡ false → IsResolvedCall p from by c → Resolved p c.owner.0 (name_of p c.member) (desc_of p c.member) c.member
  found_by by c from none says = resolved_at p c.owner.0 (name_of p c.member) (desc_of p c.member) c.member (plain_by by c from none says) says.resolved

  virtual_moved : {K : Type 0} (this : List ℕ) (c : CallMeaning) (full : Bool) (x : Object K) → IsResolvedCall p this how.Virtual c → way_of c.member ≡ Handed → fits (world p) (class_of (world p).named x) (types.Object c.owner) ≡ true
      → by_class (world (moved p)) full (handed c) x ≡ moved_target (by_class (world p) full c x)
  unfolding world
  virtual_moved this c full x says w h =
      target_same full (select (moved p) (id_of x) (moved_member c.member) kinds.Virtual) (select p (id_of x) c.member kinds.Virtual)
      (fits_selects p is good links all c.owner.0 says.plain c.member w (plain_by how.Virtual c this refl says) (found_by how.Virtual c this refl says) says.crossed x kinds.Virtual h)

  face_selects : {K : Type 0} (this : List ℕ) (c : CallMeaning) (x : Object K) → IsResolvedCall p this how.Interface c → way_of c.member ≡ Handed → is_instance (world p) (class_of (world p).named x) (types.Object c.owner) ≡ true
      → (world (moved p)).select (id_of x) (moved_member c.member) kinds.Interface ≡ moved_selected ((world p).select (id_of x) c.member kinds.Interface)
  unfolding world
  face_selects this c x says w has = has_selects p is good links all c.owner.0 says.plain c.member w (plain_by how.Interface c this refl says) (found_by how.Interface c this refl says) says.crossed x kinds.Interface has

  pub face_moved : {K : Type 0} (this : List ℕ) (c : CallMeaning) (full : Bool) (x : Object K) → IsResolvedCall p this how.Interface c → way_of c.member ≡ Handed
      → by_interface (world (moved p)) full (handed c) x ≡ moved_target (by_interface (world p) full c x)
  face_moved this c full x says w = interface_moved p is all full c.owner c.member x (face_selects this c x says w)

  -- ---- of a class above

  if_moved : (b : Bool) (s t u v : Selected) → s ≡ moved_selected t → (b ≡ false → u ≡ moved_selected v) → (if b then s else u) ≡ moved_selected (if b then t else v)
  if_moved true s t u v e h = e
  if_moved false s t u v e h = h refl

  above_moved : (m : Member) (o : Option ClassRef) → ((r : ClassRef) → o ≡ Some r → (world (moved p)).select (class_id r) (moved_member m) kinds.Special ≡ moved_selected ((world p).select (class_id r) m kinds.Special))
      → from_above (world (moved p)) (moved_member m) o ≡ moved_selected (from_above (world p) m o)
  above_moved m None h = refl
  above_moved m (Some r) h = h r refl

  special_selects : (i : ℕ) (part : CodePart) (c : CallMeaning) → slice_get p.parts i ≡ Some part → IsResolvedCall p (this_name part.class) how.Special c → way_of c.member ≡ Handed → bytes_eq c.owner.0 (this_name part.class) ≡ false
      → (r : ClassRef) → super_at p (refs.User i) ≡ Some r → (world (moved p)).select (class_id r) (moved_member c.member) kinds.Special ≡ moved_selected ((world p).select (class_id r) c.member kinds.Special)
  unfolding world
  special_selects i part c at says w apart r e =
      let ext = super_extends p good i part at c.owner.0 r e (says.upward refl) apart in
      let this = this_name part.class in
      selects p is good links all c.owner.0 says.plain c.member w (found_by how.Special c this refl says) (class_id r) kinds.Special
      (meets_below p is good links all c.owner.0 says.plain c.member w (plain_by how.Special c this refl says) (found_by how.Special c this refl says) (name_of_id p (class_id r)) ext)

  pub named_is : (i : ℕ) (part : CodePart) → slice_get p.parts i ≡ Some part → ((world p).named i).0 ≡ this_name part.class
  unfolding world
  named_is i part at = ap (λ (o : Option CodePart). named (option_map (λ x. User i x.class) o)) at

  pub named_same : (i : ℕ) → ((world (moved p)).named i).0 ≡ ((world p).named i).0
  unfolding world
  named_same i = name_same p is i

  pub above_same : (i : ℕ) → (world (moved p)).above i ≡ (world p).above i
  unfolding world
  above_same i = super_same p is i

  pub super_is : (i : ℕ) (r : ClassRef) → (world p).above i ≡ Some r → super_at p (refs.User i) ≡ Some r
  unfolding world
  super_is i r e = e

  pub special_moved : (i : ℕ) (part : CodePart) (c : CallMeaning) → slice_get p.parts i ≡ Some part → IsResolvedCall p (this_name part.class) how.Special c → way_of c.member ≡ Handed
      → special (world (moved p)) i (handed c) ≡ moved_selected (special (world p) i c)
  special_moved i part c at says w =
      ap (λ (n : List ℕ). if bytes_eq c.owner.0 n then (world (moved p)).itself (moved_member c.member) else from_above (world (moved p)) (moved_member c.member) ((world (moved p)).above i)) (named_same i)
      ∙ ap (λ (o : Option ClassRef). if bytes_eq c.owner.0 ((world p).named i).0 then (world (moved p)).itself (moved_member c.member) else from_above (world (moved p)) (moved_member c.member) o) (above_same i)
      ∙ if_moved (bytes_eq c.owner.0 ((world p).named i).0) ((world (moved p)).itself (moved_member c.member)) ((world p).itself c.member) (from_above (world (moved p)) (moved_member c.member) ((world p).above i)) (from_above (world p) c.member ((world p).above i))
      (itself_moved p is all c.member)
      (λ apart. above_moved c.member ((world p).above i) (λ r e. special_selects i part c at says w (sym (ap (bytes_eq c.owner.0) (named_is i part at)) ∙ apart) r (super_is i r e)))

  -- ---- on an object

  -- what taking says of it
  abbrev pub Serves : {K : Type 0} → InvokeKind → CallMeaning → Object K → Type 0
  Serves how.Virtual c x = fits (world p) (class_of (world p).named x) (types.Object c.owner) ≡ true
  Serves by c x = Unit {0}

  pub object_moved : {K : Type 0} (by : InvokeKind) (i : ℕ) (part : CodePart) (c : CallMeaning) (full : Bool) (x : Object K) → slice_get p.parts i ≡ Some part → IsResolvedCall p (this_name part.class) by c → way_of c.member ≡ Handed → Serves by c x
      → on_in (world (moved p)) i full by (handed c) x ≡ moved_target (on_in (world p) i full by c x)
  object_moved how.Virtual i part c full x at says w h = virtual_moved (this_name part.class) c full x says w h
  object_moved how.Interface i part c full x at says w h = face_moved (this_name part.class) c full x says w
  object_moved how.Special i part c full x at says w h = target_same full (special (world (moved p)) i (handed c)) (special (world p) i c) (special_moved i part c at says w)
  object_moved how.Static i part c full x at says w h = target_same full ((world (moved p)).itself (moved_member c.member)) ((world p).itself c.member) (itself_moved p is all c.member)
  object_moved how.Init i part c full x at says w h = target_same full ((world (moved p)).itself (moved_member c.member)) ((world p).itself c.member) (itself_moved p is all c.member)
