-- Which method a call selects in a moved program: that which it selected.
use Rattle.std.proofs.Common.{◌≡◌, ℕ, Bool, true, false, List, [], ◌∷◌, map, Option, Some, None, refl, ap, sym, ◌∙◌}
use Rattle.std.specs.Prelude.{option_and_then, option_map, if◌then◌else◌}
use Rattle.std.specs.List.{AllByRecursion}
use Rattle.jclass.specs.declared.class.ClassParts.{ClassParts}
use Rattle.jclass.specs.declared.class.MemberInfo.{MemberInfo}
use Rattle.jlib.specs.declared.calls.LibCall.{LibCall}
use Rattle.jresolution.specs.declared.jprogram.member.CallKind.{CallKind}
use Rattle.jresolution.specs.declared.jprogram.member.ClassId.{ClassId}
use Rattle.jresolution.specs.declared.jprogram.member.Member.{Member}
use Rattle.jresolution.specs.declared.jprogram.member.Member.TheVariants.{Field, LibField, LibMethod, Method}
use Rattle.jresolution.specs.jprogram.ProgramClasses.{Program, up}
use Rattle.jresolution.specs.jprogram.MemberResolution.{as_selected, desc_of, first_by, method_at, methods_along, name_of, name_of_id, same_method, select}
use Rattle.jresolution.specs.jprogram.NameChecks.{is_reserved}
use Rattle.jresolution.specs.jprogram.ClassFileParts.{member_desc}
use Rattle.jresolution.proofs.JprogramProofs.NameReachability.{clash}
use Rattle.jmoveclass.specs.MovedMembers.{new_desc}
use Rattle.jrewriting.specs.jrewrite.RewrittenPrograms.{moved}
use Rattle.jrewriting.proofs.JrewriteProofs.DeclarationChecks.{Facts}
use Rattle.jrewriting.proofs.JrewriteProofs.FinalOverrides.{AllMoving, at_once_same}
use Rattle.jrewriting.proofs.JrewriteProofs.HierarchyPhases.{AllPlain, IsPlain}
use Rattle.jrewriting.proofs.JrewriteProofs.SupertypeChains.{up_same}
use Rattle.jsimulation_laws.specs.relation.InstructionExpansion.{moved_member, passing}
use Rattle.jmoved_laws.specs.names.ShadowedMethods.{IsClear, IsClearAt}
use Rattle.jmoved_laws.specs.names.MovedLookUps.{kept, library_handed}
use Rattle.jmoved_laws.specs.names.SelectionLaws.{moved_selected}
use Rattle.jmoved_laws.proofs.NamesProofs.ContextMethodLookup.{finds_method, found_kept, is_method}
use Rattle.jmoved_laws.proofs.NamesProofs.MemberSelection.{Turned, along_same, first_same, moved_as, same_as}
use Rattle.jmoved_laws.proofs.NamesProofs.ContextFreeLookup.{StaysAt}
use Rattle.jmoved_laws.proofs.NamesProofs.Twins.{moved_twin, same_twin}

-- ---- members

same_to : (a b : Member) → same_method (moved_member a) (moved_member b) ≡ same_method a b
same_to (Method a) (Method b) = refl
same_to a b = refl

pub turned : (p : Program) → IsPlain p → AllMoving p → Turned p moved_member
turned p is all = record {
  like = λ m. (moved_twin p is all m).like.static;
  same = same_to;
  at_once = λ a b. at_once_same p a (moved_member a) b (moved_member b) (moved_twin p is all a).like (moved_twin p is all b).like;
}

abbrev itself : Member → Member
itself m = m

pub unturned : (p : Program) → IsPlain p → AllMoving p → Turned p itself
unturned p is all = record {
  like = λ m. (same_twin p is all m).like.static;
  same = λ a b. refl;
  at_once = λ a b. at_once_same p a a b b (same_twin p is all a).like (same_twin p is all b).like;
}

-- ---- what is handed a context

-- a descriptor of a method, and the moved one
pub record MovedText (old new : List ℕ) : Type 0 where
  pub class : ClassParts
  pub method : MemberInfo
  pub facts : Facts class method
  pub old_is : member_desc class method ≡ old
  pub new_is : new_desc class method ≡ new

-- nothing but what is handed one
clear_moved : (o : Option Member) → ((x : LibCall) → o ≡ Some (LibMethod x) → library_handed x ≡ true) → ((m : Member) → o ≡ Some m → is_method m ≡ true) → option_and_then kept o ≡ option_map moved_member o
clear_moved None clear is = refl
clear_moved (Some (Method m)) clear is = refl
clear_moved (Some (LibMethod x)) clear is = ap (λ (b : Bool). if b then Some (LibMethod (passing x)) else None) (clear x refl)
clear_moved (Some (Field i j)) clear is = clash (is_method (Field i j)) (is (Field i j) refl) refl
clear_moved (Some LibField) clear is = clash (is_method LibField) (is LibField refl) refl

module _ (p : Program) (is : IsPlain p) (all : AllMoving p) where
  found_clear : (name old new : List ℕ) → MovedText old new → (c : List ℕ) → is_reserved c ≡ false → IsClearAt p name old c → method_at (moved p) name new c ≡ option_map moved_member (method_at p name old c)
  found_clear name old new t c plain clear =
      ap (λ (d : List ℕ). method_at (moved p) name d c) (sym t.new_is)
      ∙ found_kept p is all t.class t.method name t.facts c plain
      ∙ ap (λ (d : List ℕ). option_and_then kept (method_at p name d c)) t.old_is
      ∙ clear_moved (method_at p name old c) clear (finds_method p name old c)

  all_clear : (name old new : List ℕ) → MovedText old new → (names : List (List ℕ)) → AllPlain names → IsClear p name old names → AllByRecursion (λ c. method_at (moved p) name new c ≡ option_map moved_member (method_at p name old c)) names
  all_clear name old new t [] plain clear = tt
  all_clear name old new t (c ∷ names) plain clear = (found_clear name old new t c plain.0 clear.0, all_clear name old new t names plain.1 clear.1)

  pub select_moved : (r : Member) (on : ClassId) (call : CallKind) → MovedText (desc_of p r) (desc_of (moved p) (moved_member r)) → name_of (moved p) (moved_member r) ≡ name_of p r → name_of_id (moved p) on ≡ name_of_id p on
      → is_reserved (name_of_id p on) ≡ false → IsClear p (name_of p r) (desc_of p r) (up p (name_of_id p on)) → select (moved p) on (moved_member r) call ≡ moved_selected (select p on r call)
  unfolding select
  select_moved r on call t named same_on plain clear =
      let n = name_of_id p on in
      let s = up_same p is n plain in
      let new = desc_of (moved p) (moved_member r) in
      let names : up (moved p) (name_of_id (moved p) on) ≡ up p n = ap (up (moved p)) same_on ∙ s.same in
      let along : methods_along (moved p) (name_of p r) new (up p n) ≡ map moved_member (methods_along p (name_of p r) (desc_of p r) (up p n)) =
      along_same moved_member (method_at p (name_of p r) (desc_of p r)) (method_at (moved p) (name_of p r) new) (up p n) (all_clear (name_of p r) (desc_of p r) new t (up p n) s.plain clear) in
      ap (λ (x : List ℕ). as_selected (moved p) (first_by (moved p) call (moved_member r) (methods_along (moved p) x new (up (moved p) (name_of_id (moved p) on))))) named
      ∙ ap (λ (xs : List (List ℕ)). as_selected (moved p) (first_by (moved p) call (moved_member r) (methods_along (moved p) (name_of p r) new xs))) names
      ∙ ap (λ (ms : List Member). as_selected (moved p) (first_by (moved p) call (moved_member r) ms)) along
      ∙ ap (as_selected (moved p)) (first_same p moved_member (turned p is all) call r (methods_along p (name_of p r) (desc_of p r) (up p n)))
      ∙ moved_as p (λ m. (moved_twin p is all m).abstract) (first_by p call r (methods_along p (name_of p r) (desc_of p r) (up p n)))

  -- ---- what is handed none

  map_itself : (o : Option Member) → option_map itself o ≡ o
  map_itself None = refl
  map_itself (Some m) = refl

  each_itself : (ms : List Member) → map itself ms ≡ ms
  each_itself [] = refl
  each_itself (m ∷ ms) = ap (λ (xs : List Member). m ∷ xs) (each_itself ms)

  all_itself : (name desc : List ℕ) (names : List (List ℕ)) → AllByRecursion (StaysAt p name desc) names → AllByRecursion (λ c. method_at (moved p) name desc c ≡ option_map itself (method_at p name desc c)) names
  all_itself name desc [] all = tt
  all_itself name desc (c ∷ names) all = (all.0.same ∙ sym (map_itself (method_at p name desc c)), all_itself name desc names all.1)

  pub select_same : (r : Member) (on : ClassId) (call : CallKind) → desc_of (moved p) r ≡ desc_of p r → name_of (moved p) r ≡ name_of p r → name_of_id (moved p) on ≡ name_of_id p on
      → is_reserved (name_of_id p on) ≡ false → AllByRecursion (StaysAt p (name_of p r) (desc_of p r)) (up p (name_of_id p on)) → select (moved p) on r call ≡ select p on r call
  unfolding select
  select_same r on call typed named same_on plain stays =
      let n = name_of_id p on in
      let s = up_same p is n plain in
      let ms = methods_along p (name_of p r) (desc_of p r) (up p n) in
      let names : up (moved p) (name_of_id (moved p) on) ≡ up p n = ap (up (moved p)) same_on ∙ s.same in
      let along : methods_along (moved p) (name_of p r) (desc_of p r) (up p n) ≡ ms =
      along_same itself (method_at p (name_of p r) (desc_of p r)) (method_at (moved p) (name_of p r) (desc_of p r)) (up p n) (all_itself (name_of p r) (desc_of p r) (up p n) stays) ∙ each_itself ms in
      ap (λ (x : List ℕ). as_selected (moved p) (first_by (moved p) call r (methods_along (moved p) x (desc_of (moved p) r) (up (moved p) (name_of_id (moved p) on))))) named
      ∙ ap (λ (x : List ℕ). as_selected (moved p) (first_by (moved p) call r (methods_along (moved p) (name_of p r) x (up (moved p) (name_of_id (moved p) on))))) typed
      ∙ ap (λ (xs : List (List ℕ)). as_selected (moved p) (first_by (moved p) call r (methods_along (moved p) (name_of p r) (desc_of p r) xs))) names
      ∙ ap (λ (xs : List Member). as_selected (moved p) (first_by (moved p) call r xs)) (along ∙ sym (each_itself ms))
      ∙ ap (as_selected (moved p)) (first_same p itself (unturned p is all) call r ms ∙ map_itself (first_by p call r ms))
      ∙ same_as p (λ m. (same_twin p is all m).abstract) (first_by p call r ms)
