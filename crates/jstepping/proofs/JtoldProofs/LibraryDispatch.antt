-- What a call comes to that runs a member of the library's.
use Rattle.std.proofs.Common.{◌≡◌, ◌∙◌, ℕ, zero, suc, Bool, true, false, List, Option, Some, None, refl, sym, ap, subst}
use Rattle.std.specs.Prelude.{option_and_then, if◌then◌else◌}
use Rattle.std.specs.Str.{bytes_eq}
use Rattle.jlib.specs.declared.calls.LibCall.{LibCall}
use Rattle.jlib.specs.declared.classes.LibClass.{LibClass}
use Rattle.jlib.specs.LibraryMembers as library_calls
use Rattle.jvalues.specs.declared.jops.value.Value.{Value}
use Rattle.jvalues.specs.declared.jops.value.Value.TheVariants.{Int, Long, Ref, Ctx}
use Rattle.jresolution.specs.declared.jprogram.member.CallKind.{CallKind}
use Rattle.jresolution.specs.declared.jprogram.member.CallKind.TheVariants as kinds
use Rattle.jresolution.specs.declared.jprogram.member.ClassId.{ClassId}
use Rattle.jresolution.specs.declared.jprogram.member.Member.{Member}
use Rattle.jresolution.specs.declared.jprogram.member.Member.TheVariants.{Field, LibField, LibMethod, Method}
use Rattle.jresolution.specs.declared.jprogram.member.Selected.{Selected}
use Rattle.jresolution.specs.declared.jprogram.member.Selected.TheVariants as selected
use Rattle.jresolution.specs.declared.jprogram.part.ClassRef.{ClassRef}
use Rattle.jresolution.specs.jprogram.ProgramClasses.{Program}
use Rattle.jresolution.specs.jprogram.MemberResolution.{as_selected, is_abstract, name_of, select}
use Rattle.jresolution.specs.declared.juses.meaning.InvokeKind.{InvokeKind}
use Rattle.jresolution.specs.declared.juses.meaning.InvokeKind.TheVariants as how
use Rattle.jresolution.specs.juses.InstructionMeanings.{CallMeaning}
use Rattle.jlinking.specs.jlink.NamedCalls.{begins}
use Rattle.jlinking.specs.jlink.SelectedMethods.{IsSelectedAs}
use Rattle.jlinking.proofs.JlinkProofs.PresentValues.{map_is, then_is}
use Rattle.jsemantics.specs.jmachine.CallTargets.{Runs, Target, from_above, on_object, on_value, reached, receiver, special, target, unless}
use Rattle.jsemantics.specs.jmachine.HeapObjects.{Object, id_of}
use Rattle.jsemantics.specs.jmachine.InstructionSites.{Site}
use Rattle.jsemantics.specs.jmachine.Store.{Store, object_of}
use Rattle.jsemantics.specs.jmachine.World.{World, class_id, world}

reached_lib : (full : Bool) (s : Selected) (call : LibCall) → reached full s ≡ Runs call → s ≡ selected.Lib call
reached_lib true (selected.Method m) call e = absurd cc
reached_lib false (selected.Method m) call e = absurd cc
reached_lib full (selected.Lib x) call e = let same : x ≡ call = cc in ap (λ (y : LibCall). selected.Lib y) same
reached_lib full (selected.Abstract m) call e = absurd cc
reached_lib full selected.Missing call e = absurd cc

unless_runs : (o : Option LibClass) (t : Target) (call : LibCall) → unless o t ≡ Runs call → t ≡ Runs call
unless_runs None t call e = e
unless_runs (Some x) t call e = absurd cc

itself_lib : (p : Program) (m : Member) (call : LibCall) → as_selected p (Some m) ≡ selected.Lib call → m ≡ LibMethod call
itself_lib p (Method m) call e = absurd (by (is_abstract p (Method m)) e)
  where
    by : (b : Bool) → (if b then selected.Abstract (Method m) else selected.Method m) ≡ selected.Lib call → ⊥
    by true h = cc
    by false h = cc
itself_lib p (LibMethod x) call e = by (is_abstract p (LibMethod x)) e
  where
    by : (b : Bool) → (if b then selected.Abstract (LibMethod x) else selected.Lib x) ≡ selected.Lib call → LibMethod x ≡ LibMethod call
    by true h = absurd cc
    by false h = let same : x ≡ call = cc in ap (λ (y : LibCall). LibMethod y) same
itself_lib p (Field i j) call e = absurd cc
itself_lib p LibField call e = absurd cc

world_itself : (p : Program) (m : Member) → (world p).itself m ≡ as_selected p (Some m)
unfolding world
world_itself p m = refl

world_select : (p : Program) (on : ClassId) (m : Member) (kind : CallKind) → (world p).select on m kind ≡ select p on m kind
unfolding world
world_select p on m kind = refl

pub lib_name : (p : Program) (call : LibCall) → name_of p (LibMethod call) ≡ library_calls.name_of_call call
unfolding name_of
lib_name p call = refl

module _ (law : (p : Program) (on : ClassId) (m : Member) (kind : CallKind) → IsSelectedAs p m (select p on m kind)) (p : Program) (at : Site) (same : at.world ≡ world p)
    (c : CallMeaning) (call : LibCall) where
  abbrev Called : Type 0
  Called = name_of p (LibMethod call) ≡ name_of p c.member

  member_is : at.world.itself c.member ≡ selected.Lib call → c.member ≡ LibMethod call
  member_is e = itself_lib p c.member call (sym (world_itself p c.member) ∙ sym (ap (λ (w : World). w.itself c.member) same) ∙ e)

  by_itself : at.world.itself c.member ≡ selected.Lib call → Called
  by_itself e = ap (name_of p) (sym (member_is e))

  by_select : (on : ClassId) (kind : CallKind) → at.world.select on c.member kind ≡ selected.Lib call → Called
  by_select on kind e =
      let is : select p on c.member kind ≡ selected.Lib call = sym (world_select p on c.member kind) ∙ sym (ap (λ (w : World). w.select on c.member kind) same) ∙ e in
      let both = subst (IsSelectedAs p c.member) is (law p on c.member kind) in
      both.0

  by_above : (r : Option ClassRef) → from_above at.world c.member r ≡ selected.Lib call → Called
  by_above None e = absurd cc
  by_above (Some r) e = by_select (class_id r) kinds.Special e

  by_special : special at.world at.class c ≡ selected.Lib call → Called
  by_special e = by (bytes_eq c.owner.0 (at.world.named at.class).0) e
    where
      by : (b : Bool) → (if b then at.world.itself c.member else from_above at.world c.member (at.world.above at.class)) ≡ selected.Lib call → Called
      by true h = by_itself h
      by false h = by_above (at.world.above at.class) h

  -- on an object, a member that isn't called as a constructor has the name of the one that runs
  object_called : (by : InvokeKind) (x : Object ℕ) → begins by ≡ false → on_object at by c x ≡ Runs call → Called
  object_called how.Virtual x plain e = by_select (id_of x) kinds.Virtual (reached_lib at.full (at.world.select (id_of x) c.member kinds.Virtual) call e)
  object_called how.Interface x plain e =
      by_select (id_of x) kinds.Interface
      (reached_lib at.full (at.world.select (id_of x) c.member kinds.Interface) call (unless_runs _ (reached at.full (at.world.select (id_of x) c.member kinds.Interface)) call e))
  object_called how.Special x plain e = by_special (reached_lib at.full (special at.world at.class c) call e)
  object_called how.Static x plain e = by_itself (reached_lib at.full (at.world.itself c.member) call e)
  object_called how.Init x plain e = absurd cc

  module _ (s : Store ℕ) where
    value_object : (by : InvokeKind) (v : Value ℕ) → on_value at s by c v ≡ Some (Runs call) → (x : Object ℕ) × (object_of s v ≡ Some x) × (on_object at by c x ≡ Runs call)
    value_object by (Ref zero) e = absurd cc
    value_object by (Ref (suc n)) e = map_is (on_object at by c) (object_of s (Ref (suc n))) (Runs call) e
    value_object by (Int x) e = absurd cc
    value_object by (Long x) e = absurd cc
    value_object by (Ctx k) e = absurd cc

    on_called : (by : InvokeKind) (values : List (Value ℕ)) → begins by ≡ false → option_and_then (on_value at s by c) (receiver values) ≡ Some (Runs call) → Called
    on_called by values plain e =
        let v = then_is (on_value at s by c) (receiver values) (Runs call) e in
        let x = value_object by v.0 v.2 in
        object_called by x.0 plain x.2

    pub target_called : (by : InvokeKind) (values : List (Value ℕ)) → begins by ≡ false → target at s by c values ≡ Some (Runs call) → Called
    unfolding target
    target_called how.Static values plain e =
        let is : reached at.full (at.world.itself c.member) ≡ Runs call = cc in
        by_itself (reached_lib at.full (at.world.itself c.member) call is)
    target_called how.Virtual values plain e = on_called how.Virtual values plain e
    target_called how.Special values plain e = on_called how.Special values plain e
    target_called how.Interface values plain e = on_called how.Interface values plain e
    target_called how.Init values plain e = absurd cc

    pub begun_member : (values : List (Value ℕ)) → target at s how.Init c values ≡ Some (Runs call) → c.member ≡ LibMethod call
    unfolding target
    begun_member values e =
        let v = then_is (on_value at s how.Init c) (receiver values) (Runs call) e in
        let x = value_object how.Init v.0 v.2 in
        member_is (reached_lib at.full (at.world.itself c.member) call x.2)
