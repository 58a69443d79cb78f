-- What is told a message may be told one.
use Rattle.std.proofs.Common.{◌≡◌, ◌∙◌, ℕ, zero, suc, ◌||◌, Bool, true, false, List, [], Option, Some, None, refl, sym, ap, subst}
use Rattle.std.specs.Prelude.{option_map, slice_get}
use Rattle.std.specs.Str.{bytes_eq}
use Rattle.std.proofs.lemmas.Option.{slice_get_within}
use Rattle.jmemory.specs.declared.jheap.cell.Kind.{Kind}
use Rattle.jmemory.specs.declared.jheap.cell.Kind.TheVariants as cells
use Rattle.jmemory.specs.jheap.Heaps as heaps
use Rattle.jmemory.specs.jheap.Heaps.{Heaped, kind_at}
use Rattle.jlib.specs.declared.calls.LibCall.{LibCall}
use Rattle.jlib.specs.LibraryMembers as library_calls
use Rattle.jlib.specs.LibraryClasses as library
use Rattle.jvalues.specs.declared.jops.value.Value.{Value}
use Rattle.jvalues.specs.declared.jops.value.Value.TheVariants.{Int, Long, Ref, Ctx}
use Rattle.jresolution.specs.declared.jprogram.member.CallKind.{CallKind}
use Rattle.jresolution.specs.declared.jprogram.member.ClassId.{ClassId}
use Rattle.jresolution.specs.declared.jprogram.member.Member.{Member}
use Rattle.jresolution.specs.declared.jprogram.member.MethodId.{MethodId}
use Rattle.jresolution.specs.declared.jprogram.part.ClassRef.{ClassRef}
use Rattle.jresolution.specs.declared.jprogram.part.ClassRef.TheVariants as refs
use Rattle.jresolution.specs.declared.jprogram.part.CodePart.{CodePart}
use Rattle.jresolution.specs.jprogram.ClassFileParts.{this_name}
use Rattle.jresolution.specs.jprogram.ProgramClasses.{Program, User, extends, find, holds, is_interface, name_at, named as named_class}
use Rattle.jresolution.specs.jprogram.MemberResolution.{init, name_of, select}
use Rattle.jresolution.specs.jprogram.OrderedPrograms.{StandsInOrder}
use Rattle.jresolution.proofs.JprogramProofs.SuperclassOrder.{extends_chain}
use Rattle.jresolution.proofs.JprogramProofs.NameReachability.{name_equal}
use Rattle.jtypes.specs.declared.vtype.Name.{Name}
use Rattle.jtypes.specs.declared.vtype.VType.{VType}
use Rattle.jtypes.specs.declared.vtype.VType.TheVariants as types
use Rattle.jresolution.specs.declared.juses.meaning.InvokeKind.{InvokeKind}
use Rattle.jresolution.specs.declared.juses.meaning.InvokeKind.TheVariants as how
use Rattle.jresolution.specs.juses.IndexedInstructions.{Used, instruction_at}
use Rattle.jresolution.specs.juses.InstructionMeanings as meanings
use Rattle.jresolution.specs.juses.InstructionMeanings.{CallMeaning}
use Rattle.jlinking.specs.jlink.NamedCalls.{IsNamedCall, begins}
use Rattle.jlinking.specs.jlink.ProgramFiles.{AreFiles}
use Rattle.jlinking.specs.jlink.LinkedPrograms.{Links}
use Rattle.jlinking.specs.jlink.SelectedMethods.{IsSelectedAs}
use Rattle.jlinking.specs.jlink.ClassOrder.{in_order}
use Rattle.jlinking.proofs.JlinkProofs.PresentValues.{map_is}
use Rattle.jsemantics.specs.jmachine.CallTargets.{Runs, is_begun, may_begin, target}
use Rattle.jsemantics.specs.jmachine.HeapObjects.{Object, class_of}
use Rattle.jsemantics.specs.jmachine.InstructionSites.{Site}
use Rattle.jsemantics.specs.jmachine.Store.{Store, object_at}
use Rattle.jsemantics.specs.jmachine.World.{World, can_be_thrown, fits, world}
use Rattle.jruntime.specs.declared.jstate.shapes.Shape.{Shape}
use Rattle.jruntime.specs.declared.jstate.shapes.Shapes.{Shapes}
use Rattle.jruntime.specs.jstate.ClassNumbers.{class_numbered}
use Rattle.jruntime.specs.jstate.HeapMeanings.{Things, class_by, kind_by, object_by, store_by, user_by}
use Rattle.jruntime.specs.jstate.HeapMeaningLaws.{SeesEach}
use Rattle.jrows.specs.jcalls.MethodCalls.{call_taken}
use Rattle.jrows.specs.jtexts.Messages.{MayBeTold, may_tell}
use Rattle.jstepping.specs.jtold.MessageConstructors.{AreShaped, IsTelling, TellsWhatMay}
use Rattle.jstepping.proofs.JtoldProofs.ThrowableClasses.{is_of_thrown, not_below, throwable}
use Rattle.jstepping.proofs.JtoldProofs.LibraryDispatch.{begun_member, lib_name, target_called}
use Rattle.jstepping.proofs.JtoldProofs.InitReceivers.{was_begun}

second_or : (a b : Bool) → (a || b) ≡ true → a ≡ false → b ≡ true
second_or true b e h = absurd cc
second_or false b e h = e

user_class : (named : ℕ → Name) (j : ℕ) (shape : Option Shape) (cs : List ℕ) → class_of named (user_by j shape cs) ≡ types.Object (named j)
user_class named j None cs = refl
user_class named j (Some shape) cs = refl

world_fits : (p : Program) (j : ℕ) (b : Name) → fits (world p) (types.Object ((world p).named j)) (types.Object b) ≡ (holds is_interface (find p b.0) || extends p (name_at p (refs.User j)) b.0)
unfolding world
world_fits p j b = refl

world_thrown : (p : Program) (j : ℕ) → can_be_thrown (world p) ((world p).named j) ≡ extends p (name_at p (refs.User j)) throwable
unfolding world
world_thrown p j = refl

abbrev Names : Type 0
Names = (p : Program) (i : ℕ) (part : CodePart) → AreFiles p → slice_get p.parts i ≡ Some part → this_name part.class ≡ [] → ⊥

module _ (names : Names) (p : Program) (shapes : Shapes) (links : Links p) (files : AreFiles p) (tied : AreShaped p shapes) where
  abbrev good : StandsInOrder p
  good = in_order p links

  -- a class below Throwable is there, and its shape has a message
  shaped : (j : ℕ) → extends p (name_at p (refs.User j)) throwable ≡ true → may_tell (slice_get shapes.users j) ≡ true
  shaped j below = by (slice_get p.parts j) refl
    where
      by : (o : Option CodePart) → slice_get p.parts j ≡ o → may_tell (slice_get shapes.users j) ≡ true
      by None none =
          let empty : name_at p (refs.User j) ≡ [] = ap (λ (q : Option CodePart). named_class (option_map (λ (part : CodePart). User j part.class) q)) none in
          absurd (not_below p good (λ i part at e. names p i part files at e) (ap (λ (x : List ℕ). extends p x throwable) (sym empty) ∙ below))
      by (Some part) at =
          let has = tied j (slice_get_within p.parts j part at) in
          ap may_tell has.there ∙ has.message ∙ world_thrown p j ∙ below

  module _ (each : SeesEach) (things : Things) (constants : List (List ℕ × ℕ)) (h : Heaped) (at : Site) (same : at.world ≡ world p) (c : CallMeaning) (call : LibCall) (telling : IsTelling call)
      (owned : library.name_of (library_calls.owner call) ≡ c.owner.0) where
    abbrev s : Store ℕ
    s = store_by p shapes things constants h

    placed : (o n j : ℕ) → is_begun at.world c.owner (object_at s (suc o)) ≡ true → kind_at h (suc o) ≡ Some (cells.Object n) → class_numbered n ≡ refs.User j
        → may_tell (slice_get shapes.users j) ≡ true
    placed o n j may kind class =
        let x = map_is (λ (y : heaps.Object). y.kind) (heaps.object_at h (suc o)) (cells.Object n) kind in
        let y : Object ℕ = user_by j (slice_get shapes.users j) x.0.cells in
        let seen : object_at s (suc o) ≡ Some y =
        each p shapes things constants h (suc o) ∙ ap (option_map (object_by p shapes h.objects things)) x.1
        ∙ ap (λ (k : Kind). Some (kind_by p shapes h.objects things k x.0.cells)) x.2
        ∙ ap (λ (r : ClassRef). Some (class_by shapes h.objects things r x.0.cells)) class in
        let here : fits at.world (class_of at.world.named y) (types.Object c.owner) ≡ true = sym (ap (is_begun at.world c.owner) seen) ∙ may in
        let there : fits (world p) (class_of (world p).named y) (types.Object c.owner) ≡ true =
        subst (λ (w : World). fits w (class_of w.named y) (types.Object c.owner) ≡ true) same here in
        let either : (holds is_interface (find p c.owner.0) || extends p (name_at p (refs.User j)) c.owner.0) ≡ true =
        sym (world_fits p j c.owner) ∙ ap (λ (t : VType). fits (world p) t (types.Object c.owner)) (sym (user_class (world p).named j (slice_get shapes.users j) x.0.cells)) ∙ there in
        let facts = is_of_thrown p good call telling in
        let face : holds is_interface (find p c.owner.0) ≡ false =
        ap (λ (z : List ℕ). holds is_interface (find p z)) (sym owned) ∙ ap (holds is_interface) facts.here ∙ facts.class in
        let owner = second_or (holds is_interface (find p c.owner.0)) (extends p (name_at p (refs.User j)) c.owner.0) either face in
        shaped j (extends_chain p good (name_at p (refs.User j)) (library.name_of (library_calls.owner call)) throwable (ap (extends p (name_at p (refs.User j))) owned ∙ owner) facts.below)

    of_value : (v : Value ℕ) → may_begin at.world s c.owner v ≡ true → MayBeTold shapes h v
    of_value (Int x) may = tt
    of_value (Long x) may = tt
    of_value (Ctx k) may = tt
    of_value (Ref zero) may = λ n j kind class. cc
    of_value (Ref (suc o)) may = λ n j kind class. placed o n j may kind class

pub tells : ((p : Program) (m : MethodId) (i : ℕ) (by : InvokeKind) (c : CallMeaning) → Links p → instruction_at p m i ≡ Some (Used (meanings.Call by c)) → IsNamedCall p by c)
    → Names → ((p : Program) (on : ClassId) (m : Member) (kind : CallKind) → IsSelectedAs p m (select p on m kind)) → SeesEach → TellsWhatMay
tells calls names selects each p shapes things constants h m i by c at this operands t call v links files tied is same taken runs telling received =
    by_how by (calls p m i by c links is) taken runs
  where
    other : (by : InvokeKind) → begins by ≡ false → IsNamedCall p by c → target at (store_by p shapes things constants h) by c t.values ≡ Some (Runs call) → ⊥
    other by plain named comes =
        let called = target_called selects p at same c call (store_by p shapes things constants h) by t.values plain comes in
        let facts = is_of_thrown p (in_order p links) call telling in
        let one : bytes_eq (name_of p c.member) init ≡ true = ap (λ (x : List ℕ). bytes_eq x init) (sym called ∙ lib_name p call ∙ facts.named) ∙ name_equal init in
        let two : true ≡ false = sym one ∙ named.plain plain in
        cc

    by_how : (by : InvokeKind) → IsNamedCall p by c → call_taken at.world (store_by p shapes things constants h) this by c operands ≡ Some t → target at (store_by p shapes things constants h) by c t.values ≡ Some (Runs call) → MayBeTold shapes h v
    by_how how.Init named took comes =
        let member = begun_member selects p at same c call (store_by p shapes things constants h) t.values comes in
        of_value names p shapes links files tied each things constants h at same c call telling (named.owned call refl member) v (was_begun at.world (store_by p shapes things constants h) c v operands t took received)
    by_how how.Virtual named took comes = absurd (other how.Virtual refl named comes)
    by_how how.Special named took comes = absurd (other how.Special refl named comes)
    by_how how.Static named took comes = absurd (other how.Static refl named comes)
    by_how how.Interface named took comes = absurd (other how.Interface refl named comes)
