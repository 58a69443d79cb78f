-- A machine in the midst of a step, by what it was.
use Rattle.std.proofs.Common.{◌∙◌, ℕ, inl, inr, refl, subst, sym, ap}
use Rattle.jmemory.specs.declared.jheap.cell.Kind.TheVariants as kinds
use Rattle.jmemory.specs.jheap.Heaps.{Heaped}
use Rattle.jlib.specs.declared.classes.Thrown.{Thrown as ThrownClass}
use Rattle.jresolution.specs.jprogram.ProgramClasses.{Program}
use Rattle.jsemantics.specs.jmachine.MachineStates.{State}
use Rattle.jsemantics.specs.jmachine.ThreadTurns.{with_running}
use Rattle.jserving.specs.jcells.ObjectEquivalence.{AreAlike, KeptLast, MadeStaysAlike, PermissionsLast, StayAlike}
use Rattle.jruntime.specs.declared.jstate.shapes.Shapes.{Shapes}
use Rattle.jruntime.specs.jstate.ClassNumbers.{thrown_number}
use Rattle.jruntime.specs.jstate.HeapMeanings.{Things}
use Rattle.jrows.specs.jcalls.Throws.{RaisedHeap}
use Rattle.jruntime.specs.jguests.GuestThreads.{RunsAs, framed_as, frames_of}
use Rattle.jstepping.specs.jcore.MidStepMachines.{IsNumbered, LeftIsBehind, LeftIsMachine, RaisedIsMachine, StaysOn, left_as}
use Rattle.jstepping.specs.jcore.MachineInvariants.{state_of, store_of, things_of}
use Rattle.jstepping.proofs.JcoreProofs.StepOutcomes.{number_is}

pub left_machine : {E : Type 0} → LeftIsMachine E
left_machine m frames heap things is built celled held kept = record {
  fixed = is.fixed;
  files = is.files;
  depth = is.depth;
  tied = is.tied;
  small = is.small;
  constants = is.constants;
  guests = record { at = is.guests.at; husk = is.guests.husk; table = is.guests.table; few = is.guests.few };
  others = is.others;
  built = built;
  celled = celled;
  held = held;
  kept = kept;
}

-- one object more that names nothing, or none
raised_alike : MadeStaysAlike → (p : Program) (shapes : Shapes) (things : Things) (class : ThrownClass) (h k : Heaped) → RaisedHeap class h k
    → StayAlike p shapes things h.objects k.objects
raised_alike made p shapes things class h k (inl e) others alike = subst (λ (x : Heaped). AreAlike p shapes things others x.objects) (sym e) alike
raised_alike made p shapes things class h k (inr e) others alike =
    subst (λ (x : Heaped). AreAlike p shapes things others x.objects) (sym e) (made h (kinds.Object (thrown_number class)) 1 p shapes things others alike)

pub raised_machine : {E : Type 0} → MadeStaysAlike → PermissionsLast → KeptLast → RaisedIsMachine E
raised_machine made permissions kept m frames heap class is more built celled =
    let shapes = m.fixed.shapes.now in
    let alike = raised_alike made m.calls shapes (things_of m) class m.heap heap more in
    left_machine m frames heap (things_of m) is built (celled shapes is.celled)
    (permissions m.calls shapes m.permissions m.kept m.heap.objects heap.objects alike is.held)
    (kept m.calls shapes (things_of m) m.heap.objects heap.objects alike is.kept)

pub left_behind : {E : Type 0} → RunsAs E → LeftIsBehind E
left_behind {E} runs m s frames heap things behind =
    let store = store_of (left_as frames heap things m) in
    runs m.guests (framed_as frames m.guests.running) store ∙ ap (λ (x : State ℕ E). with_running x (frames_of frames) store) behind

pub stays_on : {E : Type 0} → StaysOn E
stays_on m mid n a b = record { fixed = b.fixed ∙ a.fixed; plan = b.plan ∙ a.plan; side = b.side ∙ a.side; calls = b.calls ∙ a.calls }

pub numbered : {E : Type 0} → IsNumbered E
numbered m is = sym (number_is m (state_of m) is.guests refl)
