-- The runs of a program by a machine: the inspecting one and the plain one differ in their rules alone.
use Rattle.std.specs.Prelude.{◌≡◌, ◌≤◌, ℕ, List, [], ◌++◌, Some, None, nat_le, if◌then◌else◌}
use Rattle.joutput.specs.declared.jtrace.event.Event.{Event}
use Rattle.joutput.specs.declared.jtrace.event.End.{End}
use Rattle.joutput.specs.declared.jtrace.event.End.TheVariants as ends
use Rattle.jresolution.specs.jprogram.ProgramClasses.{Program}
use Rattle.jsemantics.specs.declared.jmachine.plan.Plan.{Plan}
use Rattle.jsemantics.specs.jmachine.MachineStates.{State}
use Rattle.jsemantics.specs.jmachine.OpeningState.{opening_charge, opening_state}
use Rattle.jsemantics.specs.jmachine.RunTraces.{Run, run_from}
use Rattle.jsemantics.specs.jmachine.Security.{Rules}
use Rattle.jsemantics.specs.jmachine.MachineSteps.{step}

-- where the heap has too few cells to open, the run has ended
abbrev pub opening : {K E : Type 0} → Rules K E → Program → Plan → Run (State K E)
opening r p plan = record {
  state = opening_state r p plan.main plan.heap;
  events = [];
  end =
      if nat_le (opening_charge p) plan.heap then None else Some ends.HeapFull;
}

-- the run after so many steps
unfoldable pub run : {K E : Type 0} → Rules K E → Program → Plan → ℕ → Run (State K E)
run r p plan k = run_from (step r p plan) k (opening r p plan)

-- ---- laws

-- A run of a program that has ended stays as it is.
abbrev pub RunStays : Type 0 → Type 0 → Type 0
RunStays K E = (r : Rules K E) (p : Program) (plan : Plan) (k n : ℕ) (end : End)
    → k ≤ n → (run r p plan k).end ≡ Some end → run r p plan n ≡ run r p plan k

-- Its events only grow.
abbrev pub RunGrows : Type 0 → Type 0 → Type 0
RunGrows K E = (r : Rules K E) (p : Program) (plan : Plan) (k n : ℕ)
    → k ≤ n → (more : List Event) × ((run r p plan n).events ≡ (run r p plan k).events ++ more)
