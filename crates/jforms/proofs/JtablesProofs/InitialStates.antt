-- A run by numbers begins where the run by the guard's rules does.
use Rattle.std.proofs.Common.{◌≡◌, ◌∙◌, ℕ, ◌≤◌, Bool, List, Option, Some, None, refl, sym, ap, subst, le-leb}
use Rattle.std.specs.Prelude.{if◌then◌else◌}
use Rattle.joutput.specs.declared.jtrace.event.End.TheVariants as ends
use Rattle.jlib.specs.declared.side.Side.{Side}
use Rattle.jresolution.specs.jprogram.ProgramClasses.{Program}
use Rattle.jsemantics.specs.declared.jmachine.plan.Plan.{Plan}
use Rattle.jsemantics.specs.jmachine.MachineStates.{State}
use Rattle.jsemantics.specs.jmachine.FrameOperations.{domain_of}
use Rattle.jsemantics.specs.jmachine.Machine.{opening}
use Rattle.jsemantics.specs.jmachine.OpeningState.{opening_charge, opening_state}
use Rattle.jsemantics.specs.jmachine.Security as security
use Rattle.jsemantics.specs.jmachine.Security.{Rules}
use Rattle.jrows.specs.jcalls.FrameMarks.{marks_of}
use Rattle.jguard.specs.GuardLaws.{GuardedOpening, MarksStand}
use Rattle.jguard.specs.NumberMeanings.{IsThat, StandsFor}
use Rattle.jruntime.specs.jrun.StepOutcomes.{Begins}
use Rattle.jstepping.specs.declared.jopen.opening.FirstFrame.{FirstFrame}
use Rattle.jstepping.specs.jopen.InitialMachines as opened
use Rattle.jstepping.specs.declared.jcore.machine.Machine.{Machine}
use Rattle.jstepping.specs.jcore.MachineInvariants.{state_of}
use Rattle.jsoundness_laws.specs.progress.TypedStates.{IsTypedState, OpensTyped}
use Rattle.jresolution.specs.jprogram.MemberResolution.{IsMain}
use Rattle.jforms.specs.jtables.Engines.{IsEngine, IsSafe}
use Rattle.jforms.specs.jtables.RunTables.{BegunOr, IsBegun, StartsOr}
use Rattle.jforms.proofs.JtablesProofs.GuardQuestions.{marked}

-- The first state by numbers stands for the first by the guard's rules,
pub first_stands : {M K E : Type 0} (kept : ℕ → Option K) (entry : M → Option E) (mark : ℕ → M) (rules : Rules K E) (p : Program) (plan : Plan) (side : Side) (first : FirstFrame M)
    (given : Option ℕ) (marks : List M) (m : Machine M) → GuardedOpening M K E → MarksStand entry mark rules → IsThat kept given rules.first → rules.side ≡ side
    → first.mark ≡ mark (domain_of p plan.main) → security.handed side given ≡ opened.handed first.context → IsBegun p plan side marks first m
    → StandsFor kept entry (state_of m) (opening_state rules p plan.main plan.heap)
first_stands {M} kept entry mark rules p plan side first given marks m law stand that sided carried handed begun =
    let r = marked side mark given in
    subst (λ (s : State ℕ M). StandsFor kept entry s (opening_state rules p plan.main plan.heap)) (sym (begun.state r (sym carried) handed))
    (law kept entry mark rules stand r (record { side = sym sided; marks = λ d. refl }) that p plan.main plan.heap)

-- which is typed,
pub first_typed : {K E : Type 0} (rules : Rules K E) (p : Program) (plan : Plan) → OpensTyped K E → IsSafe rules p → IsMain p plan.main
    → IsTypedState p rules.side (opening_state rules p plan.main plan.heap)
first_typed rules p plan law safe main = law rules p main.0 plan.main plan.heap safe.sound safe.side safe.sided main.1

-- so the machine and the guard are an engine,
pub engine_begun : {M K E : Type 0} (kept : ℕ → Option K) (entry : M → Option E) (mark : ℕ → M) (rules : Rules K E) (p : Program) (plan : Plan) (side : Side) (first : FirstFrame M)
    (marks : List M) (m : Machine M) → MarksStand entry mark rules → rules.side ≡ side → marks ≡ marks_of mark p → IsBegun p plan side marks first m
    → StandsFor kept entry (state_of m) (opening_state rules p plan.main plan.heap) → IsSafe rules p → IsTypedState p rules.side (opening_state rules p plan.main plan.heap)
    → IsEngine kept entry mark rules m
engine_begun kept entry mark rules p plan side first marks m stand sided carry begun stands safe typed = record {
  ready = begun.ready;
  side = begun.sided ∙ sym sided;
  carry = begun.carry ∙ carry ∙ ap (marks_of mark) (sym begun.calls);
  marks = stand;
  safe = subst (λ (q : Program). IsSafe rules q) (sym begun.calls) safe;
  stands = (opening_state rules p plan.main plan.heap, stands);
  typed = subst (λ (q : Program). IsTypedState q rules.side (opening_state rules p plan.main plan.heap)) (sym begun.calls) typed;
}

-- and the run has not begun.
pub run_begins : {M K E : Type 0} (kept : ℕ → Option K) (entry : M → Option E) (rules : Rules K E) (p : Program) (plan : Plan) (m : Machine M)
    → opening_charge p ≤ plan.heap → StandsFor kept entry (state_of m) (opening_state rules p plan.main plan.heap)
    → Begins (λ s. StandsFor kept entry (state_of m) s) (opening rules p plan)
run_begins kept entry rules p plan m room stands = record {
  state = stands;
  events = refl;
  end = ap (λ (b : Bool). if b then None else Some ends.HeapFull) (le-leb (opening_charge p) plan.heap room);
}

-- So the run by numbers starts, or the heap has too few cells for it.
pub starts : {M K E : Type 0} (kept : ℕ → Option K) (entry : M → Option E) (mark : ℕ → M) (rules : Rules K E) (p : Program) (plan : Plan) (side : Side) (first : FirstFrame M)
    (given : Option ℕ) (marks : List M) (o : Option (Machine M)) → GuardedOpening M K E → MarksStand entry mark rules → IsThat kept given rules.first → rules.side ≡ side
    → first.mark ≡ mark (domain_of p plan.main) → security.handed side given ≡ opened.handed first.context → marks ≡ marks_of mark p
    → IsSafe rules p → IsTypedState p rules.side (opening_state rules p plan.main plan.heap)
    → BegunOr p plan side marks first o → StartsOr kept entry mark rules p plan o
starts kept entry mark rules p plan side first given marks None law stand that sided carried handed carry safe typed begun = begun
starts kept entry mark rules p plan side first given marks (Some m) law stand that sided carried handed carry safe typed begun =
    let stands = first_stands kept entry mark rules p plan side first given marks m law stand that sided carried handed begun in
    record {
      engine = engine_begun kept entry mark rules p plan side first marks m stand sided carry begun stands safe typed;
      begins = run_begins kept entry rules p plan m begun.room stands;
      steps = rw (begun.calls, begun.planned) refl;
    }
