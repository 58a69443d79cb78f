-- The run of a machine that stands at its beginning, and of none.
use Rattle.std.proofs.Common.{◌≡◌, ◌∙◌, ℕ, ◌<◌, Bool, false, [], Option, Some, None, ap, arith, rules}
use Rattle.std.specs.Prelude.{Err, Ok, OnErr, Result, nat_le, if◌then◌else◌}
use Rattle.joutput.specs.declared.jtrace.event.End.{End}
use Rattle.joutput.specs.declared.jtrace.event.End.TheVariants as ends
use Rattle.jresolution.specs.jprogram.ProgramClasses.{Program}
use Rattle.jsemantics.specs.declared.jmachine.plan.Plan.{Plan}
use Rattle.jsemantics.specs.jmachine.MachineStates.{Outcome, State}
use Rattle.jsemantics.specs.jmachine.Machine.{opening, run}
use Rattle.jsemantics.specs.jmachine.OpeningState.{opening_charge, opening_state}
use Rattle.jsemantics.specs.jmachine.RunTraces.{run_from}
use Rattle.jsemantics.specs.jmachine.Security.{Rules}
use Rattle.jsemantics.specs.jmachine.MachineSteps.{step}
use Rattle.jruntime.proofs.JrunProofs.Courses as courses
use Rattle.jstepping.specs.declared.jcore.machine.Machine.{Machine}

-- Where the heap has too few cells the run has ended before its first step.
pub ended : {K E : Type 0} (r : Rules K E) (p : Program) (plan : Plan) (k : ℕ) → plan.heap < opening_charge p
    → run r p plan k ≡ record { state = opening_state r p plan.main plan.heap; events = []; end = Some ends.HeapFull }
unfolding run run_from
ended r p plan k few =
    let short : nat_le (opening_charge p) plan.heap ≡ false = search rules in
    let over : (opening r p plan).end ≡ Some ends.HeapFull = ap (λ (b : Bool). if b then None else Some ends.HeapFull) short in
    courses.stays (step r p plan) (opening r p plan) 0 k ends.HeapFull (omega arith) over
    ∙ ap (λ (b : Option End). record { state = opening_state r p plan.main plan.heap; events = []; end = b }) over

-- A run by steps that are those of the rules is the run.
runs_as : {K E : Type 0} (rules : Rules K E) (p : Program) (plan : Plan) (k : ℕ) (steps : State K E → Outcome (State K E)) → steps ≡ step rules p plan
    → run_from steps k (opening rules p plan) ≡ run rules p plan k
unfolding run
runs_as rules p plan k steps same = ap (λ f. run_from f k (opening rules p plan)) same

-- So is one by a guard whose rules have stayed.
pub runs_by : {M K E : Type 0} (rules after : Rules K E) (p : Program) (plan : Plan) (k : ℕ) (m : Machine M) → after ≡ rules → step rules m.calls m.plan.now ≡ step rules p plan
    → run_from (step after m.calls m.plan.now) k (opening rules p plan) ≡ run rules p plan k
runs_by {M} {K} {E} rules after p plan k m same steps =
    ap (λ (r : Rules K E). run_from (step r m.calls m.plan.now) k (opening rules p plan)) same ∙ runs_as rules p plan k (step rules m.calls m.plan.now) steps

-- what holds anyhow holds where nothing was made
pub at_err : {T E Q : Type 0} (r : Result T E) → Q → OnErr r Q
at_err (Ok x) q = tt
at_err (Err e) q = q
