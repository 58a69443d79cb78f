-- Runs of typed states.
use Rattle.std.proofs.Common.{◌≡◌, ℕ, zero, suc, Option, Some, None}
use Rattle.joutput.specs.declared.jtrace.event.End.{End}
use Rattle.jresolution.specs.jprogram.ProgramClasses.{Program}
use Rattle.jsemantics.specs.declared.jmachine.plan.Plan.{Plan}
use Rattle.jsemantics.specs.jmachine.MachineStates.{NoStep, Outcome, Over, State, Went}
use Rattle.jsemantics.specs.jmachine.Machine.{opening, run}
use Rattle.jsemantics.specs.jmachine.RunTraces.{next_at, Run, after, run_from}
use Rattle.jsemantics.specs.jmachine.Security.{Rules}
use Rattle.jsemantics.specs.jmachine.MachineSteps.{step}
use Rattle.jsoundness_laws.specs.library.YieldLaws.{AreSided}
use Rattle.jsoundness_laws.specs.progress.SoundPrograms.{IsSound}
use Rattle.jsoundness_laws.specs.progress.TypedStates.{ComesTo, IsTypedRun, IsTypedState, RunsTyped}
use Rattle.jsoundness_laws.proofs.ProgressProofs.InitialState.{opens_typed}
use Rattle.jsoundness_laws.proofs.ProgressProofs.StepSafety.{states_step}

module _ {K E : Type 0} (r : Rules K E) (p : Program) (plan : Plan) (sound : IsSound p) (on_side : r.side ≡ p.side) (sided : AreSided r) where
  -- a run whose state is typed
  typed_run : (x : Run (State K E)) → IsTypedState p r.side x.state → IsTypedRun r p plan x
  typed_run x state = record { state = state; steps = states_step K E r p plan x.state sound on_side sided state }

  after_typed : (x : Run (State K E)) (o : Outcome (State K E)) → ComesTo p r.side o → IsTypedRun r p plan (after (step r p plan) x o)
  after_typed x (Went t events) h = typed_run (after (step r p plan) x (Went t events)) h
  after_typed x (Over t events end) h = typed_run (after (step r p plan) x (Over t events end)) h
  after_typed x NoStep h = absurd h

  next_typed : (x : Run (State K E)) (end : Option End) → IsTypedRun r p plan x → IsTypedRun r p plan (next_at (step r p plan) x end)
  next_typed x (Some end) h = h
  next_typed x None h = after_typed x (step r p plan x.state) h.steps

  run_typed : (k : ℕ) (x : Run (State K E)) → IsTypedRun r p plan x → IsTypedRun r p plan (run_from (step r p plan) k x)
  unfolding run_from
  run_typed zero x h = h
  run_typed (suc k) x h = run_typed k (next_at (step r p plan) x x.end) (next_typed x x.end h)

pub runs_typed : (K E : Type 0) → RunsTyped K E
unfolding run
runs_typed K E r p plan text k sound on_side sided found =
    let state = opens_typed K E r p text plan.main plan.heap sound on_side sided found in
    run_typed r p plan sound on_side sided k (opening r p plan) (typed_run r p plan sound on_side sided (opening r p plan) state)
