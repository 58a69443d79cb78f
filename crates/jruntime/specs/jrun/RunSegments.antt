-- Some steps of a run.
use Rattle.std.specs.Prelude.{◌≡◌, List, [], Option, None, Some}
use Rattle.joutput.specs.declared.jtrace.event.Event.{Event}
use Rattle.joutput.specs.declared.jtrace.event.End.{End}
use Rattle.jsemantics.specs.jmachine.MachineStates.{Outcome}
use Rattle.jsemantics.specs.jmachine.RunTraces.{Run, run_from}
use Rattle.jruntime.specs.declared.jrun.running.Written.{Written}
use Rattle.jruntime.specs.declared.jrun.stepping.Stepped.{Stepped}
use Rattle.jruntime.specs.declared.jrun.stepping.Stepped.TheVariants as done

-- the run that begins at a state
abbrev pub run_at : {S : Type 0} → S → Run S
run_at s = record { state = s; events = []; end = None }

-- The run that begins at the state ended so within these steps, or the machine stands for the state behind them.
pub record Advances {S : Type 0} (stands : S → Type 0) (step : S → Outcome S) (s : S) (done : Written) : Type 0 where
  pub ends : (run_from step done.steps (run_at s)).end ≡ done.end
  pub state : done.end ≡ None → stands (run_from step done.steps (run_at s)).state

-- what a step told
abbrev pub told_in : Stepped → List Event
told_in (done.Went events) = events
told_in (done.Ended events end) = events

-- the end, if it ended the run
abbrev pub end_by : Stepped → Option End
end_by (done.Went events) = None
end_by (done.Ended events end) = Some end
