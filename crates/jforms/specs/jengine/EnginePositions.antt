-- Where an engine stands in a run.
use Rattle.std.specs.Prelude.{◌≡◌, Option, None}
use Rattle.joutput.specs.declared.jtrace.event.End.{End}
use Rattle.jsemantics.specs.jmachine.MachineStates.{Outcome}
use Rattle.jsemantics.specs.jmachine.RunTraces.{Run}

-- It has ended as the run has; where it hasn't, it stands for the run's state, and its steps are the run's.
pub record IsAt {S : Type 0} (ended : Option End) (stands : S → Type 0) (steps step : S → Outcome S) (r : Run S) : Type 0 where
  pub end : r.end ≡ ended
  pub state : ended ≡ None → stands r.state
  pub same : ended ≡ None → steps ≡ step
