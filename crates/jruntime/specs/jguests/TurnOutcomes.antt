-- What a turn came to.
use Rattle.std.specs.Prelude.{◌≡◌, ℕ, Bool, List}
use Rattle.joutput.specs.declared.jtrace.event.Event.{Event}
use Rattle.jsemantics.specs.jmachine.MachineStates.{Outcome, Went, Over}
use Rattle.jsemantics.specs.jmachine.MachineStates.{State}
use Rattle.jsemantics.specs.jmachine.Store.{Store}
use Rattle.jsemantics.specs.jmachine.ThreadTurns.{ended, turned}
use Rattle.jruntime.specs.declared.jguests.guests.Guests.{Guests}
use Rattle.jruntime.specs.declared.jguests.turns.Turned.{Turned}
use Rattle.jruntime.specs.declared.jguests.turns.Turned.TheVariants as turns
use Rattle.jruntime.specs.jguests.GuestThreads.{state_by}

-- Another thread runs, or the same again; or none can run, and the run has ended.
abbrev pub outcome_of : {E : Type 0} → Turned → Guests E → Store ℕ → List Event → Outcome (State ℕ E)
outcome_of turns.Goes g store events = Went (state_by g store) events
outcome_of (turns.Ends end) g store events = Over (state_by g store) events end

-- A turn was given as the machine's definition does it, whatever the store is and what was told.
abbrev pub Turns : {E : Type 0} → List ℕ → Guests E → Turned → Guests E → Type 0
Turns schedule g done h = (store : Store ℕ) (events : List Event) → turned schedule (state_by g store) events ≡ outcome_of done h store events

-- The running thread ended, by an exception or not, as the machine's definition ends it, and another took its turn.
abbrev pub EndsTurn : {E : Type 0} → List ℕ → Bool → Guests E → Turned → Guests E → Type 0
EndsTurn schedule failed g done h =
    (before store : Store ℕ) (events : List Event) → ended schedule (state_by g before) store failed events ≡ outcome_of done h store events
