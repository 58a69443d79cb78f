-- Runs of any machine: the state, all events, and the end, if there is one, after a number of steps.
use Rattle.std.specs.Prelude.{◌≡◌, ◌≤◌, ℕ, zero, suc, List, [], ◌++◌, Option, Some, None, unwrap_or}
use Rattle.joutput.specs.declared.jtrace.event.Event.{Event}
use Rattle.joutput.specs.declared.jtrace.event.End.{End}
use Rattle.joutput.specs.declared.jtrace.event.End.TheVariants as ends
use Rattle.joutput.specs.jtrace.TraceLines.{text}
use Rattle.jsemantics.specs.jmachine.MachineStates.{Outcome, Went, Over, NoStep}

pub record Run (S : Type 0) : Type 0 where
  pub state : S
  pub events : List Event
  pub end : Option End

-- ---- what an outcome tells

abbrev pub told_by : {S : Type 0} → Outcome S → List Event
told_by x = elim x [ Went s events ↦ events | Over s events end ↦ events | NoStep ↦ [] ]

-- the end that an outcome is, if it is one
abbrev pub ended_by : {S : Type 0} → Outcome S → Option End
ended_by x = elim x [ Went s events ↦ None | Over s events end ↦ Some end | NoStep ↦ None ]

-- the state behind an outcome; a stuck state stays as it is
abbrev pub state_behind : {S : Type 0} → S → Outcome S → S
state_behind s x = elim x [ Went t events ↦ t | Over t events end ↦ t | NoStep ↦ s ]

-- ---- runs

module _ {S : Type 0} (step : S → Outcome S) where
  -- the run after one more step
  abbrev pub after : Run S → Outcome S → Run S
  after r o = record { state = state_behind r.state o; events = r.events ++ told_by o; end = ended_by o }

  -- A run that has ended stays as it is.
  abbrev pub next_at : Run S → Option End → Run S
  next_at r = elim [ Some end ↦ r | None ↦ after r (step r.state) ]

  abbrev pub next : Run S → Run S
  next r = next_at r r.end

  -- the run after so many steps more
  unfoldable pub run_from : ℕ → Run S → Run S
  run_from zero r = r
  run_from (suc k) r = run_from k (next r)

-- how a run ended, or that it has not
abbrev pub ending : {S : Type 0} → Run S → End
ending r = unwrap_or r.end ends.Bound

-- all lines of a run
abbrev pub run_text : {S : Type 0} → Run S → List ℕ
run_text r = text r.events (ending r)

-- the status of a run that ended so
abbrev pub status : End → ℕ
status ends.Finished = 0
status ends.Uncaught = 1
status ends.Bound = 4
status ends.HeapFull = 5
status ends.Deadlock = 6

-- ---- laws

-- A run that has ended stays as it is.
abbrev pub Stays : Type 0 → Type 0
Stays S = (step : S → Outcome S) (r : Run S) (k n : ℕ) (end : End)
    → k ≤ n → (run_from step k r).end ≡ Some end → run_from step n r ≡ run_from step k r

-- Events only grow.
abbrev pub Grows : Type 0 → Type 0
Grows S = (step : S → Outcome S) (r : Run S) (k n : ℕ)
    → k ≤ n → (more : List Event) × ((run_from step n r).events ≡ (run_from step k r).events ++ more)

-- One more step is one behind the others.
abbrev pub GoesOn : Type 0 → Type 0
GoesOn S = (step : S → Outcome S) (r : Run S) (k : ℕ) → run_from step (suc k) r ≡ next step (run_from step k r)
