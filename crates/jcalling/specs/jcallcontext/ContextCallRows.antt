-- What a call of the library that asks something of access control does in a machine by numbers: its row, and what the step comes to by it.
use Rattle.std.specs.Prelude.{◌≡◌, ℕ, List, Option, Some, None, take}
use Rattle.jvalues.specs.declared.jops.value.Value.{Value}
use Rattle.jlib.specs.declared.calls.LibCall.{LibCall}
use Rattle.jsemantics.specs.jmachine.MachineStates.{Row, State}
use Rattle.jsemantics.specs.jmachine.AccessQueries.{Ask}
use Rattle.jsemantics.specs.jmachine.InstructionActions.{run}
use Rattle.jsemantics.specs.jmachine.Security.{Rules}
use Rattle.jsemantics.specs.jmachine.InstructionSites.{Site}
use Rattle.jsemantics.specs.jmachine.MachineSteps.{entries, own_fields, site, site_of}
use Rattle.jguard.specs.NumberMeanings.{AskedOnce}
use Rattle.jruntime.specs.declared.jrun.came.Came.{Came}
use Rattle.jruntime.specs.jstate.FrameLists.{Framed, all}
use Rattle.jrows.specs.jcalls.MethodCalls.{stepped}
use Rattle.jstepping.specs.declared.jcore.machine.Machine.{Machine}
use Rattle.jstepping.specs.jcore.AnsweredCalls.{Answered, AsksKnown, asked_of, outcome_of}
use Rattle.jstepping.specs.jcore.MachineOutcomes.{outcome_by}
use Rattle.jstepping.specs.jcore.MachineInvariants.{AreRules, state_of, store_of}

-- ---- a call

module _ {E : Type 0} (m : Machine E) (f : Framed E) where
  -- where it stands
  abbrev pub here : Site
  here = site_of m.calls m.plan.now (state_of m) f.newest f.below

  -- its row
  abbrev pub row_of : LibCall → Rules ℕ E → List (Value ℕ) → Option (Row ℕ E)
  row_of call r =
      run r (site r m.calls m.plan.now (state_of m) f.newest f.below) (own_fields m.calls f.newest.method) (store_of m)
      (entries r m.calls m.plan.now (state_of m) (all f)) m.guests.running.inherited call

-- A call with so many operands asks this, if anything, and its row does this by any rules.
pub record IsAsking {E : Type 0} (m : Machine E) (f : Framed E) (call : LibCall) (count : ℕ) (ask : Option (Ask ℕ))
    (does : Rules ℕ E → Option (Row ℕ E)) : Type 0 where
  pub asked : asked_of m f call count ≡ ask
  pub row : (r : Rules ℕ E) → AreRules m r → row_of m f call r (take count f.newest.operands) ≡ does r

-- ---- a step

-- A step comes to this by rules that are like these, whose row does this with so many operands of the running thread's newest frame.
abbrev pub ComesBy : {E : Type 0} → Machine E → (count : ℕ) → (like : Rules ℕ E → Type 0) → Option (Row ℕ E) → Came → Machine E → Type 0
ComesBy {E} m count like does came n = (f : Framed E) → m.guests.running.frames ≡ Some f
    → (over : State ℕ E) × ((r : Rules ℕ E) (row : List (Value ℕ) → Option (Row ℕ E)) → AreRules m r → like r
    → row (take count f.newest.operands) ≡ does
    → stepped r m.calls m.plan.now (state_of m) f count row ≡ outcome_by over n came)

-- ---- whoever is asked

-- What the call asks was given by whoever is asked.
abbrev pub CallKnown : {M K E : Type 0} → (ℕ → Option K) → (M → Option E) → Machine M → LibCall → (count : ℕ) → Type 0
CallKnown {M} kept marks m call count = (f : Framed M) → m.guests.running.frames ≡ Some f → AsksKnown kept marks m (asked_of m f call count)

-- The call was answered what it asks, and the step came to this by all rules that answer so.
abbrev pub CallAnswered : {M K E : Type 0} → (old new : ℕ → Option K) (old_marks new_marks : M → Option E) → Rules K E → Machine M → LibCall
    → (count : ℕ)
    → Came → Machine M → Type 0
CallAnswered {M} old new old_marks new_marks rules m call count came n = (f : Framed M) → m.guests.running.frames ≡ Some f
    → Answered old new old_marks new_marks rules m (asked_of m f call count) (outcome_of m f call count) came n

-- Where the call asks nothing, whoever is asked is as before.
abbrev pub CallQuiet : {M S : Type 0} → Machine M → LibCall → (count : ℕ) → (old new : S) → Type 0
CallQuiet {M} m call count old new = (f : Framed M) → m.guests.running.frames ≡ Some f → asked_of m f call count ≡ None → new ≡ old

-- Whoever is asked was asked once what the call asks, if it asks anything, by what an ask makes of whoever is asked.
abbrev pub CallOnce : {M S : Type 0} → Machine M → LibCall → (count : ℕ) → (S → Ask ℕ → S → Type 0) → (old new : S) → Type 0
CallOnce {M} m call count asked old new = (f : Framed M) → m.guests.running.frames ≡ Some f → AskedOnce asked old new (asked_of m f call count)
