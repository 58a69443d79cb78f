-- What is made of what a step of the running thread came to.
use Rattle.std.proofs.Common.{◌≡◌, ◌∙◌, ℕ, Bool, true, false, List, [], ◌∷◌, ◌++◌, map, length, Some, sym, ap, ap₂, arith, subst}
use Rattle.std.proofs.lemmas.List.{length-map, length-take-le}
use Rattle.joutput.specs.declared.jtrace.event.Event.{Event}
use Rattle.joutput.specs.declared.jtrace.event.Event.TheVariants.{Throw, Uncaught}
use Rattle.joutput.specs.declared.jtrace.event.End.{End}
use Rattle.joutput.specs.declared.jtrace.event.End.TheVariants.{HeapFull}
use Rattle.jresolution.specs.declared.jprogram.part.ClassRef.{ClassRef}
use Rattle.jsemantics.specs.jmachine.MachineStates.{Over, State, Went}
use Rattle.jsemantics.specs.jmachine.Store.{Store}
use Rattle.jsemantics.specs.jmachine.ThreadTurns.{ended, thread_of, with_running}
use Rattle.jsemantics.specs.jmachine.Unwinding.{told_name}
use Rattle.jruntime.specs.declared.jrun.came.Came.{Came}
use Rattle.jruntime.specs.declared.jrun.came.Came.TheVariants as done
use Rattle.jruntime.specs.jstate.FrameLists.{Framed, all}
use Rattle.jrows.specs.declared.jcalls.raising.Raised.TheVariants as raised
use Rattle.jruntime.specs.declared.jguests.guests.Guests.{Guests}
use Rattle.jruntime.specs.declared.jguests.turns.Turned.TheVariants as turns
use Rattle.jruntime.specs.jguests.GuestThreads.{AreGuests, frames_of, guest_by, guests_of, state_by}
use Rattle.jruntime.specs.jguests.TurnOutcomes.{EndsTurn}
use Rattle.jruntime.proofs.JguestsProofs.ThreadLists.{length_set}
use Rattle.jstepping.specs.declared.jstep.outcomes.Stepped.TheVariants as steps
use Rattle.jstepping.specs.jstep.StepRelation.{type_of}
use Rattle.jstepping.specs.declared.jcore.machine.Machine.{Machine}
use Rattle.jstepping.specs.jcore.MachineOutcomes.{EndsThread, IsBehind, Settles, SettlesRaised}
use Rattle.jstepping.specs.jcore.MachineInvariants.{state_of, store_of}

-- ---- the running thread's number

count_guests : {E : Type 0} (g : Guests E) → length (guests_of g) ≡ length g.others.items
count_guests g = length_set (map guest_by g.others.items) g.at (guest_by g.running) ∙ length-map g.others.items guest_by

number_in : {E : Type 0} (g : Guests E) (store : Store ℕ) → AreGuests g → thread_of (state_by g store) ≡ g.at
number_in g store are = length-take-le g.at (guests_of g) (let few = are.at in let count = count_guests g in omega (arith, few, count))

-- of a state behind which a machine stands
pub number_is : {E : Type 0} (m : Machine E) (s : State ℕ E) → AreGuests m.guests → IsBehind m s → m.guests.at ≡ thread_of s
number_is {E} m s are behind = sym (number_in m.guests (store_of m) are) ∙ ap (λ (t : State ℕ E). length t.earlier) behind

-- the state behind which it stands, where these are its frames
frames_are : {E : Type 0} (m : Machine E) (s : State ℕ E) (g : Framed E) → IsBehind m s → m.guests.running.frames ≡ Some g → with_running s (all g) (store_of m) ≡ state_of m
frames_are m s g behind runs = ap (λ fs. with_running s (frames_of fs) (store_of m)) (sym runs) ∙ sym behind

-- ---- a thread that ends

ended_so : {E : Type 0} (m : Machine E) (s : State ℕ E) (failed : Bool) (told : List Event) → IsBehind m s
    → ended m.plan.now.schedule s (store_of m) failed told ≡ ended m.plan.now.schedule (state_of m) (store_of m) failed told
ended_so m s failed told behind = sym (ap (λ t. ended m.plan.now.schedule t (store_of m) failed told) behind)

pub ends_goes : {E : Type 0} (m n : Machine E) (failed : Bool) (told : List Event) → EndsTurn m.plan.now.schedule failed m.guests turns.Goes n.guests
    → store_of n ≡ store_of m → EndsThread m failed told (done.Went told) n
ends_goes m n failed told turn same s behind =
    ended_so m s failed told behind ∙ turn (store_of m) (store_of m) told ∙ ap (λ store. Went (state_by n.guests store) told) (sym same)

pub ends_over : {E : Type 0} (m n : Machine E) (failed : Bool) (told : List Event) (end : End) → EndsTurn m.plan.now.schedule failed m.guests (turns.Ends end) n.guests
    → store_of n ≡ store_of m → EndsThread m failed told (done.Ended told end) n
ends_over m n failed told end turn same s behind =
    ended_so m s failed told behind ∙ turn (store_of m) (store_of m) told ∙ ap (λ store. Over (state_by n.guests store) told end) (sym same)

-- ---- what was raised or thrown

module _ {E : Type 0} (m : Machine E) (class : ClassRef) (told : List Event) where
  abbrev name : List ℕ
  name = told_name (type_of m.calls class)

  pub raised_full : SettlesRaised m raised.Full class told (done.Ended [] HeapFull) m
  raised_full s g behind runs = record { over = s; comes = λ r o rules so. so }

  pub raised_handled : (after : List Event) → AreGuests m.guests → after ≡ told ++ Throw m.guests.at name ∷ [] → SettlesRaised m raised.Handled class told (done.Went after) m
  raised_handled after are is s g behind runs = record {
    over = s;
    comes = λ r o rules so. so ∙ ap₂ Went (frames_are m s g behind runs) (ap (λ t. told ++ Throw t name ∷ []) (sym (number_is m s are behind)) ∙ sym is);
  }

  pub raised_uncaught : (after : List Event) (n : Machine E) (came : Came) → AreGuests m.guests → after ≡ told ++ Throw m.guests.at name ∷ Uncaught m.guests.at name ∷ []
      → EndsThread m true after came n → SettlesRaised m raised.Uncaught class told came n
  raised_uncaught after n came are is ends s g behind runs = record {
    over = state_of n;
    comes = λ r o rules so. so
        ∙ ap (λ events. ended m.plan.now.schedule s (store_of m) true events) (ap (λ t. told ++ Throw t name ∷ Uncaught t name ∷ []) (sym (number_is m s are behind)) ∙ sym is)
        ∙ ends s behind;
  }

-- ---- a step

module _ {E : Type 0} (m : Machine E) where
  pub settled_went : (told : List Event) → told ≡ [] → Settles m steps.Went (done.Went told) m
  settled_went told none s g behind runs = record { over = s; comes = λ r o rules so. so ∙ ap₂ Went (frames_are m s g behind runs) (sym none) }

  pub settled_full : Settles m steps.Full (done.Ended [] HeapFull) m
  settled_full s g behind runs = record { over = s; comes = λ r o rules so. so }

  pub settled_stuck : Settles m steps.Stuck done.Stuck m
  settled_stuck s g behind runs = record { over = s; comes = λ r o rules so. so }

  pub settled_ended : (told : List Event) (n : Machine E) (came : Came) → told ≡ [] → EndsThread m false told came n → Settles m steps.Ended came n
  settled_ended told n came none ends s g behind runs =
      let law = subst (λ (events : List Event). EndsThread m false events came n) none ends in
      record { over = state_of n; comes = λ r o rules so. so ∙ law s behind }

  pub settled_handled : (class : ClassRef) (told : List Event) (n : Machine E) (came : Came) → told ≡ []
      → SettlesRaised m raised.Handled class told came n → Settles m (steps.Handled class) came n
  settled_handled class told n came none law s g behind runs =
      subst (λ (events : List Event). SettlesRaised m raised.Handled class events came n) none law s g behind runs

  pub settled_uncaught : (class : ClassRef) (told : List Event) (n : Machine E) (came : Came) → told ≡ []
      → SettlesRaised m raised.Uncaught class told came n → Settles m (steps.Uncaught class) came n
  settled_uncaught class told n came none law s g behind runs =
      subst (λ (events : List Event). SettlesRaised m raised.Uncaught class events came n) none law s g behind runs

-- How it goes on behind a step, by how the step ended.
pub ruleset settlings = (settled_went, settled_full, settled_stuck, settled_ended, settled_handled, settled_uncaught)
