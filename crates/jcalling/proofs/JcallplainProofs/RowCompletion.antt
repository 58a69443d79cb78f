-- What a row left to do is done.
use Rattle.std.proofs.Common.{◌≡◌, ◌∙◌, ℕ, List, [], Some, subst, sym, ap}
use Rattle.jlib.specs.declared.classes.LibClass.{LibClass}
use Rattle.jlib.specs.declared.classes.LibClass.TheVariants as lib
use Rattle.jlib.specs.declared.classes.Thrown.{Thrown as ThrownClass}
use Rattle.joutput.specs.declared.jtrace.event.End.TheVariants.{HeapFull}
use Rattle.joutput.specs.declared.jtrace.event.Event.{Event}
use Rattle.jsemantics.specs.jmachine.MachineStates.{State, Went}
use Rattle.jsemantics.specs.jmachine.ThreadTurns.{with_running}
use Rattle.jruntime.specs.declared.jrun.came.Came.{Came}
use Rattle.jruntime.specs.declared.jrun.came.Came.TheVariants as stepped
use Rattle.jrows.specs.declared.jacts.way.Way.TheVariants as ways
use Rattle.jruntime.specs.jguests.GuestThreads.{frames_of}
use Rattle.jstepping.specs.declared.jcore.machine.Machine.{Machine}
use Rattle.jstepping.specs.jcore.MachineInvariants.{state_of, store_of}
use Rattle.jstepping.specs.jcore.RaiseOutcomes.{RaisesIn}
use Rattle.jcalling.specs.jcallplain.CallRowOutcomes.{Settles}

module _ {E : Type 0} (m : Machine E) (told : List Event) where
  pub went_settles : Settles m ways.Went told (stepped.Went told) m
  went_settles s g behind frames = record {
    over = s;
    comes = λ r o rules is.
        let at : state_of m ≡ with_running s (frames_of (Some g)) (store_of m) = behind ∙ ap (λ o. with_running s (frames_of o) (store_of m)) frames in
        is ∙ ap (λ (x : State ℕ E). Went x told) (sym at);
  }

  pub full_settles : Settles m ways.Full told (stepped.Ended [] HeapFull) m
  full_settles s g behind frames = record { over = s; comes = λ r o rules is. is }

  pub stuck_settles : Settles m ways.Stuck told stepped.Stuck m
  stuck_settles s g behind frames = record { over = s; comes = λ r o rules is. is }

  pub raises_settle : (n : Machine E) (class : LibClass) (c : ThrownClass) (came : Came) → class ≡ lib.Thrown c → RaisesIn m c told came n
      → Settles m (ways.Raises class) told came n
  raises_settle n class c came named raises = subst (λ (x : LibClass). Settles m (ways.Raises x) told came n) (sym named) by_class
    where
      by_class : Settles m (ways.Raises (lib.Thrown c)) told came n
      by_class s g behind frames = raises s g behind frames
