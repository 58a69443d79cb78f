-- A machine is ready for a next step behind what a step came to.
use Rattle.std.proofs.Common.{◌≡◌, Bool, subst}
use Rattle.jresolution.specs.declared.jprogram.part.ClassRef.{ClassRef}
use Rattle.jrows.specs.declared.jcalls.raising.Raised.{Raised}
use Rattle.jrows.specs.declared.jcalls.raising.Raised.TheVariants as raised
use Rattle.jruntime.specs.declared.jguests.guests.Guests.{Guests}
use Rattle.jruntime.specs.jguests.GuestThreads.{AreGuests, HaveStayed, Lives, ended_as, with_running}
use Rattle.jstepping.specs.declared.jstep.outcomes.Stepped as stepping
use Rattle.jstepping.specs.declared.jstep.outcomes.Stepped.TheVariants as steps
use Rattle.jstepping.specs.declared.jcore.machine.Machine.{Machine}
use Rattle.jstepping.specs.jcore.MachineOutcomes.{HandledStand, LeftStand}
use Rattle.jstepping.specs.jcore.MachineInvariants.{IsMachine, IsReady, classes_of}
use Rattle.jstepping.proofs.JcoreProofs.ThreadFrames.{others_stand, running_stands}

module _ {E : Type 0} (m : Machine E) where
  -- with other threads
  abbrev pub guested_as : Guests E → Machine E
  guested_as h = record {
    fixed = m.fixed;
    plan = m.plan;
    side = m.side;
    guests = h;
    heap = m.heap;
    constants = m.constants;
    permissions = m.permissions;
    kept = m.kept;
    calls = m.calls;
  }

  pub ended_ready : (failed : Bool) (h : Guests E) → IsMachine m → AreGuests h → Lives h → HaveStayed (with_running (ended_as failed m.guests.running) m.guests) h
      → IsReady (guested_as h)
  ended_ready failed h is are lives stayed = record {
    machine = record {
      fixed = is.fixed;
      files = is.files;
      depth = is.depth;
      tied = is.tied;
      small = is.small;
      constants = is.constants;
      guests = are;
      others = others_stand (classes_of m) failed m.guests h is.others stayed;
      built = is.built;
      celled = is.celled;
      held = is.held;
      kept = is.kept;
    };
    lives = lives;
    running = running_stands (classes_of m) failed m.guests h is.others stayed;
  }

  pub handled_ready : (way : Raised) → way ≡ raised.Handled → IsMachine m → Lives m.guests → HandledStand m way → IsReady m
  handled_ready way same is lives stand = record { machine = is; lives = lives; running = subst (λ w. HandledStand m w) same stand }

  pub went_ready : (way : stepping.Stepped) → way ≡ steps.Went → IsMachine m → Lives m.guests → LeftStand m way → IsReady m
  went_ready way same is lives stand = record { machine = is; lives = lives; running = subst (λ w. LeftStand m w) same stand }

  -- Frames that a step left in which something is handled stand so.
  pub left_handled : (way : stepping.Stepped) (class : ClassRef) → way ≡ steps.Handled class → LeftStand m way → HandledStand m raised.Handled
  left_handled way class same stand = subst (λ w. LeftStand m w) same stand
