-- An exception is raised in the running thread, and what stands behind it.
use Rattle.std.proofs.Common.{◌≡◌, ◌∙◌, ℕ, List, Some, refl, subst, sym}
use Rattle.jmemory.specs.jheap.Heaps.{Heaped}
use Rattle.jlib.specs.declared.classes.LibClass.TheVariants as lib
use Rattle.jlib.specs.declared.classes.Thrown.{Thrown as ThrownClass}
use Rattle.joutput.specs.declared.jtrace.event.Event.{Event}
use Rattle.jresolution.specs.jprogram.ProgramClasses.{Program}
use Rattle.jsemantics.specs.jmachine.MachineStates.{Outcome, State}
use Rattle.jsemantics.specs.jmachine.Unwinding.{handler_at}
use Rattle.jruntime.specs.declared.jrun.came.Came.{Came}
use Rattle.jruntime.specs.jstate.ObjectCells.{StayCelled}
use Rattle.jruntime.specs.jstate.FrameLists.{Framed, all}
use Rattle.jruntime.specs.jstate.HeapMeanings.{AreBuilt}
use Rattle.jrows.specs.declared.jcalls.raising.Raised.{Raised}
use Rattle.jrows.specs.declared.jcalls.raising.Raised.TheVariants as raised
use Rattle.jrows.specs.jcalls.FrameMarks.{AreStanding}
use Rattle.jrows.specs.jcalls.Throws.{LeavesStanding, RaisedAs, RaisedHeap, Raises}
use Rattle.jruntime.specs.jguests.GuestThreads.{Lives, RunsAs}
use Rattle.jserving.specs.jinvoke.HandlerLookUps.{Told}
use Rattle.jstepping.specs.jstep.StepRelation.{type_of}
use Rattle.jstepping.specs.declared.jcore.machine.Machine.{Machine}
use Rattle.jstepping.specs.jcore.MachineOutcomes.{HandledStand, SettlesRaised}
use Rattle.jstepping.specs.jcore.MidStepMachines.{RaisedIsMachine, RunsStanding, left_as}
use Rattle.jstepping.specs.jcore.MachineInvariants.{IsMachine, classes_of, store_of, things_of}
use Rattle.jstepping.specs.jcore.RaiseOutcomes.{RaisesIn, ThrowsIn, thrown_ref}
use Rattle.jstepping.proofs.JcoreProofs.IntermediateMachines.{left_behind}

-- ---- what was raised

module _ {E : Type 0} (m : Machine E) (class : ThrownClass) (done : Raised) (g : Framed E) (heap : Heaped) where
  abbrev mid : Machine E
  mid = left_as (Some g) heap (things_of m) m

  handled_stand : (way : Raised) → AreStanding (classes_of m) g → HandledStand mid way
  handled_stand raised.Handled stand = λ f e. let same : g ≡ f = cc in subst (λ (x : Framed E). AreStanding (classes_of m) x) same stand
  handled_stand raised.Full stand = tt
  handled_stand raised.Uncaught stand = tt

  same_frames : (f h : Framed E) → m.guests.running.frames ≡ Some f → m.guests.running.frames ≡ Some h → f ≡ h
  same_frames f h e d = let both : Some f ≡ Some h = sym e ∙ d in cc

  pub throws_in : RaisedIsMachine E → IsMachine m → (x : RunsStanding m) (f : Framed E) (p : Program) → m.guests.running.frames ≡ Some f
      → p ≡ m.calls → Raises m.fixed.marks.now (handler_at p (type_of p (thrown_ref class))) (lib.Thrown class) f m.heap done g heap → LeavesStanding f g
      → RaisedHeap class m.heap heap → AreBuilt heap.objects → StayCelled m.heap.objects heap.objects → ThrowsIn m class done mid
  throws_in law is x f p frames known row stand more built celled =
      let goes = λ (q : Program). handler_at q (type_of q (thrown_ref class)) in
      let own = subst (λ (q : Program). Raises m.fixed.marks.now (goes q) (lib.Thrown class) f m.heap done g heap) known row in
      let standing = subst (λ (y : Framed E). LeavesStanding y g) (same_frames f x.frames frames x.runs) stand in
      record {
        frames = g;
        heap = heap;
        left = refl;
        row = λ h e. subst (λ (y : Framed E). Raises m.fixed.marks.now (goes m.calls) (lib.Thrown class) y m.heap done g heap) (same_frames f h frames e) own;
        stand = handled_stand done (standing (classes_of m) x.stand);
        machine = law m (Some g) heap class is more built celled;
      }

-- ---- what stands behind it

module _ {E : Type 0} (m n : Machine E) (class : ThrownClass) (told : List Event) (done : Raised) (came : Came) where
  settles_left : Told E → RunsAs E → (g : Framed E) (heap : Heaped)
      → ((f : Framed E) → m.guests.running.frames ≡ Some f
      → Raises m.fixed.marks.now (handler_at m.calls (type_of m.calls (thrown_ref class))) (lib.Thrown class) f m.heap done g heap)
      → SettlesRaised (left_as (Some g) heap (things_of m) m) done (thrown_ref class) told came n → RaisesIn m class told came n
  settles_left tell runs g heap row settles s f behind frames =
      let type = type_of m.calls (thrown_ref class) in
      let store = store_of (left_as (Some g) heap (things_of m) m) in
      let c = settles s g (left_behind runs m s (Some g) heap (things_of m) behind) refl in
      record {
        over = c.over;
        comes = λ r outcome rules so. c.comes r outcome (record { marks = rules.marks; side = rules.side })
            (subst (λ (o : Outcome (State ℕ E)). RaisedAs r m.calls m.plan.now s told type store done g o) (sym so.1)
            (row f frames r m.calls m.plan.now s told m.fixed.shapes.now (things_of m) m.constants.constants rules.marks so.0 (tell m.calls type (all f))));
      }

  pub raises_in : Told E → RunsAs E → (between : Machine E) → ThrowsIn m class done between → SettlesRaised between done (thrown_ref class) told came n → RaisesIn m class told came n
  raises_in tell runs between x settles =
      settles_left tell runs x.frames x.heap x.row (subst (λ (y : Machine E). SettlesRaised y done (thrown_ref class) told came n) x.left settles)

pub lives_in : {E : Type 0} (m n : Machine E) (class : ThrownClass) (done : Raised) → ThrowsIn m class done n → Lives m.guests → Lives n.guests
lives_in {E} m n class done x lives = subst (λ (y : Machine E). Lives y.guests) (sym x.left) lives
