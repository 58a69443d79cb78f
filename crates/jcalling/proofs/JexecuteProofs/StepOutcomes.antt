-- What a step of the running thread came to, for its machine.
use Rattle.std.proofs.Common.{◌≡◌, ◌∙◌, ℕ, List, Option, Some, None, refl, sym, ap, subst, take}
use Rattle.std.specs.Prelude.{IfOk, Ok, Err, Result}
use Rattle.jmemory.specs.jheap.Heaps.{Heaped}
use Rattle.jlib.specs.declared.calls.LibCall.{LibCall}
use Rattle.jlib.specs.declared.calls.LibCall.TheVariants as calls
use Rattle.jresolution.specs.juses.IndexedInstructions.{instruction_at}
use Rattle.jlinking.specs.jlink.LinkedPrograms.{Links}
use Rattle.jsemantics.specs.jmachine.MachineStates.{FrameOf, Outcome, State}
use Rattle.jsemantics.specs.jmachine.AccessQueries.{Ask, asks, run_asks}
use Rattle.jsemantics.specs.jmachine.CallTargets.{Runs, receiver, target}
use Rattle.jsemantics.specs.jmachine.Security.{Rules}
use Rattle.jsemantics.specs.jmachine.MachineSteps.{site, step}
use Rattle.jsemantics.specs.jmachine.Store.{Store}
use Rattle.jsemantics.specs.jmachine.ThreadTurns.{with_running}
use Rattle.jsemantics.specs.jmachine.World.{world}
use Rattle.jruntime.specs.declared.jrun.came.Came as run
use Rattle.jruntime.specs.declared.jrun.came.Came.TheVariants as ends
use Rattle.jruntime.specs.jstate.FrameLists.{Framed, all, framed}
use Rattle.jstepping.specs.jtold.MessageConstructors as telling
use Rattle.jstepping.specs.jtold.MessageConstructors.{TellsWhatMay}
use Rattle.jrows.specs.jcalls.MethodCalls.{call_taken, took}
use Rattle.jlibcalls.specs.jconstants.StringConstants.{Made}
use Rattle.jruntime.specs.jguests.GuestThreads.{Lives, RunsAs, frames_of, framed_as}
use Rattle.jlibcalls.specs.jlibrary.LibraryOutcomes.{IsTelling}
use Rattle.jstepping.specs.declared.jstep.outcomes.Stepped.{Stepped}
use Rattle.jstepping.specs.declared.jstep.outcomes.Stepped.TheVariants as steps
use Rattle.jstepping.specs.jstep.StepRelation as stepped
use Rattle.jstepping.specs.jstep.StepRelation.{AsksAs, StoodAs, asking}
use Rattle.jstepping.specs.declared.jcore.machine.Machine.{Machine}
use Rattle.jstepping.specs.jcore.AnsweredCalls.{asked_of, outcome_of}
use Rattle.jstepping.specs.jcore.MachineOutcomes.{Comes, GoesOn, IsBehind, LeftStand, Settles, any}
use Rattle.jstepping.specs.jcore.MachineInvariants.{AreRules, IsMachine, StaysFixed, classes_of, state_of, store_of, things_of}
use Rattle.jcalling.specs.declared.jexecute.executing.Executed.{Executed}
use Rattle.jcalling.specs.declared.jexecute.executing.Executed.TheVariants as executed
use Rattle.jcalling.specs.jexecute.ThreadSteps.{Ends, Executes, Finishes, HasRules, Moves, StandsAt, StaysMachine, Tells, moved}

-- ---- machines

pub fixed_then : {E : Type 0} (m n o : Machine E) → StaysFixed m n → StaysFixed n o → StaysFixed m o
fixed_then m n o first second = record {
  fixed = second.fixed ∙ first.fixed;
  plan = second.plan ∙ first.plan;
  side = second.side ∙ first.side;
  calls = second.calls ∙ first.calls;
}

-- the constructors that give a message are those of which jtold speaks
telling_as : (call : LibCall) → IsTelling call → telling.IsTelling call
telling_as calls.ObjectInit is = absurd is
telling_as (calls.ThrownInit class how) is = tt
telling_as calls.AccessControlInit is = tt
telling_as calls.GetMessage is = absurd is
telling_as (calls.String c) is = absurd is
telling_as (calls.Builder c) is = absurd is
telling_as calls.Out is = absurd is
telling_as calls.PrintEnd is = absurd is
telling_as (calls.Print piece) is = absurd is
telling_as (calls.Run side) is = absurd is
telling_as (calls.Thread c) is = absurd is
telling_as (calls.RunAction side) is = absurd is
telling_as (calls.Controller c) is = absurd is
telling_as calls.ContextCheck is = absurd is
telling_as (calls.PermissionInit c) is = absurd is
telling_as (calls.Rt c) is = absurd is

some_is : {A : Type 0} (x y : A) → Some x ≡ Some y → x ≡ y
some_is x y is = cc

-- ---- behind the frames

module _ {E : Type 0} (m : Machine E) (f g : Framed E) (h : Heaped) (made : Made) (runs : m.guests.running.frames ≡ Some f) (law : RunsAs E) where
  abbrev n : Machine E
  n = moved m g h made

  abbrev s : State ℕ E
  s = state_of m

  is_behind : IsBehind n s
  is_behind = law m.guests (framed_as (Some g) m.guests.running) (store_of n)

  same_rules : (r : Rules ℕ E) → AreRules m r → AreRules n r
  same_rules r are = record { marks = are.marks; side = are.side }

  -- ---- a step that is done

  abbrev steps_of : Rules ℕ E → Outcome (State ℕ E)
  steps_of r = step r m.calls m.plan.now s

  abbrev asked : Option (Ask ℕ)
  asked = asks m.side m.calls m.plan.now s

  abbrev SteppedSo : Stepped → Type 0
  SteppedSo came = (r : Rules ℕ E) → AreRules m r
      → stepped.CameTo r m.calls m.plan.now s f came g (store_of n) (steps_of r) asked (instruction_at m.calls f.newest.method f.newest.place)

  pub settled : (came : Stepped) (end : run.Came) (o : Machine E) → SteppedSo came → Settles n came end o → Comes m any steps_of end o
  settled came end o so settles =
      let both = settles s g is_behind refl in
      record { over = both.over; comes = λ r are like. both.comes r (steps_of r) (same_rules r are) (so r are).outcome }

  done : (came : Stepped) (e : Executed) (o : Machine E) → SteppedSo came → asked ≡ None
      → (end : run.Came) × (e ≡ executed.Done end) × Settles n came end o × GoesOn o end → Executes m e o
  done came e o so none (end, is, settles, ready) =
      let P : Executed → Type 0 = λ x. Executes m x o in
      subst P (sym is) (record { comes = settled came end o so settles; ready = ready; silent = none })

  stuck : (e : Executed) (o : Machine E) → SteppedSo steps.Stuck → asked ≡ None → e ≡ executed.Done ends.Stuck → Executes m e o
  stuck e o so none is =
      let P : Executed → Type 0 = λ x. Executes m x o in
      subst P (sym is) (record { comes = record { over = s; comes = λ r are like. (so r are).outcome }; ready = tt; silent = none })

  -- ---- a call of the library

  module _ (call : LibCall) (count : ℕ) (so : SteppedSo (steps.Asks call count)) (r : Rules ℕ E) (are : AreRules m r) where
    came : stepped.CameTo r m.calls m.plan.now s f (steps.Asks call count) g (store_of n) (steps_of r) asked
        (instruction_at m.calls f.newest.method f.newest.place)
    came = so r are

    frames_same : all g ≡ s.running.frames
    frames_same = came.outcome.0

    store_same : store_of n ≡ store_of m
    store_same = came.outcome.1

    state_same : state_of n ≡ state_of m
    state_same =
        is_behind ∙ ap (λ (fs : List (FrameOf ℕ E)). with_running s fs (store_of n)) frames_same
        ∙ ap (λ (t : Store ℕ). with_running s s.running.frames t) store_same

    framed_is : (x y : Framed E) → all x ≡ all y → x ≡ y
    framed_is x y is = some_is x y (ap framed is)

    same_frames : g ≡ f
    same_frames = framed_is g f (frames_same ∙ ap frames_of runs)

    steps_same : (q : Rules ℕ E) → AreRules m q → steps_of q ≡ outcome_of n g call count q
    steps_same q has = (so q has).outcome.2 ∙ ap (λ (t : State ℕ E). asking q m.calls m.plan.now t g count call) (sym state_same)

    asks_same : asked ≡ asked_of n g call count
    asks_same =
        let P : Framed E → Type 0 = λ x. asked ≡ asked_of n x call count in
        let A : State ℕ E → Type 0 = λ t. asked ≡ run_asks m.side (site r m.calls m.plan.now t f.newest f.below) t.store call (take count f.newest.operands) in
        subst P (sym same_frames) (subst A (sym state_same) (came.asked ∙ ap (λ side. run_asks side (site r m.calls m.plan.now s f.newest f.below) s.store call (take count f.newest.operands)) are.side))

    tells_so : TellsWhatMay → Links m.calls → IsMachine n → Tells m.fixed.shapes.now g.newest.operands h call count
    tells_so told links machine given v is =
        let c = came.reached in
        let T : Store ℕ → Type 0 = λ t. call_taken (world m.calls) t ((world m.calls).named f.newest.method.class) c.by c.called f.newest.operands
        ≡ Some (took count f.newest.operands) in
        let R : Store ℕ → Type 0 = λ t. target (site r m.calls m.plan.now s f.newest f.below) t c.by c.called (take count f.newest.operands) ≡ Some (Runs call) in
        let V : Framed E → Type 0 = λ x. receiver (take count x.newest.operands) ≡ Some v in
        told m.calls m.fixed.shapes.now (things_of n) made.constants h f.newest.method f.newest.place c.by c.called
        (site r m.calls m.plan.now s f.newest f.below) ((world m.calls).named f.newest.method.class) f.newest.operands (took count f.newest.operands) call v
        links machine.files machine.tied.users c.is refl (subst T (sym store_same) c.takes) (subst R (sym store_same) c.comes) (telling_as call given) (subst V same_frames is)

    stands : TellsWhatMay → Links m.calls → Lives m.guests → StoodAs (classes_of m) (steps.Asks call count) g → IsMachine n → StandsAt m call count n
    stands told links lives stood machine = record {
      calling = record { machine = machine; lives = lives; frames = g; runs = refl; few = stood.1; stand = stood.0 };
      same = state_same;
      comes = steps_same;
      asked = asks_same;
      tells = tells_so told links machine;
    }

  asking_ends : (call : LibCall) (count : ℕ) (e : Executed) (o : Machine E) → HasRules m → TellsWhatMay → Links m.calls → Lives m.guests
      → SteppedSo (steps.Asks call count) → StoodAs (classes_of m) (steps.Asks call count) g → IsMachine n → e ≡ executed.Asks call count → o ≡ n
      → Executes m e o
  asking_ends call count e o has told links lives so stood machine is same =
      let P : Executed → Type 0 = λ x. Executes m x o in
      let N : Machine E → Type 0 = λ x. StandsAt m call count x in
      subst P (sym is) (subst N (sym same) (stands call count so has.rules has.are told links lives stood machine))

  -- ---- all

  module _ (has : HasRules m) (told : TellsWhatMay) (links : Links m.calls) (lives : Lives m.guests) (e : Executed) (o : Machine E) where
    none : (way : Stepped) → SteppedSo way → AsksAs has.rules m.calls m.plan.now s f way asked
    none way so = (so has.rules has.are).asked

    ended : (came : Stepped) → SteppedSo came → StoodAs (classes_of m) came g → StaysMachine came n → Finishes n came e o → Executes m e o
    ended steps.Went so stood machine finishes = done steps.Went e o so (none steps.Went so) finishes
    ended steps.Ended so stood machine finishes = done steps.Ended e o so (none steps.Ended so) finishes
    ended (steps.Handled class) so stood machine finishes = done (steps.Handled class) e o so (none (steps.Handled class) so) finishes
    ended (steps.Uncaught class) so stood machine finishes = done (steps.Uncaught class) e o so (none (steps.Uncaught class) so) finishes
    ended (steps.Asks call count) so stood machine finishes =
        asking_ends call count e o has told links lives so stood machine finishes.0 finishes.1
    ended steps.Full so stood machine finishes = done steps.Full e o so (none steps.Full so) finishes
    ended steps.Stuck so stood machine finishes = stuck e o so (none steps.Stuck so) finishes

-- ---- the machine that the frames left

module _ {E : Type 0} (m n : Machine E) (came : Stepped) (moves : Moves m came n) where
  abbrev left : Machine E
  left = moved m moves.after moves.heap moves.constants

  pub moved_machine : StaysMachine came n
  moved_machine = let P : Machine E → Type 0 = λ x. StaysMachine came x in subst P (sym moves.is) moves.machine

  pub moved_lives : Lives m.guests → Lives n.guests
  moved_lives lives = let P : Machine E → Type 0 = λ x. Lives x.guests in subst P (sym moves.is) lives

  left_stands : LeftStand left came
  left_stands g is = let P : Framed E → Type 0 = λ x. StoodAs (classes_of m) came x in subst P (some_is moves.after g is) moves.stands

  pub moved_stands : LeftStand n came
  moved_stands = let P : Machine E → Type 0 = λ x. LeftStand x came in subst P (sym moves.is) left_stands

  pub executes : RunsAs E → HasRules m → TellsWhatMay → Links m.calls → Lives m.guests → (e : Executed) (o : Machine E) → Finishes n came e o → Executes m e o
  executes law has told links lives e o finishes =
      let P : Machine E → Type 0 = λ x. Finishes x came e o in
      ended m moves.before moves.after moves.heap moves.constants moves.runs law has told links lives e o came moves.comes moves.stands moves.machine
      (subst P moves.is finishes)

-- ---- what is left of a step

module _ {E F : Type 0} (r : Result Executed F) (m n : Machine E) (came one : Stepped) (is : came ≡ one) where
  pub finish_as : ((e : Executed) → Ends m one e n → Finishes m one e n) → IfOk r (λ e. Ends m came e n) → IfOk r (λ e. Finishes m came e n)
  finish_as same ends_so = by_result r ends_so
    where
      by_result : (r : Result Executed F) → IfOk r (λ e. Ends m came e n) → IfOk r (λ e. Finishes m came e n)
      by_result (Ok e) h =
          let P : Stepped → Type 0 = λ x. Ends m x e n in
          let Q : Stepped → Type 0 = λ x. Finishes m x e n in
          subst Q (sym is) (same e (subst P is h))
      by_result (Err e) h = tt
