-- What a step comes to that begins a thread.
use Rattle.std.proofs.Common.{◌≡◌, ◌∙◌, ◌⊎◌, ℕ, ◌<◌, Bool, true, false, List, [], ◌∷◌, ◌++◌, Option, Some, None, refl, subst, sym, ap, arith}
use Rattle.jmemory.specs.jheap.Heaps.{Heaped}
use Rattle.jlib.specs.declared.calls.LibCall.{LibCall}
use Rattle.jlib.specs.declared.classes.LibClass.TheVariants as lib
use Rattle.jlib.specs.declared.classes.Thrown.{Thrown as ThrownClass}
use Rattle.jlib.specs.declared.side.Side.{Side}
use Rattle.joutput.specs.declared.jtrace.event.End.TheVariants.{HeapFull}
use Rattle.joutput.specs.declared.jtrace.event.Event.{Event}
use Rattle.joutput.specs.declared.jtrace.event.Event.TheVariants.{Throw, Uncaught}
use Rattle.jtypes.specs.declared.vtype.VType.{VType}
use Rattle.jsemantics.specs.jmachine.MachineStates.{State, Went}
use Rattle.jsemantics.specs.jmachine.CallTargets as targets
use Rattle.jsemantics.specs.jmachine.Security.{Rules}
use Rattle.jsemantics.specs.jmachine.ThreadTurns.{ended}
use Rattle.jsemantics.specs.jmachine.Unwinding.{told_name}
use Rattle.jruntime.specs.declared.jrun.came.Came.{Came}
use Rattle.jruntime.specs.declared.jrun.came.Came.TheVariants as stepped
use Rattle.jruntime.specs.jstate.ObjectCells.{StayCelled}
use Rattle.jruntime.specs.jstate.FrameLists.{Framed}
use Rattle.jruntime.specs.jstate.HeapMeanings.{AreBuilt}
use Rattle.jrows.specs.declared.jcalls.calls.Callee.{Callee}
use Rattle.jrows.specs.jcalls.FrameMarks.{AreStanding}
use Rattle.jrows.specs.jcalls.Throws.{RaisedHeap}
use Rattle.jruntime.specs.jguests.GuestThreads.{Lives, frames_of}
use Rattle.jserving.specs.declared.jinvoke.faces.Target.{Target}
use Rattle.jserving.specs.declared.jinvoke.faces.Target.TheVariants as ways
use Rattle.jstepping.specs.jstep.StepRelation.{type_of}
use Rattle.jlibcalls.specs.jcontexts.RunnableStarts.{Begins, BeginsStanding, EndsUnbegun, FailedAs, FailsFirst, IsUnbegun, StuckUnbegun, begins_by}
use Rattle.jstepping.specs.declared.jcore.machine.Machine.{Machine}
use Rattle.jstepping.specs.jcore.MachineOutcomes.{Comes, EndsThread, any}
use Rattle.jstepping.specs.jcore.MidStepMachines.{IsNumbered, LeftIsBehind, LeftIsMachine, RaisedIsMachine, left_as}
use Rattle.jstepping.specs.jcore.MachineInvariants.{AreRules, IsMachine, IsReady, classes_of, state_of, store_of, things_of}
use Rattle.jstepping.specs.jcore.RaiseOutcomes.{thrown_ref}
use Rattle.jcalling.specs.jbegin.ThreadStarts.{BeginsAs, FailsIn, RunTarget, step_of}

module _ {E : Type 0} (m : Machine E) where
  abbrev runnable : ℕ
  runnable = m.guests.running.runnable

  unbegun : m.guests.running.frames ≡ None → 0 < runnable → IsUnbegun runnable (state_of m)
  unbegun none some = record { frames = ap (λ o. frames_of o) none; runnable = refl; some = λ e. omega (arith, some, e) }

  -- ---- without an object

  pub step_ends : EndsUnbegun E → (n : Machine E) (told : List Event) (came : Came) → told ≡ [] → m.guests.running.frames ≡ None → runnable ≡ 0
      → EndsThread m false told came n → Comes m any (step_of m) came n
  step_ends law n told came quiet none zeroed ends = record {
    over = state_of n;
    comes = λ r rules alike.
        law r m.calls m.plan.now (state_of m) (ap (λ o. frames_of o) none) zeroed
        ∙ (subst (λ (events : List Event). EndsThread m false events came n) quiet ends) (state_of m) refl;
  }

  -- ---- with an object

  pub run_begins : (mid n : Machine E) (t : Target E) (came : Came) → mid ≡ m → RunTarget m t → BeginsAs mid t came n → Comes m any (step_of m) came n
  run_begins mid n t came same target begun = (subst (λ (y : Machine E). BeginsAs y t came n) same begun) target

  -- ---- where there is no step

  abbrev IsStuck : Side → Type 0
  IsStuck side =
      let t = begins_by side m.calls (store_of m) runnable in (t ≡ None) ⊎ ((call : LibCall) × (t ≡ Some (targets.Runs call)))

  pub stuck_begins : StuckUnbegun E → m.guests.running.frames ≡ None → 0 < runnable → BeginsAs m ways.Stuck stepped.Stuck m
  stuck_begins law none some target = record {
    over = state_of m;
    comes = λ r rules alike.
        let is : IsStuck m.side = target r.entry_of m.fixed.shapes.now (things_of m) m.constants.constants rules.marks in
        law r m.calls m.plan.now (state_of m) runnable (unbegun none some) (subst IsStuck (sym rules.side) is);
  }

  -- ---- a frame of `run`

  abbrev Pushed : Callee E → Option (Framed E) → Type 0
  Pushed c begun = Begins c runnable m.guests.running.inherited m.side begun

  pub push_none : m.guests.running.frames ≡ None → 0 < runnable → (c : Callee E) → Pushed c None → BeginsAs m (ways.Pushes c) stepped.Stuck m
  push_none none some c begins target = record {
    over = state_of m;
    comes = λ r rules alike.
        let is = target r.entry_of m.fixed.shapes.now (things_of m) m.constants.constants rules.marks in
        begins r m.calls m.plan.now (state_of m) (unbegun none some) refl rules.side is.1 is.0;
  }

  pub push_went : LeftIsBehind E → m.guests.running.frames ≡ None → 0 < runnable → (c : Callee E) (g : Framed E) → Pushed c (Some g)
      → BeginsAs m (ways.Pushes c) (stepped.Went []) (left_as (Some g) m.heap (things_of m) m)
  push_went behind none some c g begins target = record {
    over = state_of m;
    comes = λ r rules alike.
        let is = target r.entry_of m.fixed.shapes.now (things_of m) m.constants.constants rules.marks in
        begins r m.calls m.plan.now (state_of m) (unbegun none some) refl rules.side is.1 is.0
        ∙ ap (λ (s : State ℕ E). Went s []) (sym (behind m (state_of m) (Some g) m.heap (things_of m) refl));
  }

  pub push_ready : LeftIsMachine E → IsReady m → (c : Callee E) (g : Framed E) → BeginsStanding c (Some g) → c.method.class < classes_of m
      → IsReady (left_as (Some g) m.heap (things_of m) m)
  push_ready law ready c g stand within =
      let is = ready.machine in
      record {
        machine = law m (Some g) m.heap (things_of m) is is.built is.celled is.held is.kept;
        lives = ready.lives;
        running = λ f e. let same : g ≡ f = cc in subst (λ (h : Framed E). AreStanding (classes_of m) h) same (stand (classes_of m) within);
      }

  -- ---- an exception

  pub fails_in : RaisedIsMachine E → IsMachine m → (class : ThrownClass) (room : Bool) (heap : Heaped) → FailsFirst E class m.heap room heap
      → RaisedHeap class m.heap heap → AreBuilt heap.objects → StayCelled m.heap.objects heap.objects
      → FailsIn m class room (left_as m.guests.running.frames heap (things_of m) m)
  fails_in law is class room heap row more built celled =
      record { heap = heap; left = refl; machine = law m m.guests.running.frames heap class is more built celled; row = row }

  module _ (class : ThrownClass) (none : m.guests.running.frames ≡ None) (some : 0 < runnable) where
    abbrev Fails : Side → Type 0
    Fails side = begins_by side m.calls (store_of m) runnable ≡ Some (targets.Fails (lib.Thrown class))

    failed : (mid : Machine E) (room : Bool) → (x : FailsIn m class room mid) → RunTarget m (ways.Fails class) → (r : Rules ℕ E) → AreRules m r
        → FailedAs m.plan.now (state_of m) class room (store_of (left_as m.guests.running.frames x.heap (things_of m) m)) (step_of m r)
    failed mid room x target r rules =
        let is : Fails m.side = target r.entry_of m.fixed.shapes.now (things_of m) m.constants.constants rules.marks in
        x.row r m.calls m.plan.now (state_of m) m.fixed.shapes.now (things_of m) m.constants.constants runnable (unbegun none some) refl
        (subst Fails (sym rules.side) is)

    pub full_begins : (mid : Machine E) → FailsIn m class false mid → BeginsAs m (ways.Fails class) (stepped.Ended [] HeapFull) mid
    full_begins mid x target = record { over = state_of m; comes = λ r rules alike. failed mid false x target r rules }

    abbrev tells : ℕ → VType → List Event
    tells thread type = Throw thread (told_name type) ∷ Uncaught thread (told_name type) ∷ []

    abbrev Ends : List Event → Came → Machine E → Machine E → Type 0
    Ends told came n mid = EndsThread mid true told came n × (told ≡ tells mid.guests.at (type_of mid.calls (thrown_ref class)))

    pub fails_begins : LeftIsBehind E → IsNumbered E → IsMachine m → (mid n : Machine E) (before told : List Event) (came : Came) → FailsIn m class true mid → before ≡ []
        → told ≡ before ++ tells mid.guests.at (type_of mid.calls (thrown_ref class)) → EndsThread mid true told came n → BeginsAs m (ways.Fails class) came n
    fails_begins behind number is mid n before told came x quiet told_is ends target =
        let frames = m.guests.running.frames in
        let s = state_of m in
        let left = left_as frames x.heap (things_of m) m in
        let type = type_of m.calls (thrown_ref class) in
        let two = tells mid.guests.at (type_of mid.calls (thrown_ref class)) in
        let all = subst (λ (y : Machine E). Ends told came n y) x.left (ends, told_is ∙ ap (λ (es : List Event). es ++ two) quiet) in
        record {
          over = state_of n;
          comes = λ r rules alike.
              failed mid true x target r rules
              ∙ ap (λ (events : List Event). ended m.plan.now.schedule s (store_of left) true events)
              (ap (λ (t : ℕ). tells t type) (number m is) ∙ sym all.1)
              ∙ all.0 s (behind m s frames x.heap (things_of m) refl);
        }

-- ---- what is left

module _ {E : Type 0} (m mid : Machine E) (class : ThrownClass) (room : Bool) (x : FailsIn m class room mid) where
  pub lives_in : Lives m.guests → Lives mid.guests
  lives_in lives = subst (λ (y : Machine E). Lives y.guests) (sym x.left) lives
