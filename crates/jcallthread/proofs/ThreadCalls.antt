-- What a call that makes no thread comes to.
use Rattle.std.proofs.Common.{◌≡◌, ◌∙◌, ℕ, [], Some, refl, sym, ap, subst, inl, inr}
use Rattle.std.specs.Prelude.{⊤, option_map}
use Rattle.jlib.specs.declared.calls.LibCall.TheVariants as calls
use Rattle.jlib.specs.declared.calls.ThreadCall.{ThreadCall}
use Rattle.jlib.specs.declared.classes.LibClass.TheVariants as lib
use Rattle.jlib.specs.declared.classes.Thrown.{Thrown as ThrownClass}
use Rattle.jsemantics.specs.jmachine.MachineStates.{Outcome, State}
use Rattle.jsemantics.specs.jmachine.Security.{Rules}
use Rattle.jruntime.specs.declared.jrun.came.Came.{Came}
use Rattle.jruntime.specs.declared.jrun.came.Came.TheVariants as stepped
use Rattle.jruntime.specs.jstate.FrameLists.{Framed, all}
use Rattle.jrows.specs.jcalls.FrameMarks.{Stand}
use Rattle.jrows.specs.jcalls.Throws.{raising}
use Rattle.jruntime.specs.declared.jguests.guests.Guests.{Guests}
use Rattle.jruntime.specs.declared.jguests.turns.Turned.TheVariants as turns
use Rattle.jruntime.specs.jguests.GuestThreads.{AreGuests, Lives, RunsAs, framed_as, state_by, with_frames}
use Rattle.jlibcalls.specs.declared.jthreading.switching.Threaded.{Threaded}
use Rattle.jlibcalls.specs.declared.jthreading.switching.Threaded.TheVariants as threaded
use Rattle.jlibcalls.specs.jthreading.ThreadEffects.{LivesOn, StayBehind, StaysFramed}
use Rattle.jlibcalls.specs.jthreading.ThreadFrames.{lost}
use Rattle.jlibcalls.specs.jthreading.ThreadMethods.{CallsThread}
use Rattle.jstepping.specs.declared.jcore.machine.Machine.{Machine}
use Rattle.jstepping.specs.jcore.AnsweredCalls.{Calling, outcome_of}
use Rattle.jstepping.specs.jcore.MachineOutcomes.{Comes, GoesOn, IsBehind, any, outcome_by}
use Rattle.jstepping.specs.jcore.MidStepMachines.{RunsStanding}
use Rattle.jstepping.specs.jcore.MachineInvariants.{AreRules, GuestStands, IsMachine, IsReady, classes_of, state_of, store_of, things_of}
use Rattle.jstepping.specs.jcore.RaiseOutcomes.{RaisesIn}
use Rattle.jcallthread.specs.ThreadCalls.{TurnsOn, turned_as, with_threads}
use Rattle.jcallthread.proofs.ThreadInvariants.{each_stands, lost_stand, same_frames}

pub turns_on : {E : Type 0} (m : Machine E) (call kind : ThreadCall) (count : ℕ) (done : Threaded) (g : Guests E) → call ≡ kind
    → CallsThread kind count m.plan.now.schedule m.heap m.guests done g → AreGuests g → StayBehind count done m.guests g → StaysFramed count done m.guests g
    → (Lives m.guests → LivesOn done g) → Lives m.guests → TurnsOn m call count done (with_threads g m.heap m)
turns_on {E} m call kind count done g is row are stay framed lives alive =
    record {
      guests = g;
      is = refl;
      row = subst (λ (k : ThreadCall). CallsThread k count m.plan.now.schedule m.heap m.guests done g) (sym is) row;
      are = are;
      stay = stay;
      framed = framed;
      lives = lives alive;
    }

-- what the step came to, where nothing is raised
abbrev came_of : Threaded → Came
came_of threaded.Went = stepped.Went []
came_of (threaded.Turned done) = turned_as done
came_of (threaded.Raises class) = stepped.Stuck
came_of threaded.Stuck = stepped.Stuck

abbrev RaisesNone : Threaded → Type 0
RaisesNone (threaded.Raises class) = ⊥
RaisesNone done = ⊤

module _ {E : Type 0} (m : Machine E) (call : ThreadCall) (count : ℕ) (c : Calling m count) where
  abbrev outcome : Framed E → Rules ℕ E → Outcome (State ℕ E)
  outcome f = outcome_of m f (calls.Thread call) count

  -- what holds of the machine
  turned_machine : (done : Threaded) (n : Machine E) → TurnsOn m call count done n → IsMachine n
  turned_machine done n x =
      let is = c.machine in
      subst (λ (y : Machine E). IsMachine y) (sym x.is) (record {
        fixed = is.fixed;
        files = is.files;
        depth = is.depth;
        tied = is.tied;
        small = is.small;
        constants = is.constants;
        guests = x.are;
        others = λ y i at. each_stands m count c done x.guests x.stay y (inr (i, at));
        built = is.built;
        celled = is.celled;
        held = is.held;
        kept = is.kept;
      })

  -- where the run goes on
  ready_so : (done : Threaded) (n : Machine E) → TurnsOn m call count done n → Lives n.guests → IsReady n
  ready_so done n x lives =
      record {
        machine = turned_machine done n x;
        lives = lives;
        running = subst (λ (y : Machine E). GuestStands (classes_of y) y.guests.running) (sym x.is)
            (each_stands m count c done x.guests x.stay x.guests.running (inl refl));
      }

  pub turned_ready : (done kind : Threaded) (came : Came) (n : Machine E) → TurnsOn m call count done n → done ≡ kind → RaisesNone kind → came ≡ came_of kind → GoesOn n came
  turned_ready done kind came n x is none way =
      subst (λ (y : Came). GoesOn n y) (sym way) (by kind (subst (λ (d : Threaded). TurnsOn m call count d n) is x) none)
    where
      alive : (d : Threaded) → TurnsOn m call count d n → LivesOn d n.guests
      alive d y = subst (λ (z : Machine E). LivesOn d z.guests) (sym y.is) y.lives

      by : (d : Threaded) → TurnsOn m call count d n → RaisesNone d → GoesOn n (came_of d)
      by threaded.Went y free = ready_so threaded.Went n y (alive threaded.Went y)
      by (threaded.Turned turns.Goes) y free = ready_so (threaded.Turned turns.Goes) n y (alive (threaded.Turned turns.Goes) y)
      by (threaded.Turned (turns.Ends end)) y free = tt
      by (threaded.Raises class) y free = absurd free
      by threaded.Stuck y free = tt

  -- what it stands for
  abbrev over_of : Guests E → State ℕ E
  over_of g = state_by g (store_of m)

  comes_so : (done : Threaded) (g : Guests E) → CallsThread call count m.plan.now.schedule m.heap m.guests done g → RaisesNone done → (f : Framed E) → m.guests.running.frames ≡ Some f
      → (r : Rules ℕ E) → outcome f r ≡ outcome_by (over_of g) (with_threads g m.heap m) (came_of done)
  comes_so threaded.Went g row none f frames r = row r m.calls m.plan.now m.fixed.shapes.now (things_of m) m.constants.constants f frames refl
  comes_so (threaded.Turned turns.Goes) g row none f frames r = row r m.calls m.plan.now m.fixed.shapes.now (things_of m) m.constants.constants f frames refl
  comes_so (threaded.Turned (turns.Ends end)) g row none f frames r = row r m.calls m.plan.now m.fixed.shapes.now (things_of m) m.constants.constants f frames refl
  comes_so (threaded.Raises class) g row none f frames r = absurd none
  comes_so threaded.Stuck g row none f frames r = row r m.calls m.plan.now m.fixed.shapes.now (things_of m) m.constants.constants f frames refl

  kind_comes : (done : Threaded) (came : Came) (n : Machine E) → TurnsOn m call count done n → RaisesNone done → came ≡ came_of done
      → (f : Framed E) → m.guests.running.frames ≡ Some f → Comes m any (outcome f) came n
  kind_comes done came n x none is f frames =
      record {
        over = over_of x.guests;
        comes = λ r rules like. comes_so done x.guests x.row none f frames r
            ∙ ap (λ (y : Machine E). outcome_by (over_of x.guests) y (came_of done)) (sym x.is)
            ∙ ap (outcome_by (over_of x.guests) n) (sym is);
      }

  pub turned_comes : (done kind : Threaded) (came : Came) (n : Machine E) → TurnsOn m call count done n → done ≡ kind → RaisesNone kind → came ≡ came_of kind
      → (f : Framed E) → m.guests.running.frames ≡ Some f → Comes m any (outcome f) came n
  turned_comes done kind came n x is none way f frames = kind_comes kind came n (subst (λ (d : Threaded). TurnsOn m call count d n) is x) none way f frames

  -- ---- an exception is to be raised

  pub as_raised : (done : Threaded) (class : ThrownClass) (n : Machine E) → TurnsOn m call count done n → done ≡ threaded.Raises class → TurnsOn m call count (threaded.Raises class) n
  as_raised done class n x is = subst (λ (d : Threaded). TurnsOn m call count d n) is x

  pub raised_machine : (class : ThrownClass) (n : Machine E) → TurnsOn m call count (threaded.Raises class) n → IsMachine n
  raised_machine class n x = turned_machine (threaded.Raises class) n x

  pub raised_lives : (class : ThrownClass) (n : Machine E) → TurnsOn m call count (threaded.Raises class) n → Lives n.guests
  raised_lives class n x = subst (λ (y : Machine E). Lives y.guests) (sym x.is) x.lives

  lost_frames : (class : ThrownClass) (n : Machine E) → TurnsOn m call count (threaded.Raises class) n → n.guests.running.frames ≡ Some (lost count c.frames)
  lost_frames class n x =
      ap (λ (y : Machine E). y.guests.running.frames) x.is ∙ ap (λ (g : Guests E). g.running.frames) x.framed ∙ ap (option_map (lost count)) c.runs

  pub raised_stands : (class : ThrownClass) (n : Machine E) → TurnsOn m call count (threaded.Raises class) n → RunsStanding n
  raised_stands class n x =
      record {
        frames = lost count c.frames;
        runs = lost_frames class n x;
        stand = subst (λ (y : Machine E). Stand (classes_of y) (all (lost count c.frames))) (sym x.is) (lost_stand (classes_of m) count c.frames c.stand);
      }

  -- it stands for the state of the step but for its frames
  raised_behind : RunsAs E → (class : ThrownClass) (n : Machine E) → TurnsOn m call count (threaded.Raises class) n → IsBehind n (state_of m)
  raised_behind runs class n x =
      let frames = option_map (lost count) m.guests.running.frames in
      let is : n ≡ with_threads (with_frames frames m.guests) m.heap m = x.is ∙ ap (λ (g : Guests E). with_threads g m.heap m) x.framed in
      subst (λ (y : Machine E). IsBehind y (state_of m)) (sym is) (runs m.guests (framed_as frames m.guests.running) (store_of m))

  raising_so : (class : ThrownClass) (n : Machine E) → TurnsOn m call count (threaded.Raises class) n → (f : Framed E) → m.guests.running.frames ≡ Some f
      → (r : Rules ℕ E) → outcome f r ≡ raising r m.calls m.plan.now (state_of m) (all (lost count c.frames)) [] (lib.Thrown class)
  raising_so class n x f frames r = by (x.row r m.calls m.plan.now m.fixed.shapes.now (things_of m) m.constants.constants f frames refl)
    where
      by : ((h : Framed E) × (x.guests ≡ with_frames (Some h) m.guests) × (outcome f r ≡ raising r m.calls m.plan.now (state_of m) (all h) [] (lib.Thrown class)))
          → outcome f r ≡ raising r m.calls m.plan.now (state_of m) (all (lost count c.frames)) [] (lib.Thrown class)
      by (h, at, is) =
          let mine : x.guests.running.frames ≡ Some (lost count c.frames) = ap (λ (g : Guests E). g.running.frames) x.framed ∙ ap (option_map (lost count)) c.runs in
          let theirs : x.guests.running.frames ≡ Some h = ap (λ (g : Guests E). g.running.frames) at in
          is ∙ ap (λ (y : Framed E). raising r m.calls m.plan.now (state_of m) (all y) [] (lib.Thrown class))
          (same_frames x.guests.running.frames h (lost count c.frames) theirs mine)

  rules_so : (class : ThrownClass) (n : Machine E) → TurnsOn m call count (threaded.Raises class) n → (r : Rules ℕ E) → AreRules m r → AreRules n r
  rules_so class n x r rules = subst (λ (y : Machine E). AreRules y r) (sym x.is) (record { marks = rules.marks; side = rules.side })

  pub raised_comes : RunsAs E → (class : ThrownClass) (n k : Machine E) (came : Came) → TurnsOn m call count (threaded.Raises class) n → RaisesIn n class [] came k
      → (f : Framed E) → m.guests.running.frames ≡ Some f → Comes m any (outcome f) came k
  raised_comes runs class n k came x raises f frames =
      let same : store_of n ≡ store_of m = ap store_of x.is in
      let own = raises (state_of m) (lost count c.frames) (raised_behind runs class n x) (lost_frames class n x) in
      record {
        over = own.over;
        comes = λ r rules like. own.comes r (outcome f r) (rules_so class n x r rules)
            (sym same, raising_so class n x f frames r ∙ ap (λ (y : Machine E). raising r y.calls y.plan.now (state_of m) (all (lost count c.frames)) [] (lib.Thrown class)) (sym x.is));
      }
