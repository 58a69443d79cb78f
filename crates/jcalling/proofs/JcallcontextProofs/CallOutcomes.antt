-- What a call leaves of the running thread's frames, and what the step comes to.
use Rattle.std.proofs.Common.{◌≡◌, ◌∙◌, ℕ, ◌≤◌, Bool, true, false, List, [], ◌∷◌, ◌++◌, drop, length, take, Option, Some, refl, sym, ap, subst}
use Rattle.jvalues.specs.declared.jops.value.Value.{Value}
use Rattle.jmemory.specs.jheap.Heaps.{Heaped}
use Rattle.jlib.specs.declared.classes.LibClass.TheVariants as lib
use Rattle.jlib.specs.declared.classes.Thrown.{Thrown as ThrownClass}
use Rattle.jresolution.specs.jprogram.ProgramClasses.{Program}
use Rattle.joutput.specs.declared.jtrace.event.End.TheVariants.{HeapFull}
use Rattle.joutput.specs.declared.jtrace.event.Event.{Event}
use Rattle.jsemantics.specs.jmachine.MachineStates.{Row, State, Went, gives, raises}
use Rattle.jsemantics.specs.jmachine.AccessCallRows.{context_made}
use Rattle.jsemantics.specs.jmachine.CallTargets as targets
use Rattle.jsemantics.specs.jmachine.PrivilegeActions.{acting}
use Rattle.jsemantics.specs.jmachine.Security.{Rules}
use Rattle.jruntime.specs.declared.jrun.came.Came.{Came}
use Rattle.jruntime.specs.declared.jrun.came.Came.TheVariants as done
use Rattle.jruntime.specs.declared.jstate.shapes.Shapes.{Shapes}
use Rattle.jruntime.specs.jstate.ObjectCells.{StayCelled}
use Rattle.jruntime.specs.jstate.FrameLists.{Framed, all, holding}
use Rattle.jruntime.specs.jstate.HeapMeanings.{AreBuilt, Things}
use Rattle.jrows.specs.declared.jcalls.calls.Callee.{Callee}
use Rattle.jrows.specs.jcalls.MethodCalls.{IsCallee, stepped}
use Rattle.jrows.specs.jcalls.FrameMarks.{AreStanding, Stand}
use Rattle.jruntime.specs.jguests.GuestThreads.{Lives}
use Rattle.jlibcalls.specs.declared.jcontexts.acting.Acted.{Acted}
use Rattle.jlibcalls.specs.declared.jcontexts.acting.Acted.TheVariants as ways
use Rattle.jlibcalls.specs.jcontexts.ActionCalls.{ActsStanding, CallsAction, GivesOne, RaisesSteps}
use Rattle.jlibcalls.specs.jcontexts.KeptContexts.{AreKept, StayHeld, with_kept}
use Rattle.jlibcalls.specs.jcontexts.Snapshots.{Snapshots}
use Rattle.jlibcalls.specs.jlibrary.HeldPermissions.{AreHeld, with_permissions}
use Rattle.jstepping.specs.declared.jcore.machine.Machine.{Machine}
use Rattle.jstepping.specs.jcore.AnsweredCalls.{Calling}
use Rattle.jstepping.specs.jcore.MachineOutcomes.{any, outcome_by}
use Rattle.jstepping.specs.jcore.MidStepMachines.{LeftIsBehind, LeftIsMachine, RunsStanding, left_as}
use Rattle.jstepping.specs.jcore.MachineInvariants.{IsMachine, IsReady, StaysFixed, classes_of, state_of, store_of, things_of}
use Rattle.jstepping.specs.jcore.RaiseOutcomes.{RaisesIn}
use Rattle.jcalling.specs.jcallcontext.ContextCallRows.{ComesBy}

same_frames : {A : Type 0} (o : Option A) (x y : A) → o ≡ Some x → o ≡ Some y → x ≡ y
same_frames o x y a b = let e : Some x ≡ Some y = sym a ∙ b in cc

-- ---- the frames of a call

module _ {E : Type 0} (m : Machine E) (count : ℕ) (calling : Calling m count) (f : Framed E) (runs : m.guests.running.frames ≡ Some f) where
  pub few_of : count ≤ length f.newest.operands
  few_of = subst (λ (x : Framed E). count ≤ length x.newest.operands) (same_frames m.guests.running.frames calling.frames f calling.runs runs) calling.few

  pub stand_of : Stand (classes_of m) (all f)
  stand_of = subst (λ (x : Framed E). Stand (classes_of m) (all x)) (same_frames m.guests.running.frames calling.frames f calling.runs runs) calling.stand

-- ---- a machine that goes on

module _ {E : Type 0} (m : Machine E) (count : ℕ) (calling : Calling m count) (g : Framed E) where
  abbrev with_frames : Heaped → Things → Machine E
  with_frames heap things = left_as (Some g) heap things m

  ready : (heap : Heaped) (things : Things) → IsMachine (with_frames heap things) → AreStanding (classes_of m) g → IsReady (with_frames heap things)
  ready heap things machine stand = record {
    machine = machine;
    lives = calling.lives;
    running = λ h e. let same : g ≡ h = cc in subst (λ (x : Framed E). AreStanding (classes_of m) x) same stand;
  }

  -- only the frames have changed
  pub framed_ready : LeftIsMachine E → AreStanding (classes_of m) g → IsReady (with_frames m.heap (things_of m))
  framed_ready law stand =
      let is = calling.machine in
      ready m.heap (things_of m) (law m (Some g) m.heap (things_of m) is is.built is.celled is.held is.kept) stand

  -- more is kept
  pub kept_ready : LeftIsMachine E → (heap : Heaped) (kept : List ℕ) → AreBuilt heap.objects → StayCelled m.heap.objects heap.objects
      → StayHeld m.heap.objects heap.objects
      → ((p : Program) (shapes : Shapes) (things : Things) → things.kept ≡ m.kept → AreKept p shapes things m.heap.objects
      → AreKept p shapes (with_kept kept things) heap.objects)
      → AreStanding (classes_of m) g → IsReady (with_frames heap (with_kept kept (things_of m)))
  kept_ready law heap kept built celled held stays stand =
      let is = calling.machine in
      let shapes = m.fixed.shapes.now in
      let things = with_kept kept (things_of m) in
      let still : AreHeld m.calls shapes m.permissions heap.objects =
      λ others more same. held m.calls shapes others (with_permissions (m.permissions ++ more) others) refl (is.held others more same) in
      ready heap things (law m (Some g) heap things is built (celled shapes is.celled) still (stays m.calls shapes (things_of m) refl is.kept)) stand

-- ---- what the step comes to

-- nothing is told
with_events : {E : Type 0} (m n : Machine E) (count : ℕ) (like : Rules ℕ E → Type 0) (does : Option (Row ℕ E)) (events : List Event) → events ≡ []
    → ComesBy m count like does (done.Went []) n → ComesBy m count like does (done.Went events) n
with_events m n count like does events none comes = subst (λ (es : List Event). ComesBy m count like does (done.Went es) n) (sym none) comes

-- of the frames that the call found
pub of_frames : {E : Type 0} (P : Framed E → Type 0) (o : Option (Framed E)) (f : Framed E) → o ≡ Some f → P f → (h : Framed E) → o ≡ Some h → P h
of_frames P o f runs is h at = subst P (same_frames o f h runs at) is

module _ {E : Type 0} (behind : LeftIsBehind E) (m : Machine E) (count : ℕ) (g : Framed E) where
  gives_comes : (v : Value ℕ) → ((f : Framed E) → m.guests.running.frames ≡ Some f → GivesOne v count f g)
      → ComesBy m count any (Some (gives (store_of m) (v ∷ []))) (done.Went []) (left_as (Some g) m.heap (things_of m) m)
  gives_comes v row f runs = (
    state_of m,
    λ r by marked so does. row f runs r m.calls m.plan.now (state_of m) by does
        ∙ ap (λ (s : State ℕ E). Went s []) (sym (behind m (state_of m) (Some g) m.heap (things_of m) refl)),
  )

  pub gives_told : (v : Value ℕ) (told : List Event) → told ≡ [] → ((f : Framed E) → m.guests.running.frames ≡ Some f → GivesOne v count f g)
      → ComesBy m count any (Some (gives (store_of m) (v ∷ []))) (done.Went told) (left_as (Some g) m.heap (things_of m) m)
  gives_told v told none row =
      with_events m (left_as (Some g) m.heap (things_of m) m) count any (Some (gives (store_of m) (v ∷ []))) told none (gives_comes v row)

  module _ (number : ℕ) (heap : Heaped) (kept : List ℕ) (is : IsMachine m) where
    snaps_comes : ((f : Framed E) → m.guests.running.frames ≡ Some f → Snapshots number count f m.kept m.heap true g kept heap)
        → ComesBy m count any (Some (context_made (store_of m) number)) (done.Went []) (left_as (Some g) heap (with_kept kept (things_of m)) m)
    snaps_comes row f runs = (
      state_of m,
      λ r by marked so does. row f runs r m.calls m.plan.now (state_of m) m.fixed.shapes.now (things_of m) m.constants.constants by refl refl is.kept does
          ∙ ap (λ (s : State ℕ E). Went s []) (sym (behind m (state_of m) (Some g) heap (with_kept kept (things_of m)) refl)),
    )

    pub snaps_told : (told : List Event) → told ≡ [] → ((f : Framed E) → m.guests.running.frames ≡ Some f → Snapshots number count f m.kept m.heap true g kept heap)
        → ComesBy m count any (Some (context_made (store_of m) number)) (done.Went told) (left_as (Some g) heap (with_kept kept (things_of m)) m)
    snaps_told told none row =
        with_events m (left_as (Some g) heap (with_kept kept (things_of m)) m) count any (Some (context_made (store_of m) number)) told none (snaps_comes row)

    pub full_comes : (n : Machine E) (came : Came) → came ≡ done.Ended [] HeapFull
        → ((f : Framed E) → m.guests.running.frames ≡ Some f → Snapshots number count f m.kept m.heap false g kept heap)
        → ComesBy m count any (Some (context_made (store_of m) number)) came n
    full_comes n came over row f runs = (
      state_of m,
      λ r by marked so does.
          row f runs r m.calls m.plan.now (state_of m) m.fixed.shapes.now (things_of m) m.constants.constants by refl refl is.kept does
          ∙ ap (outcome_by (state_of m) n) (sym over),
    )

  -- ---- an action

  module _ (c : Callee E) (action : ℕ) (caller : E) (ctx : Option ℕ) where
    abbrev Does : Option (Row ℕ E)
    Does = acting action (record { caller = caller; context = ctx }) (targets.Pushes c.method)

    abbrev like : Rules ℕ E → Type 0
    like r = IsCallee r.entry_of m.calls c

    begun_comes : ((f : Framed E) → m.guests.running.frames ≡ Some f → CallsAction c action caller ctx count f ways.Begun g)
        → ComesBy m count like Does (done.Went []) (left_as (Some g) m.heap (things_of m) m)
    begun_comes row f runs = (
      state_of m,
      λ r by marked so does. row f runs r m.calls m.plan.now (state_of m) by so does
          ∙ ap (λ (s : State ℕ E). Went s []) (sym (behind m (state_of m) (Some g) m.heap (things_of m) refl)),
    )

    pub begun_told : (told : List Event) → told ≡ [] → ((f : Framed E) → m.guests.running.frames ≡ Some f → CallsAction c action caller ctx count f ways.Begun g)
        → ComesBy m count like Does (done.Went told) (left_as (Some g) m.heap (things_of m) m)
    begun_told told none row = with_events m (left_as (Some g) m.heap (things_of m) m) count like Does told none (begun_comes row)

    pub codeless_comes : (n : Machine E) → ((f : Framed E) → m.guests.running.frames ≡ Some f → CallsAction c action caller ctx count f ways.Stuck g)
        → ComesBy m count like Does done.Stuck n
    codeless_comes n row f runs = (state_of m, λ r by marked so does. row f runs r m.calls m.plan.now (state_of m) by so does)

-- by what was done
pub snaps_as : {E : Type 0} (number count : ℕ) (f g : Framed E) (before after : List ℕ) (h k : Heaped) (room b : Bool) → room ≡ b
    → Snapshots number count f before h room g after k → Snapshots number count f before h b g after k
snaps_as number count f g before after h k room b is = subst (λ (x : Bool). Snapshots number count f before h x g after k) is

pub acts_as : {E : Type 0} (c : Callee E) (action : ℕ) (caller : E) (ctx : Option ℕ) (count : ℕ) (f g : Framed E) (way one : Acted) → way ≡ one
    → CallsAction c action caller ctx count f way g → CallsAction c action caller ctx count f one g
acts_as c action caller ctx count f g way one is = subst (λ (x : Acted). CallsAction c action caller ctx count f x g) is

pub stands_as : {E : Type 0} (c : Callee E) (f g : Framed E) (way one : Acted) → way ≡ one → ActsStanding c f way g → ActsStanding c f one g
stands_as c f g way one is = subst (λ (x : Acted). ActsStanding c f x g) is

-- ---- an exception in the place of the call

module _ {E : Type 0} (m : Machine E) (count : ℕ) (calling : Calling m count) (f : Framed E) (runs : m.guests.running.frames ≡ Some f) where
  abbrev less : Framed E
  less = holding (drop count f.newest.operands) f

  abbrev without : Machine E
  without = left_as (Some less) m.heap (things_of m) m

  pub less_machine : LeftIsMachine E → IsMachine without
  less_machine law = let is = calling.machine in law m (Some less) m.heap (things_of m) is is.built is.celled is.held is.kept

  pub less_stands : RunsStanding without
  less_stands =
      let stand = stand_of m count calling f runs in
      record { frames = less; runs = refl; stand = (record { class = stand.0.class; place = stand.0.place }, stand.1) }

  pub less_comes : LeftIsBehind E → RaisesSteps E → (class : ThrownClass) (came : Came) (n : Machine E) → RaisesIn without class [] came n
      → ComesBy m count any (Some (raises (lib.Thrown class))) came n
  less_comes behind law class came n raised h at =
      let same = same_frames m.guests.running.frames f h runs at in
      let c = raised (state_of m) less (behind m (state_of m) (Some less) m.heap (things_of m) refl) refl in (
        c.over,
        λ r row marked so does.
            let P : Framed E → Type 0 = λ x. row (take count x.newest.operands) ≡ Some (raises (lib.Thrown class)) in
            let Q : Framed E → Type 0 = λ x. stepped r m.calls m.plan.now (state_of m) x count row ≡ outcome_by c.over n came in
            let there : Q f = c.comes r (stepped r m.calls m.plan.now (state_of m) f count row) (record { marks = marked.marks; side = marked.side })
            (refl, law r m.calls m.plan.now (state_of m) f count class row (subst P (sym same) does)) in
            subst Q same there,
      )

-- the frames of the call without its operands
pub drops : {E : Type 0} (m : Machine E) (count : ℕ) (f u h : Framed E) → m.guests.running.frames ≡ Some f → u ≡ holding (drop count f.newest.operands) f
    → m.guests.running.frames ≡ Some h → left_as (Some u) m.heap (things_of m) m ≡ left_as (Some (holding (drop count h.newest.operands) h)) m.heap (things_of m) m
drops {E} m count f u h runs is at =
    let same = same_frames m.guests.running.frames f h runs at in
    ap (λ (x : Framed E). left_as (Some x) m.heap (things_of m) m) (is ∙ ap (λ (x : Framed E). holding (drop count x.newest.operands) x) same)

abbrev pub IsWithout : {E : Type 0} → Machine E → (count : ℕ) → Machine E → Type 0
IsWithout {E} m count mid = (f : Framed E) → m.guests.running.frames ≡ Some f → mid ≡ left_as (Some (holding (drop count f.newest.operands) f)) m.heap (things_of m) m

module _ {E : Type 0} (m mid : Machine E) (count : ℕ) (calling : Calling m count) (without_it : IsWithout m count mid) where
  abbrev f : Framed E
  f = calling.frames

  is_without : mid ≡ without m count calling f calling.runs
  is_without = without_it f calling.runs

  pub mid_machine : LeftIsMachine E → IsMachine mid
  mid_machine law = subst (λ (x : Machine E). IsMachine x) (sym is_without) (less_machine m count calling f calling.runs law)

  pub mid_lives : Lives mid.guests
  mid_lives = subst (λ (x : Machine E). Lives x.guests) (sym is_without) calling.lives

  pub mid_stands : RunsStanding mid
  mid_stands = subst (λ (x : Machine E). RunsStanding x) (sym is_without) (less_stands m count calling f calling.runs)

  pub mid_fixed : StaysFixed m mid
  mid_fixed = subst (λ (x : Machine E). StaysFixed m x) (sym is_without) (record { fixed = refl; plan = refl; side = refl; calls = refl })

  pub mid_comes : LeftIsBehind E → RaisesSteps E → (class : ThrownClass) (told : List Event) (came : Came) (n : Machine E) → told ≡ [] → RaisesIn mid class told came n
      → ComesBy m count any (Some (raises (lib.Thrown class))) came n
  mid_comes behind law class told came n none raised =
      less_comes m count calling f calling.runs behind law class came n
      (subst (λ (x : Machine E). RaisesIn x class [] came n) is_without (subst (λ (es : List Event). RaisesIn mid class es came n) none raised))
