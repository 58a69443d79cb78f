-- The library ran in the running thread, and what holds of the machine holds behind it.
use Rattle.std.proofs.Common.{◌≡◌, ◌∙◌, ℕ, Bool, false, List, [], ◌++◌, Option, Some, None, refl, subst, sym, ap}
use Rattle.std.specs.Option.{option_to_list}
use Rattle.jperm.specs.declared.permission.Permission as perms
use Rattle.jdomain.specs.declared.verdict.Verdict.TheVariants.{Granted}
use Rattle.jmemory.specs.jheap.Heaps.{Heaped}
use Rattle.jlib.specs.declared.calls.LibCall.{LibCall}
use Rattle.jlib.specs.declared.side.Side.TheVariants.{Passing}
use Rattle.jresolution.specs.declared.jprogram.member.Member.{Member}
use Rattle.jresolution.specs.jprogram.ProgramClasses.{Program}
use Rattle.jsemantics.specs.jmachine.InstructionActions.{Doing, run, with_row}
use Rattle.jsemantics.specs.jmachine.HeapObjects.{Object}
use Rattle.jsemantics.specs.jmachine.Security.{Rules}
use Rattle.jsemantics.specs.jmachine.InstructionSites.{Site}
use Rattle.jsemantics.specs.jmachine.Store.{Store}
use Rattle.jsemantics.specs.jmachine.World.{world}
use Rattle.jserving.specs.jcells.ObjectEquivalence.{RowsLeaveOne}
use Rattle.jruntime.specs.jstate.ObjectCells.{StayCelled}
use Rattle.jruntime.specs.jstate.FrameLists.{Framed}
use Rattle.jruntime.specs.jstate.HeapMeanings.{AreBuilt, Things, store_by, values_of}
use Rattle.jrows.specs.declared.jacts.way.Way.TheVariants as ways
use Rattle.jrows.specs.jacts.RowOutcomes.{Comes, leaves}
use Rattle.jrows.specs.jcalls.MethodCalls.{took}
use Rattle.jlibcalls.specs.jcontexts.KeptContexts.{AreKept, with_kept}
use Rattle.jlibcalls.specs.declared.jlibrary.running.Done.{Done}
use Rattle.jlibcalls.specs.jlibrary.HeldPermissions.{AreHeld}
use Rattle.jlibcalls.specs.jlibrary.LibraryOutcomes.{Runs, Stays}
use Rattle.jstepping.specs.declared.jcore.machine.Machine.{Machine}
use Rattle.jstepping.specs.jcore.MidStepMachines.{LeftIsMachine, left_as}
use Rattle.jstepping.specs.jcore.MachineInvariants.{IsMachine, things_of}
use Rattle.jcalling.specs.jcallplain.LibraryRuns.{RanIn, things_with}

-- some rules, by which frames carry this
rules : {E : Type 0} → E → Rules ℕ E
rules e = record {
  side = Passing;
  entry_of = λ domain. e;
  first = None;
  enter = λ k domain. k;
  check = λ asked given entries inherited. Granted;
  check_kept = λ asked k. Granted;
  snapshot = λ given entries inherited. 0;
  inherit = λ given entries inherited. 0;
  privileged = λ domain given context limits entries. record { caller = e; context = None };
}

module _ {E : Type 0} (m : Machine E) (call : LibCall) (count : ℕ) (done : Done) (g : Framed E) (heap : Heaped) (permissions : List perms.Permission) where
  abbrev things : Things
  things = things_with permissions m

  abbrev Row : Framed E → Type 0
  Row f = Runs {E = E} m.fixed.shapes.now m.plan.now.cwd m.guests.at call count f.newest m.permissions m.heap done g.newest permissions heap

  -- ---- what is kept

  abbrev here : Site
  here = record { world = world m.calls; class = 0; thread = m.guests.at; full = false; cwd = m.plan.now.cwd; table = [] }

  abbrev own : Member → Bool
  own field = false

  abbrev row : Framed E → Store ℕ → Option (Doing ℕ E)
  row f s =
      let r = rules f.newest.entry in
      with_row r here own s [] None f.newest (run r here own s [] None call) (took count f.newest.operands)

  still_kept : RowsLeaveOne E → (f : Framed E) → Row f → (done.way ≡ ways.Stuck → ⊥) → AreHeld m.calls m.fixed.shapes.now m.permissions m.heap.objects
      → AreKept m.calls m.fixed.shapes.now (things_of m) m.heap.objects → AreKept m.calls m.fixed.shapes.now things heap.objects
  still_kept one f runs not held kept more =
      let p = m.calls in
      let shapes = m.fixed.shapes.now in
      let r = rules f.newest.entry in
      let told = option_to_list done.told in
      let also : Things = with_kept (m.kept ++ more) (things_of m) in
      let s = store_by p shapes (things_of m) [] m.heap in
      let t = store_by p shapes things [] heap in
      let u = store_by p shapes (with_kept (m.kept ++ more) things) [] heap in
      let same : store_by p shapes also [] m.heap ≡ s =
      ap (λ (os : List (Object ℕ)). record { objects = os; statics = values_of shapes.statics m.heap.statics; constants = []; left = m.heap.left }) (kept more) in
      let P : Store ℕ → Type 0 = λ x. Comes f.newest x (row f x) (leaves done.way told g.newest u) in
      let other : P s = subst P same (runs r p here own [] None also [] refl refl refl held) in
      ap (λ (x : Store ℕ). x.objects)
      (one f.newest g.newest s t u (row f s) done.way told not (runs r p here own [] None (things_of m) [] refl refl refl held) other)

  -- ---- all

  ran_machine : RowsLeaveOne E → LeftIsMachine E → (f : Framed E) → Row f → IsMachine m → AreBuilt heap.objects → StayCelled m.heap.objects heap.objects
      → ((p : Program) → AreHeld p m.fixed.shapes.now m.permissions m.heap.objects → AreHeld p m.fixed.shapes.now permissions heap.objects)
      → (done.way ≡ ways.Stuck → ⊥) → IsMachine (left_as (Some g) heap things m)
  ran_machine one law f runs is built celled held not =
      law m (Some g) heap things is built (celled m.fixed.shapes.now is.celled) (held m.calls is.held) (still_kept one f runs not is.held is.kept)

  abbrev Ran : Framed E → Type 0
  Ran f = Row f × Stays done.way f.newest g.newest × (g.below ≡ f.below)

  pub ran_in : RowsLeaveOne E → LeftIsMachine E → (f : Framed E) → m.guests.running.frames ≡ Some f → Row f
      → ((p : Program) → AreHeld p m.fixed.shapes.now m.permissions m.heap.objects → Stays done.way f.newest g.newest) → g.below ≡ f.below → IsMachine m
      → AreBuilt heap.objects → StayCelled m.heap.objects heap.objects
      → ((p : Program) → AreHeld p m.fixed.shapes.now m.permissions m.heap.objects → AreHeld p m.fixed.shapes.now permissions heap.objects)
      → RanIn m call count done (left_as (Some g) heap things m)
  ran_in one law f frames runs stays below is built celled held =
      let ran : Ran f = (runs, stays m.calls is.held, below) in
      let same : (h : Framed E) → m.guests.running.frames ≡ Some h → f ≡ h = λ h e. let both : Some f ≡ Some h = sym frames ∙ e in cc in
      let ran_of : (h : Framed E) → m.guests.running.frames ≡ Some h → Ran h = λ h e. subst Ran (same h e) ran in
      record {
        frames = g;
        heap = heap;
        permissions = permissions;
        left = refl;
        row = λ h e. (ran_of h e).0;
        stays = λ h e. (ran_of h e).1;
        below = λ h e. (ran_of h e).2;
        machine = ran_machine one law f runs is built celled held;
      }
