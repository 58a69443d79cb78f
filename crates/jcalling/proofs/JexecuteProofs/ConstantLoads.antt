-- A step that loads a string constant.
use Rattle.std.proofs.Common.{◌≡◌, ◌<◌, ℕ, false, List, [], ◌∷◌, Some, refl, sym, ap, subst}
use Rattle.jmemory.specs.jheap.Heaps.{Heaped}
use Rattle.jresolution.specs.declared.jprogram.member.Member.{Member}
use Rattle.jresolution.specs.declared.jprogram.member.MethodId.{MethodId}
use Rattle.jresolution.specs.jprogram.ProgramClasses.{Program}
use Rattle.jresolution.specs.juses.IndexedInstructions.{instruction_at}
use Rattle.jsemantics.specs.declared.jmachine.plan.Plan.{Plan}
use Rattle.jsemantics.specs.jmachine.MachineStates.{FrameOf, Outcome, State}
use Rattle.jsemantics.specs.jmachine.AccessQueries.{asks}
use Rattle.jsemantics.specs.jmachine.Security.{Rules}
use Rattle.jsemantics.specs.jmachine.InstructionSites.{Site}
use Rattle.jsemantics.specs.jmachine.MachineSteps.{entries, fetched, own_fields, site, step, went}
use Rattle.jsemantics.specs.jmachine.Store.{Store}
use Rattle.jsemantics.specs.jmachine.World.{world}
use Rattle.jready.specs.declared.instr.Instr.TheVariants as instr
use Rattle.jready.specs.declared.instr.Push.TheVariants as push
use Rattle.jready.specs.DecodedInstructions.{meant}
use Rattle.jruntime.specs.declared.jstate.shapes.Shapes.{Shapes}
use Rattle.jruntime.specs.jstate.FrameLists.{Framed, all}
use Rattle.jruntime.specs.jstate.HeapMeanings.{Things, store_by}
use Rattle.jrows.specs.declared.jacts.way.Way.{Way}
use Rattle.jrows.specs.declared.jacts.way.Way.TheVariants as ways
use Rattle.jrows.specs.jacts.RowOutcomes.{Acts, Comes, leaves}
use Rattle.jrows.specs.declared.jcalls.ready.Counts.{Counts}
use Rattle.jrows.specs.jcalls.FrameMarks.{Stand}
use Rattle.jlibcalls.specs.jconstants.ConstantLoads.{RaisesNothing, RunsLoad, load_of}
use Rattle.jlibcalls.specs.jconstants.StringConstants.{Made}
use Rattle.jserving.specs.jinvoke.InvokeLaws.{StepsAt}
use Rattle.jserving.specs.jcells.ObjectEquivalence.{LeavesAlike, RowsStayAlike}
use Rattle.jstepping.specs.declared.jstep.run_tables.RunTables.{RunTables}
use Rattle.jstepping.specs.declared.jstep.outcomes.Stepped.{Stepped}
use Rattle.jstepping.specs.jstep.RowSuccessors.{Follows, behind}
use Rattle.jstepping.specs.jstep.StepRelation.{IsQuiet, SteppedAs, StepsAlike, StoodAs}
use Rattle.jcalling.specs.jexecute.FrameSteps.{Advances, Fetches, quiet_as}
use Rattle.jcalling.proofs.JexecuteProofs.RowOutcomes.{asks_fetched, came_quietly, done_there, steps_behind}

-- ---- behind a row that raises and throws nothing

quiet : (way : Way) → IsQuiet (quiet_as way)
quiet ways.Went = tt
quiet (ways.Raises class) = tt
quiet (ways.Throws n) = tt
quiet ways.Full = tt
quiet ways.Stuck = tt

module _ {E : Type 0} (r : Rules ℕ E) (p : Program) (plan : Plan) (s : State ℕ E) (f g : Framed E) (t : Store ℕ) (below : g.below ≡ f.below) where
  behind_quiet : (way : Way) → RaisesNothing way → SteppedAs r p plan s (quiet_as way) g t (behind r p plan s f.below way (leaves way [] g.newest t))
  behind_quiet ways.Went nothing = ap (λ (fs : List (FrameOf ℕ E)). went r p plan s (g.newest ∷ fs) t []) (sym below)
  behind_quiet (ways.Raises class) nothing = absurd nothing
  behind_quiet (ways.Throws n) nothing = absurd nothing
  behind_quiet ways.Full nothing = refl
  behind_quiet ways.Stuck nothing = refl

quiet_stands : {E : Type 0} (f g : Framed E) (classes : ℕ) (way : Way) → RaisesNothing way → g.newest.method ≡ f.newest.method → g.below ≡ f.below
    → Stand classes (all f) → StoodAs classes (quiet_as way) g
quiet_stands {E} f g classes ways.Went nothing same below s =
    let P : MethodId → Type 0 = λ m. m.class < classes in
    let B : List (FrameOf ℕ E) → Type 0 = λ fs. Stand classes fs in
    (subst P (sym same) s.0.class, subst B (sym below) s.1)
quiet_stands f g classes (ways.Raises class) nothing same below s = absurd nothing
quiet_stands f g classes (ways.Throws n) nothing same below s = absurd nothing
quiet_stands f g classes ways.Full nothing same below s = tt
quiet_stands f g classes ways.Stuck nothing same below s = tt

quiet_alike : (p : Program) (shapes : Shapes) (things : Things) (way : Way) (h k : Heaped) → RaisesNothing way
    → LeavesAlike p shapes things way h.objects k.objects → StepsAlike p shapes things (quiet_as way) h.objects k.objects
quiet_alike p shapes things ways.Went h k nothing is = is
quiet_alike p shapes things (ways.Raises class) h k nothing is = absurd nothing
quiet_alike p shapes things (ways.Throws n) h k nothing is = absurd nothing
quiet_alike p shapes things ways.Full h k nothing is = is
quiet_alike p shapes things ways.Stuck h k nothing is = tt

-- ---- the load

module _ {E : Type 0} (p : Program) (x : RunTables E) (i : ℕ) (f g : Framed E) (h k : Heaped) (old new : Made) (way : Way) (same : old.program ≡ p)
    (runs : RunsLoad f.newest.method.class i old f h way new g k) where
  abbrev class : ℕ
  class = f.newest.method.class

  -- what the row did, by the program
  row_did : (shapes : Shapes) (things : Things) → Acts (load_of p class i) f.newest (store_by p shapes things old.constants h)
      (leaves way [] g.newest (store_by p shapes things new.constants k))
  row_did shapes things =
      let P : Program → Type 0 = λ q. Acts (load_of q class i) f.newest (store_by q shapes things old.constants h)
      (leaves way [] g.newest (store_by q shapes things new.constants k)) in
      subst P same (runs shapes things)

  stands_there : Fetches p x f.newest (instr.Push (push.Text i)) → Some (load_of p class i) ≡ fetched p f.newest.method f.newest.place
  unfolding meant
  stands_there fetches = fetches.means

  load_advances : StepsAt E → Follows E → Fetches p x f.newest (instr.Push (push.Text i)) → RaisesNothing way → g.below ≡ f.below
      → (counts : Counts) → Advances p x counts old.constants f h (quiet_as way) new.constants g k
  load_advances at_law follows fetches nothing below counts r plan s things marked at =
      let it = load_of p class i in
      let is = stands_there fetches in
      let t = store_by p x.shapes.now things new.constants k in
      let l = leaves way [] g.newest t in
      let C : Store ℕ → Type 0 = λ u. Comes f.newest u (done_there r p plan s f it u) l in
      let comes : C s.store = subst C (sym at.store)
      (row_did x.shapes.now things r (site r p plan s f.newest f.below) (own_fields p f.newest.method) (entries r p plan s (all f)) s.running.inherited) in
      let O : Outcome (State ℕ E) → Type 0 = λ o. SteppedAs r p plan s (quiet_as way) g t o in
      let outcome = subst O (sym (steps_behind r p plan s f it at_law follows at.frames is l comes)) (behind_quiet r p plan s f g t below way nothing) in
      came_quietly r p plan s f g t (step r p plan s) (asks r.side p plan s) (instruction_at p f.newest.method f.newest.place) (quiet_as way) (quiet way)
      (asks_fetched r.side p plan s f (Some it) at.frames is) outcome

  load_alike : RowsStayAlike E → RaisesNothing way → (shapes : Shapes) (things : Things) → StepsAlike p shapes things (quiet_as way) h.objects k.objects
  load_alike law nothing shapes things =
      quiet_alike p shapes things way h k nothing
      (law p shapes things h k f.newest g.newest way [] old.constants new.constants (load_of p class i) the_site (λ (m : Member). false)
      (λ others alike r entries inherited. row_did shapes others r the_site (λ (m : Member). false) entries inherited))
    where
      the_site : Site
      the_site = record { world = world p; class = 0; thread = 0; full = false; cwd = []; table = [] }

-- ---- what the load left

module _ {E : Type 0} (p : Program) (x : RunTables E) (i : ℕ) (f g : Framed E) (h k : Heaped) (old new : Made) (way : Way) (done : Stepped)
    (is : done ≡ quiet_as way) (nothing : RaisesNothing way) where
  module _ (m : MethodId) (named : m ≡ f.newest.method) (same : old.program ≡ p) (runs : RunsLoad m.class i old f h way new g k) where
    runs_there : RunsLoad f.newest.method.class i old f h way new g k
    runs_there = subst (λ (n : MethodId). RunsLoad n.class i old f h way new g k) named runs

    pub loaded_row : StepsAt E → Follows E → Fetches p x f.newest (instr.Push (push.Text i)) → g.below ≡ f.below → (counts : Counts)
        → Advances p x counts old.constants f h done new.constants g k
    loaded_row at_law follows fetches below counts =
        let P : Stepped → Type 0 = λ d. Advances p x counts old.constants f h d new.constants g k in
        subst P (sym is) (load_advances p x i f g h k old new way same runs_there at_law follows fetches nothing below counts)

    pub loaded_alike : RowsStayAlike E → (things : Things) → StepsAlike p x.shapes.now things done h.objects k.objects
    loaded_alike law things =
        let P : Stepped → Type 0 = λ d. StepsAlike p x.shapes.now things d h.objects k.objects in
        subst P (sym is) (load_alike p x i f g h k old new way same runs_there law nothing x.shapes.now things)

  pub loaded_stands : (classes : ℕ) → g.newest.method ≡ f.newest.method → g.below ≡ f.below → Stand classes (all f) → StoodAs classes done g
  loaded_stands classes same below stand =
      let P : Stepped → Type 0 = λ d. StoodAs classes d g in
      subst P (sym is) (quiet_stands f g classes way nothing same below stand)
