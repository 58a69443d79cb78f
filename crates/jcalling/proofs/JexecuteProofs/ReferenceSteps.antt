-- A step with references.
use Rattle.std.proofs.Common.{◌≡◌, ◌∙◌, ◌<◌, ◌+◌, ◌^◌, ℕ, List, [], length, Option, Some, None, refl, sym, ap, subst}
use Rattle.std.specs.Prelude.{IfOk, Ok, OnOk, Err, Result, option_and_then, option_map, slice_get}
use Rattle.jparts.specs.declared.jcode.names.CastOp.{CastOp}
use Rattle.jparts.specs.declared.jcode.names.FieldOp.{FieldOp}
use Rattle.jmemory.specs.jheap.Heaps as heaps
use Rattle.jmemory.specs.jheap.Heaps.{Heaped}
use Rattle.jlib.specs.declared.side.Side.{Side}
use Rattle.jparts.specs.declared.jpool.entry.Entry.{Entry}
use Rattle.jresolution.specs.declared.jprogram.member.MethodId.{MethodId}
use Rattle.jresolution.specs.jprogram.ProgramClasses.{Program}
use Rattle.jtypes.specs.declared.vtype.VType.{VType}
use Rattle.jtypes.specs.declared.vtype.VType.TheVariants as types
use Rattle.jresolution.specs.juses.IndexedInstructions.{Instruction, Used, instruction_at}
use Rattle.jresolution.specs.juses.InstructionMeanings as meanings
use Rattle.jresolution.specs.juses.InstructionMeanings.{AClass, AConstant, AField, AMethod, EntryMeaning, entry_meant}
use Rattle.jresolution.specs.ProofNames.{made, array_made, cast_by, field_used}
use Rattle.jresolution.specs.juses.PoolTables.{pool_at}
use Rattle.jresolution.specs.juses.DescriptorTypes.{array_over}
use Rattle.jlinking.specs.jlink.ProgramFiles.{AreFiles}
use Rattle.jlinking.specs.jlink.LinkedPrograms.{Links}
use Rattle.jsemantics.specs.declared.jmachine.plan.Plan.{Plan}
use Rattle.jsemantics.specs.jmachine.MachineStates.{FrameOf, Outcome, State}
use Rattle.jsemantics.specs.jmachine.AccessQueries.{asked_by, asks}
use Rattle.jsemantics.specs.jmachine.Security.{Rules}
use Rattle.jsemantics.specs.jmachine.MachineSteps.{entries, fetched, own_fields, site, step}
use Rattle.jsemantics.specs.jmachine.Store.{Store}
use Rattle.jready.specs.declared.instr.ArrayInstr.{ArrayInstr}
use Rattle.jready.specs.declared.instr.ArrayInstr.TheVariants as array
use Rattle.jready.specs.declared.instr.FlowInstr.{FlowInstr}
use Rattle.jready.specs.declared.instr.FlowInstr.TheVariants as flow
use Rattle.jready.specs.declared.instr.Instr.{Instr}
use Rattle.jready.specs.declared.instr.Instr.TheVariants as instr
use Rattle.jready.specs.declared.instr.ObjectInstr.{ObjectInstr}
use Rattle.jready.specs.declared.instr.ObjectInstr.TheVariants as object
use Rattle.jready.specs.declared.tables.Tables.{Tables}
use Rattle.jready.specs.InlineOperands.{Exact}
use Rattle.jready.specs.DecodedInstructions.{meant, object_meant}
use Rattle.jruntime.specs.declared.jstate.shapes.Shape.{Shape}
use Rattle.jruntime.specs.declared.jstate.shapes.Shapes.{Shapes}
use Rattle.jruntime.specs.jstate.FrameLists.{Framed, all}
use Rattle.jruntime.specs.jstate.HeapMeanings.{Things, store_by}
use Rattle.jrows.specs.declared.jacts.way.Way.{Way}
use Rattle.jrows.specs.declared.jacts.way.Way.TheVariants as ways
use Rattle.jrows.specs.jacts.RowOutcomes.{ActsWhere, Comes, leaves}
use Rattle.jrows.specs.declared.jcalls.ready.Counts.{Counts}
use Rattle.jrows.specs.jcalls.FrameMarks.{Stand}
use Rattle.jrows.specs.jcalls.Readiness.{AreCounted}
use Rattle.jserving.specs.jinvoke.InvokeLaws.{StepsAt}
use Rattle.jrows.specs.jobjs.RowFrames.{Stays}
use Rattle.jserving.specs.jcells.ObjectEquivalence.{LeavesAlike, NamesNoMore, StayAlike}
use Rattle.jserving.specs.jcells.CellLayout.{AreTied}
use Rattle.jstepping.specs.jrefs.ReferenceRows.{IsExact, IsFetched, IsHere, IsLasting, IsSite, Runs, RunsAlike}
use Rattle.jstepping.specs.declared.jstep.run_tables.RunTables.{RunTables}
use Rattle.jstepping.specs.declared.jstep.outcomes.Stepped.{Stepped}
use Rattle.jstepping.specs.declared.jstep.outcomes.Stepped.TheVariants as steps
use Rattle.jstepping.specs.jstep.RowSuccessors.{Follows, behind}
use Rattle.jstepping.specs.jstep.InstructionRows.{IsRaising, MayRaise}
use Rattle.jstepping.specs.jstep.StepRelation.{IsFixed, IsQuiet, Settles, StandsFor, StaysStuck, SteppedAs, StepsAlike}
use Rattle.jcalling.specs.jexecute.FrameSteps.{Advances, Fetches, IsAt, lasting_by}
use Rattle.jcalling.proofs.JexecuteProofs.RowOutcomes.{asks_fetched, came_quietly, done_there, raising_stays, steps_behind}

-- ---- what lasts

pub lasting : {E : Type 0} (p : Program) (x : RunTables E) → IsFixed p x → Links p → AreFiles p → AreTied p x.tables.now x.shapes.now
    → ((i : ℕ) (shape : Shape) → slice_get x.shapes.now.users i ≡ Some shape → length shape.cells + 1 < 2 ^ 32) → IsLasting (lasting_by x)
lasting p x fixed links files tied small =
    let T : Program → Type 0 = λ q. AreTied q x.tables.now x.shapes.now in
    let U : Tables → Type 0 = λ t. AreTied x.ancestors.now t x.shapes.now in
    record {
      ready = fixed.ready ∙ sym fixed.ancestors;
      links = subst Links (sym fixed.ancestors) links;
      files = subst AreFiles (sym fixed.ancestors) files;
      tied = subst U fixed.tables (subst T (sym fixed.ancestors) tied);
      small = small;
    }

-- ---- the instruction

module _ {E : Type 0} (p : Program) (x : RunTables E) (one : Instr) (f : FrameOf ℕ E) (fixed : IsFixed p x) (fetches : Fetches p x f one) where
  pub fetched_here : IsFetched (lasting_by x) one f
  fetched_here =
      let Q : Program → Type 0 = λ q. meant q x.ready.now.methods.tables f.method.class one ≡ fetched q f.method f.place in
      let T : Tables → Type 0 = λ t. meant p t f.method.class one ≡ fetched p f.method f.place in
      subst Q (sym fixed.ancestors) (subst T fixed.tables fetches.means)

  pub fetched_exact : IsExact (lasting_by x) one f
  fetched_exact =
      let Q : Program → Type 0 = λ q. Exact q x.ready.now.uses.types x.ready.now.methods.tables f.method.class one in
      let T : Tables → Type 0 = λ t. Exact p x.ready.now.uses.types t f.method.class one in
      subst Q (sym fixed.ancestors) (subst T fixed.tables fetches.exact)

-- ---- no instruction with references is a call

module _ {E : Type 0} (side : Side) (p : Program) (plan : Plan) (s : State ℕ E) (f : FrameOf ℕ E) (below : List (FrameOf ℕ E)) where
  abbrev IsSilent : Option Instruction → Type 0
  IsSilent it = asked_by side p plan s f below it ≡ None

  array_asks : (o : Option VType) → IsSilent (option_map Used (option_map meanings.MakeArray o))
  array_asks None = refl
  array_asks (Some t) = refl

  made_asks : (t : VType) → IsSilent (option_map Used (made (AClass t)))
  made_asks types.Top = refl
  made_asks types.Int = refl
  made_asks types.Long = refl
  made_asks types.Null = refl
  made_asks types.UninitThis = refl
  made_asks (types.Uninit at) = refl
  made_asks types.Ctx = refl
  made_asks (types.Object c) = refl
  made_asks (types.Array a) = refl

  new_asks : (o : Option EntryMeaning) → IsSilent (option_map Used (option_and_then made o))
  new_asks None = refl
  new_asks (Some (AConstant c)) = refl
  new_asks (Some (AClass t)) = made_asks t
  new_asks (Some (AField g)) = refl
  new_asks (Some (AMethod init c)) = refl

  new_array_asks : (o : Option EntryMeaning) → IsSilent (option_map Used (option_and_then array_made o))
  new_array_asks None = refl
  new_array_asks (Some (AConstant c)) = refl
  new_array_asks (Some (AClass t)) = array_asks (array_over t)
  new_array_asks (Some (AField g)) = refl
  new_array_asks (Some (AMethod init c)) = refl

  cast_asks : (op : CastOp) (o : Option EntryMeaning) → IsSilent (option_map Used (option_and_then (cast_by op) o))
  cast_asks op None = refl
  cast_asks op (Some (AConstant c)) = refl
  cast_asks op (Some (AClass t)) = refl
  cast_asks op (Some (AField g)) = refl
  cast_asks op (Some (AMethod init c)) = refl

  field_asks : (op : FieldOp) (o : Option EntryMeaning) → IsSilent (option_map Used (option_and_then (field_used op) o))
  field_asks op None = refl
  field_asks op (Some (AConstant c)) = refl
  field_asks op (Some (AClass t)) = refl
  field_asks op (Some (AField g)) = refl
  field_asks op (Some (AMethod init c)) = refl

  object_asks : (pool : List Entry) (one : ObjectInstr) → IsSilent (object_meant p pool one)
  unfolding meanings.meant meanings.array_meant
  object_asks pool (object.New i c) = new_asks (entry_meant p pool (slice_get pool i))
  object_asks pool (object.NewLibrary i c) = new_asks (entry_meant p pool (slice_get pool i))
  object_asks pool (object.NewArray i k) = new_array_asks (entry_meant p pool (slice_get pool i))
  object_asks pool (object.CastClass op i c) = cast_asks op (entry_meant p pool (slice_get pool i))
  object_asks pool (object.Cast op i) = cast_asks op (entry_meant p pool (slice_get pool i))
  object_asks pool (object.Out op i) = field_asks op (entry_meant p pool (slice_get pool i))

  array_store_asks : (t : Tables) (class : ℕ) (one : ArrayInstr) → IsSilent (meant p t class (instr.Array one))
  unfolding meant
  array_store_asks t class (array.New kind) = refl
  array_store_asks t class (array.Load e) = refl
  array_store_asks t class (array.Store e) = refl
  array_store_asks t class array.Length = refl

  flow_asks : (t : Tables) (class : ℕ) (one : FlowInstr) → IsSilent (meant p t class (instr.Flow one))
  unfolding meant
  flow_asks t class (flow.Jump when to) = refl
  flow_asks t class (flow.Return kind) = refl
  flow_asks t class flow.Throw = refl

  pub refs_ask : (t : Tables) (class : ℕ) (one : Instr) → IsHere one → IsSilent (meant p t class one)
  unfolding meant meanings.meant
  refs_ask t class instr.Off here = absurd here
  refs_ask t class (instr.Plain o) here = absurd here
  refs_ask t class (instr.Push o) here = absurd here
  refs_ask t class (instr.Local o) here = absurd here
  refs_ask t class (instr.Stack o) here = absurd here
  refs_ask t class (instr.Flow o) here = flow_asks t class o
  refs_ask t class (instr.Table c) here = absurd here
  refs_ask t class (instr.Lookup c) here = absurd here
  refs_ask t class (instr.Array o) here = array_store_asks t class o
  refs_ask t class (instr.Object o) here = object_asks (pool_at p class) o
  refs_ask t class (instr.Field op cell narrow i slot owner) here = field_asks op (entry_meant p (pool_at p class) (slice_get (pool_at p class) i))
  refs_ask t class (instr.Call way i params k) here = absurd here
  refs_ask t class (instr.Library way i params call) here = absurd here

-- ---- the frame behind the row

module _ {E : Type 0} (f g : Framed E) where
  pub row_may_raise : (way : Way) → Stays way f.newest g.newest → MayRaise way
  row_may_raise ways.Went is = tt
  row_may_raise (ways.Raises class) is = is.0
  row_may_raise (ways.Throws n) is = absurd is
  row_may_raise ways.Full is = tt
  row_may_raise ways.Stuck is = tt

  pub row_stands : (classes : ℕ) (way : Way) → Stays way f.newest g.newest → g.below ≡ f.below → Stand classes (all f) → StandsFor classes way g
  row_stands classes ways.Went is below s =
      let P : MethodId → Type 0 = λ m. m.class < classes in
      let B : List (FrameOf ℕ E) → Type 0 = λ fs. Stand classes fs in
      (subst P (sym is) s.0.class, subst B (sym below) s.1)
  row_stands classes (ways.Raises class) is below s =
      let P : MethodId → Type 0 = λ m. m.class < classes in
      let Q : ℕ → Type 0 = λ n. n + 1 < 2 ^ 32 in
      let B : List (FrameOf ℕ E) → Type 0 = λ fs. Stand classes fs in
      (record { class = subst P (sym is.1) s.0.class; place = subst Q (sym is.2) s.0.place }, subst B (sym below) s.1)
  row_stands classes (ways.Throws n) is below s = tt
  row_stands classes ways.Full is below s = tt
  row_stands classes ways.Stuck is below s = tt

-- ---- the step

module _ {E : Type 0} (p : Program) (x : RunTables E) (counts : Counts) (one : Instr) (f u : Framed E) (h v : Heaped) (way : Way) where
  -- what the row did, by a program and its tables
  abbrev RunsBy : Program → Tables → Type 0
  RunsBy q t =
      (i : Instruction) → meant q t f.newest.method.class one ≡ Some i → (things : Things) (constants : List (List ℕ × ℕ)) → AreCounted counts things
      → ActsWhere (IsSite q f.newest.method) i f.newest (store_by q x.shapes.now things constants h)
      (leaves way [] u.newest (store_by q x.shapes.now things constants v))

  runs_here : IsFixed p x → Runs (lasting_by x) counts one f.newest h way u.newest v → RunsBy p x.tables.now
  runs_here fixed runs =
      let at_program : RunsBy p x.ready.now.methods.tables = subst (λ (q : Program). RunsBy q x.ready.now.methods.tables) fixed.ancestors runs in
      subst (λ (t : Tables). RunsBy p t) (sym fixed.tables) at_program

  -- nothing stands there
  abbrev MeansNothing : Program → Tables → Type 0
  MeansNothing q t = meant q t f.newest.method.class one ≡ None → way ≡ ways.Stuck

  missing_here : IsFixed p x → MeansNothing x.ancestors.now x.ready.now.methods.tables → MeansNothing p x.tables.now
  missing_here fixed missing =
      let at_program : MeansNothing p x.ready.now.methods.tables = subst (λ (q : Program). MeansNothing q x.ready.now.methods.tables) fixed.ancestors missing in
      subst (λ (t : Tables). MeansNothing p t) (sym fixed.tables) at_program

  module _ (at_law : StepsAt E) (follows : Follows E) (runs : RunsBy p x.tables.now) (missing : MeansNothing p x.tables.now) (fetches : Fetches p x f.newest one)
      (r : Rules ℕ E) (plan : Plan) (s : State ℕ E) (things : Things) (constants : List (List ℕ × ℕ)) (at : IsAt p x counts constants f h plan s things) where
    abbrev left_store : Store ℕ
    left_store = store_by p x.shapes.now things constants v

    abbrev IsStepped : Type 0
    IsStepped = (step r p plan s ≡ behind r p plan s f.below way (leaves way [] u.newest left_store)) × (IsRaising way → s.store ≡ left_store)

    stepped_none : fetched p f.newest.method f.newest.place ≡ None → IsStepped
    stepped_none gone =
        let stuck : way ≡ ways.Stuck = missing (fetches.means ∙ gone) in (
          at_law r p plan s f None at.frames (sym gone)
              ∙ sym (ap (λ (w : Way). behind r p plan s f.below w (leaves w [] u.newest left_store)) stuck),
          λ raising. absurd (subst IsRaising stuck raising),
        )

    stepped_some : (i : Instruction) → fetched p f.newest.method f.newest.place ≡ Some i → IsStepped
    stepped_some i is =
        let l = leaves way [] u.newest left_store in
        let C : Store ℕ → Type 0 = λ t. Comes f.newest t (done_there r p plan s f i t) l in
        let comes : C s.store = subst C (sym at.store)
        (runs i (fetches.means ∙ is) things constants at.counted r (site r p plan s f.newest f.below) (own_fields p f.newest.method)
        (entries r p plan s (all f)) s.running.inherited (record { world = refl; class = refl; owns = λ m. refl })) in (
          steps_behind r p plan s f i at_law follows at.frames (sym is) l comes,
          λ raising. sym (raising_stays f.newest s.store way u.newest left_store (done_there r p plan s f i s.store) raising comes),
        )

    stepped_by : (o : Option Instruction) → fetched p f.newest.method f.newest.place ≡ o → IsStepped
    stepped_by None gone = stepped_none gone
    stepped_by (Some i) is = stepped_some i is

  module _ (at_law : StepsAt E) (follows : Follows E) (fixed : IsFixed p x) (here : IsHere one) (fetches : Fetches p x f.newest one)
      (runs : Runs (lasting_by x) counts one f.newest h way u.newest v) (missing : MeansNothing x.ancestors.now x.ready.now.methods.tables)
      (below : u.below ≡ f.below) (g : Framed E) (k : Heaped) where
    refs_advance : (done : Stepped) → Settles x.marks.now p way u v done g k → IsQuiet done → (constants : List (List ℕ × ℕ)) → Advances p x counts constants f h done constants g k
    refs_advance done settles quiet constants r plan s things marked at =
        let t = store_by p x.shapes.now things constants k in
        let l = leaves way [] u.newest (store_by p x.shapes.now things constants v) in
        let both = stepped_by at_law follows (runs_here fixed runs) (missing_here fixed missing) fetches r plan s things constants at
        (fetched p f.newest.method f.newest.place) refl in
        let O : Outcome (State ℕ E) → Type 0 = λ o. SteppedAs r p plan s done g t o in
        let B : List (FrameOf ℕ E) → Type 0 = λ fs. O (behind r p plan s fs way l) in
        let outcome = subst O (sym both.0) (subst B below (settles r plan s x.shapes.now things constants marked both.1)) in
        let none : asks r.side p plan s ≡ None =
        asks_fetched r.side p plan s f (meant p x.tables.now f.newest.method.class one) at.frames fetches.means
        ∙ refs_ask r.side p plan s f.newest f.below x.tables.now f.newest.method.class one here in
        came_quietly r p plan s f g t (step r p plan s) (asks r.side p plan s) (instruction_at p f.newest.method f.newest.place) done quiet none outcome

    pub ok_refs_advance : {F : Type 0} (r : Result Stepped F) → IfOk r (λ done. Settles x.marks.now p way u v done g k) → IfOk r IsQuiet
        → IfOk r (λ done. (constants : List (List ℕ × ℕ)) → Advances p x counts constants f h done constants g k)
    ok_refs_advance (Ok done) settles quiet = refs_advance done settles quiet
    ok_refs_advance (Err e) settles quiet = tt

-- ---- the objects

module _ (p : Program) (shapes : Shapes) (things : Things) (before mid after : List heaps.Object) where
  leaves_stay : (way : Way) → (way ≡ ways.Stuck → ⊥) → LeavesAlike p shapes things way before mid → StayAlike p shapes things before mid
  leaves_stay ways.Went some is = is
  leaves_stay (ways.Raises class) some is = is
  leaves_stay (ways.Throws n) some is = is
  leaves_stay ways.Full some is = is
  leaves_stay ways.Stuck some is = absurd (some refl)

  steps_stay : (done : Stepped) → ((done ≡ steps.Stuck → ⊥) → StayAlike p shapes things before after) → StepsAlike p shapes things done before after
  steps_stay steps.Went stay = stay (λ e. cc)
  steps_stay steps.Ended stay = stay (λ e. cc)
  steps_stay (steps.Handled class) stay = stay (λ e. cc)
  steps_stay (steps.Uncaught class) stay = stay (λ e. cc)
  steps_stay (steps.Asks call count) stay = stay (λ e. cc)
  steps_stay steps.Full stay = stay (λ e. cc)
  steps_stay steps.Stuck stay = tt

  refs_alike : (way : Way) (done : Stepped) → StaysStuck way done → LeavesAlike p shapes things way before mid → NamesNoMore mid after
      → StepsAlike p shapes things done before after
  refs_alike way done stuck leaves more = steps_stay done stay
    where
      stay : (done ≡ steps.Stuck → ⊥) → StayAlike p shapes things before after
      stay some others alike =
          let was : way ≡ ways.Stuck → ⊥ = λ e. some (subst (λ (w : Way). StaysStuck w done) e stuck) in
          more p shapes things others (leaves_stay way was leaves others alike)

module _ {E : Type 0} (p : Program) (x : RunTables E) (counts : Counts) (before mid after : List heaps.Object) (way : Way) (fixed : IsFixed p x)
    (leaves : RunsAlike (lasting_by x) counts way before mid) where
  at_program : (things : Things) → AreCounted counts things → LeavesAlike p x.shapes.now things way before mid
  at_program things counted = subst (λ (q : Program). LeavesAlike q x.shapes.now things way before mid) fixed.ancestors (leaves things counted)

  pub ok_refs_alike : {F : Type 0} (r : Result Stepped F) → IfOk r (StaysStuck way) → OnOk r (NamesNoMore mid after)
      → IfOk r (λ done. (things : Things) → AreCounted counts things → StepsAlike p x.shapes.now things done before after)
  ok_refs_alike (Ok done) stuck more =
      λ things counted. refs_alike p x.shapes.now things before mid after way done stuck (at_program things counted) more
  ok_refs_alike (Err e) stuck more = tt
