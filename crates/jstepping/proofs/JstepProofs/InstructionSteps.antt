-- What a step came to that executed an instruction.
use Rattle.std.proofs.Common.{◌≡◌, ◌∙◌, ℕ, zero, suc, Bool, true, false, List, [], ◌∷◌, map, Option, Some, None, refl, sym, ap, subst}
use Rattle.std.specs.Prelude.{IfOk, Ok, Err, Result, is_some, option_and_then, option_map, slice_get, if◌then◌else◌}
use Rattle.jparts.specs.declared.jcode.names.Returned.{Returned}
use Rattle.jmemory.specs.declared.jheap.cell.Kind.{Kind}
use Rattle.jmemory.specs.declared.jheap.cell.Kind.TheVariants as kinds
use Rattle.jmemory.specs.jheap.Heaps as heaps
use Rattle.jmemory.specs.jheap.Heaps.{Heaped, kind_at}
use Rattle.jlib.specs.declared.calls.LibCall.{LibCall}
use Rattle.jlib.specs.declared.side.Side.{Side}
use Rattle.jlib.specs.declared.classes.LibClass.TheVariants as lib
use Rattle.jlib.specs.declared.classes.Thrown.TheVariants as thrown_classes
use Rattle.jvalues.specs.declared.jops.value.Value.{Value}
use Rattle.jvalues.specs.declared.jops.value.Value.TheVariants.{Int, Long, Ref, Ctx}
use Rattle.jresolution.specs.declared.jprogram.member.MethodId.{MethodId}
use Rattle.jresolution.specs.jprogram.ProgramClasses.{Program}
use Rattle.jtyping.specs.jrule.StackEffects.{Fits, Want}
use Rattle.jtyping.specs.jrule.PoolEffects.{throwable}
use Rattle.jtypes.specs.declared.vtype.ArrayType.{ArrayType}
use Rattle.jtypes.specs.declared.vtype.VType.TheVariants as types
use Rattle.jresolution.specs.declared.juses.meaning.InvokeKind.{InvokeKind}
use Rattle.jresolution.specs.juses.IndexedInstructions.{Instruction, Simple, Local, Stack, Jump, Switch, Return, Throw, Array, Used, instruction_at}
use Rattle.jresolution.specs.juses.InstructionMeanings as meanings
use Rattle.jresolution.specs.declared.juses.meaning.Span.{Span}
use Rattle.jresolution.specs.juses.InstructionMeanings.{CallMeaning, spanned}
use Rattle.jresolution.specs.juses.PoolTables.{pool_at}
use Rattle.jresolution.specs.juses.InternedTypes.{array_named, named}
use Rattle.jsemantics.specs.declared.jmachine.plan.Plan.{Plan}
use Rattle.jsemantics.specs.jmachine.MachineStates.{FrameOf, Outcome, Row, State}
use Rattle.jsemantics.specs.jmachine.AccessQueries.{Ask, asked_by, asked_on, asks}
use Rattle.jsemantics.specs.jmachine.InstructionActions.{Doing, doing}
use Rattle.jsemantics.specs.jmachine.FrameOperations.{with_operands}
use Rattle.jsemantics.specs.jmachine.HeapObjects.{Object}
use Rattle.jsemantics.specs.jmachine.TakenOperands.{Taken, serves, taken, with_value, serves_as, found_type}
use Rattle.jsemantics.specs.jmachine.Security.{Rules}
use Rattle.jsemantics.specs.jmachine.MachineSteps.{entries, executed, fetched, is_followed, own_fields, site, thrown_at, unless_last, went}
use Rattle.jsemantics.specs.jmachine.Store.{Store}
use Rattle.jsemantics.specs.jmachine.BasicInstructions.{throw}
use Rattle.jsemantics.specs.jmachine.ThreadTurns.{ended}
use Rattle.jsemantics.specs.jmachine.World.{World, fits, world}
use Rattle.jready.specs.declared.instr.FlowInstr.{FlowInstr}
use Rattle.jready.specs.declared.instr.Instr.{Instr}
use Rattle.jready.specs.declared.instr.Instr.TheVariants as instr
use Rattle.jready.specs.InlineOperands.{Exact}
use Rattle.jready.specs.CodeLayout.{Within}
use Rattle.jready.specs.DecodedInstructions.{call_form, flow_meant, meant}
use Rattle.jruntime.specs.jstate.FrameLists.{Framed, all}
use Rattle.jruntime.specs.jstate.HeapMeanings.{Things, array_at, kind_by, object_by, store_by}
use Rattle.jruntime.specs.jstate.HeapMeaningLaws.{SeesEach}
use Rattle.jrows.specs.declared.jacts.way.Way.{Way}
use Rattle.jrows.specs.declared.jacts.way.Way.TheVariants as ways
use Rattle.jrows.specs.jacts.RowOutcomes.{Comes, leaves}
use Rattle.jrows.specs.declared.jcalls.ready.Counts.{Counts}
use Rattle.jrows.specs.declared.jcalls.returns.Leaving.{Leaving}
use Rattle.jrows.specs.declared.jcalls.returns.Leaving.TheVariants as leaving
use Rattle.jrows.specs.jcalls.FrameMarks.{Stand}
use Rattle.jrows.specs.jcalls.Readiness.{AreCounted}
use Rattle.jrows.specs.jcalls.Returns.{LeftAs, Returns, StaysStanding}
use Rattle.jserving.specs.jinvoke.InvokeLaws.{StepsAt}
use Rattle.jrows.specs.jobjs.ReferenceBranches.{ref_in}
use Rattle.jstepping.specs.declared.jstep.run_tables.RunTables.{RunTables}
use Rattle.jstepping.specs.declared.jstep.outcomes.Stepped.{Stepped}
use Rattle.jstepping.specs.declared.jstep.outcomes.Stepped.TheVariants as steps
use Rattle.jstepping.specs.jstep.RowSuccessors.{Follows, behind}
use Rattle.jstepping.specs.jstep.InstructionRows.{IsHere, IsRaising, Runs}
use Rattle.jstepping.specs.jstep.HeapOperands.{ServesThrown}
use Rattle.jstepping.specs.jstep.StepRelation.{AsksAs, CameTo, Executes, ExecutesCall, IsQuiet, RaisesAs, ReachesAs, ReturnsAs, Settles, SteppedAs, Steps, StoodAs, ThrowsAs, left_as}
use Rattle.jstepping.proofs.JstepProofs.RowMeanings.{Means, means}
use Rattle.jstepping.proofs.JstepProofs.RowExceptions.{IsBasic, comes_same}

-- ---- what a step asks

module _ {E : Type 0} (p : Program) (plan : Plan) (s : State ℕ E) (f : Framed E) where
  asks_there : (side : Side) (it : Option Instruction) → s.running.frames ≡ all f → it ≡ fetched p f.newest.method f.newest.place
      → asks side p plan s ≡ asked_by side p plan s f.newest f.below it
  unfolding asks
  asks_there side it top is = ap (asked_on side p plan s) top ∙ ap (asked_by side p plan s f.newest f.below) (sym is)

  -- nothing, where the instruction is no call
  basic_asks : (side : Side) (i : Instruction) → IsBasic i → asked_by side p plan s f.newest f.below (Some i) ≡ None
  basic_asks side (Simple form) basic = refl
  basic_asks side (Local form) basic = refl
  basic_asks side (Stack op) basic = refl
  basic_asks side (Jump test to) basic = refl
  basic_asks side (Switch cases other) basic = refl
  basic_asks side (Return kind) basic = refl
  basic_asks side Throw basic = refl
  basic_asks side (Array form) basic = refl
  basic_asks side (Used (meanings.Push c)) basic = refl
  basic_asks side (Used (meanings.Field op m)) basic = absurd basic
  basic_asks side (Used (meanings.Call by c)) basic = absurd basic
  basic_asks side (Used (meanings.Make c)) basic = absurd basic
  basic_asks side (Used (meanings.MakeArray t)) basic = absurd basic
  basic_asks side (Used (meanings.Cast op t)) basic = absurd basic

-- ---- which instruction stands there

stands_there : (p : Program) (m : MethodId) (i : ℕ) (it : Instruction) → fetched p m i ≡ Some it → instruction_at p m i ≡ Some it
unfolding fetched
stands_there p m i it e = found (instruction_at p m i) e
  where
    chosen : (b : Bool) (x : Instruction) → (if b then Some x else None) ≡ Some it → Some x ≡ Some it
    chosen true x e = e
    chosen false x e = cc

    found : (o : Option Instruction) → option_and_then (unless_last p m i) o ≡ Some it → o ≡ Some it
    found None e = cc
    found (Some x) e = chosen (is_followed p m i x) x e

module _ {E : Type 0} (r : Rules ℕ E) (p : Program) (plan : Plan) (s : State ℕ E) (f : Framed E) where
  reached_there : (it : Option Instruction) → it ≡ fetched p f.newest.method f.newest.place → (done : Stepped) → ReachesAs r p plan s f done it
      → ReachesAs r p plan s f done (instruction_at p f.newest.method f.newest.place)
  reached_there it is steps.Went reached = tt
  reached_there it is steps.Ended reached = tt
  reached_there it is (steps.Handled class) reached = tt
  reached_there it is (steps.Uncaught class) reached = tt
  reached_there it is (steps.Asks call count) reached =
      record {
        by = reached.by;
        called = reached.called;
        is = stands_there p f.newest.method f.newest.place (Used (meanings.Call reached.by reached.called)) (sym is ∙ reached.is);
        takes = reached.takes;
        comes = reached.comes;
      }
  reached_there it is steps.Full reached = tt
  reached_there it is steps.Stuck reached = tt

  -- what asks nothing
  quiet_came : (done : Stepped) (g : Framed E) (t : Store ℕ) (o : Outcome (State ℕ E)) (a : Option (Ask ℕ)) (it : Option Instruction) → IsQuiet done
      → SteppedAs r p plan s done g t o → a ≡ None → CameTo r p plan s f done g t o a it
  quiet_came steps.Went g t o a it quiet came none = record { outcome = came; asked = none; reached = tt }
  quiet_came steps.Ended g t o a it quiet came none = record { outcome = came; asked = none; reached = tt }
  quiet_came (steps.Handled class) g t o a it quiet came none = record { outcome = came; asked = none; reached = tt }
  quiet_came (steps.Uncaught class) g t o a it quiet came none = record { outcome = came; asked = none; reached = tt }
  quiet_came (steps.Asks call count) g t o a it quiet came none = absurd quiet
  quiet_came steps.Full g t o a it quiet came none = record { outcome = came; asked = none; reached = tt }
  quiet_came steps.Stuck g t o a it quiet came none = record { outcome = came; asked = none; reached = tt }

-- ---- the step

module _ {E : Type 0} (law : StepsAt E) (p : Program) (x : RunTables E) (counts : Counts) (f g : Framed E) (h k : Heaped) where
  -- it executes the instruction that stands there
  one_steps : (it : Option Instruction) (done : Stepped) → it ≡ fetched p f.newest.method f.newest.place → Executes p x counts it f h done g k
      → Steps p x counts f h done g k
  one_steps it done is executes r plan s things constants marked depth counted top seen =
      let came = executes r plan s things constants marked depth counted top seen in
      let P : Outcome (State ℕ E) → Type 0 = λ o. SteppedAs r p plan s done g (store_by p x.shapes.now things constants k) o in
      let A : Option (Ask ℕ) → Type 0 = λ a. AsksAs r p plan s f done a in
      record {
        outcome = subst P (sym (law r p plan s f it top is)) came.outcome;
        asked = subst A (sym (asks_there p plan s f r.side it top is)) came.asked;
        reached = reached_there r p plan s f it is done came.reached;
      }

  module _ {F : Type 0} (r : Result Stepped F) (q : Program) (same : q ≡ p) (one : Instr)
      (means : meant p x.tables.now f.newest.method.class one ≡ fetched p f.newest.method f.newest.place) where
    pub arm_steps : (two : Instr) → one ≡ two → IfOk r (λ done. Executes q x counts (meant q x.tables.now f.newest.method.class two) f h done g k)
        → IfOk r (λ done. Steps p x counts f h done g k)
    arm_steps two is executes = by_result r (subst P same executes)
      where
        P : Program → Type 0
        P q = IfOk r (λ done. Executes q x counts (meant q x.tables.now f.newest.method.class two) f h done g k)

        by_result : (r : Result Stepped F) → IfOk r (λ done. Executes p x counts (meant p x.tables.now f.newest.method.class two) f h done g k)
            → IfOk r (λ done. Steps p x counts f h done g k)
        by_result (Ok done) e =
            one_steps (meant p x.tables.now f.newest.method.class two) done
            (ap (meant p x.tables.now f.newest.method.class) (sym is) ∙ means) e
        by_result (Err e) executes = tt

    pub row_steps : IfOk r (λ done. (counts : Counts) → Executes q x counts (meant q x.tables.now f.newest.method.class one) f h done g k)
        → IfOk r (λ done. Steps p x counts f h done g k)
    row_steps executes = arm_steps one refl (at_counts r executes)
      where
        at_counts : (r : Result Stepped F) → IfOk r (λ done. (counts : Counts) → Executes q x counts (meant q x.tables.now f.newest.method.class one) f h done g k)
            → IfOk r (λ done. Executes q x counts (meant q x.tables.now f.newest.method.class one) f h done g k)
        at_counts (Ok done) e = e counts
        at_counts (Err e) executes = tt

-- a call does
module _ {E : Type 0} (law : StepsAt E) (p : Program) (x : RunTables E) (counts : Counts) (f g : Framed E) (h k : Heaped) (by : InvokeKind) (pool : ℕ) (params : Span)
    (one : Instr) (means : meant p x.tables.now f.newest.method.class one ≡ fetched p f.newest.method f.newest.place) {F : Type 0} (r : Result Stepped F) where
  call_steps : (c : CallMeaning) → meanings.meant p (pool_at p f.newest.method.class) (call_form by pool) ≡ Some (meanings.Call by c)
      → c.params ≡ map (named p) (spanned x.ready.now.uses.types params)
      → option_map Used (meanings.meant p (pool_at p f.newest.method.class) (call_form by pool)) ≡ fetched p f.newest.method f.newest.place
      → IfOk r (λ done. ExecutesCall p x counts by pool params f h done g k) → IfOk r (λ done. Steps p x counts f h done g k)
  call_steps c says taken is executes = by_result r executes
    where
      by_result : (r : Result Stepped F) → IfOk r (λ done. ExecutesCall p x counts by pool params f h done g k)
          → IfOk r (λ done. Steps p x counts f h done g k)
      by_result (Ok done) e =
          one_steps law p x counts f g h k (Some (Used (meanings.Call by c))) done (sym (ap (option_map Used) says) ∙ is) (e c says taken)
      by_result (Err e) executes = tt

  pub user_steps : (n : ℕ) → one ≡ instr.Call by pool params n → Exact p x.ready.now.uses.types x.tables.now f.newest.method.class one
      → IfOk r (λ done. ExecutesCall p x counts by pool params f h done g k) → IfOk r (λ done. Steps p x counts f h done g k)
  unfolding meant
  user_steps n is exact executes =
      let P : Instr → Type 0 = λ i. Exact p x.ready.now.uses.types x.tables.now f.newest.method.class i in
      let Q : Instr → Type 0 = λ i. meant p x.tables.now f.newest.method.class i ≡ fetched p f.newest.method f.newest.place in
      let called = subst P is exact in
      call_steps called.call called.means called.calls.taken (subst Q is means) executes

  pub library_steps : (call : LibCall) → one ≡ instr.Library by pool params call
      → Exact p x.ready.now.uses.types x.tables.now f.newest.method.class one
      → IfOk r (λ done. ExecutesCall p x counts by pool params f h done g k) → IfOk r (λ done. Steps p x counts f h done g k)
  unfolding meant
  library_steps call is exact executes =
      let P : Instr → Type 0 = λ i. Exact p x.ready.now.uses.types x.tables.now f.newest.method.class i in
      let Q : Instr → Type 0 = λ i. meant p x.tables.now f.newest.method.class i ≡ fetched p f.newest.method f.newest.place in
      let called = subst P is exact in
      call_steps called.call called.means called.calls.taken (subst Q is means) executes

-- behind a method's instructions there is no step
pub off_steps : {E : Type 0} (law : StepsAt E) (p : Program) (x : RunTables E) (counts : Counts) (f : Framed E) (h : Heaped) (one : Instr) → one ≡ instr.Off
    → meant p x.tables.now f.newest.method.class one ≡ fetched p f.newest.method f.newest.place → Steps p x counts f h steps.Stuck f h
unfolding meant
off_steps law p x counts f h one is means =
    let Q : Instr → Type 0 = λ i. meant p x.tables.now f.newest.method.class i ≡ fetched p f.newest.method f.newest.place in
    one_steps law p x counts f f h h None steps.Stuck (subst Q is means)
    (λ r plan s things constants marked depth counted top seen. record { outcome = refl; asked = refl; reached = tt })

-- what says where the method goes on
module _ {E : Type 0} (p : Program) (x : RunTables E) (counts : Counts) (f g : Framed E) (h k : Heaped) {F : Type 0} (r : Result Stepped F) where
  pub flow_done : (j : FlowInstr) (i : Instruction) → flow_meant j ≡ i → IfOk r (λ done. Executes p x counts (Some i) f h done g k)
      → IfOk r (λ done. Executes p x counts (meant p x.tables.now f.newest.method.class (instr.Flow j)) f h done g k)
  unfolding meant
  flow_done j i is executes =
      let P : Instruction → Type 0 = λ y. IfOk r (λ done. Executes p x counts (Some y) f h done g k) in subst P (sym is) executes

  pub jump_done : (j : Instr) → IfOk r (λ done. (counts : Counts) → Executes p x counts (meant p x.tables.now f.newest.method.class j) f h done g k)
      → IfOk r (λ done. Executes p x counts (meant p x.tables.now f.newest.method.class j) f h done g k)
  jump_done j executes = at_counts r executes
    where
      at_counts : (r : Result Stepped F) → IfOk r (λ done. (counts : Counts) → Executes p x counts (meant p x.tables.now f.newest.method.class j) f h done g k)
          → IfOk r (λ done. Executes p x counts (meant p x.tables.now f.newest.method.class j) f h done g k)
      at_counts (Ok done) e = e counts
      at_counts (Err e) executes = tt

-- ---- rows

module _ {E : Type 0} (p : Program) (x : RunTables E) (one : Instr) (f u g : Framed E) (h v k : Heaped) where
  row_done : (way : Way) (done : Stepped) → Follows E → IsHere one → Within x.tables.now one
      → Runs x.tables.now x.shapes.now one f.newest h way u.newest v → u.below ≡ f.below
      → IsQuiet done → Settles x.marks.now p way u v done g k → (counts : Counts) → Executes p x counts (meant p x.tables.now f.newest.method.class one) f h done g k
  row_done way done law here within runs below quiet settles counts r plan s things constants marked depth counted top seen =
      by_meaning (means p x.tables.now f.newest.method.class one here within)
    where
      T : Store ℕ
      T = store_by p x.shapes.now things constants k

      by_meaning : Means (meant p x.tables.now f.newest.method.class one)
          → CameTo r p plan s f done g T (executed r p plan s f.newest f.below (meant p x.tables.now f.newest.method.class one))
          (asked_by r.side p plan s f.newest f.below (meant p x.tables.now f.newest.method.class one)) (meant p x.tables.now f.newest.method.class one)
      by_meaning (i, stands, basic) =
          let l = leaves way [] u.newest (store_by p x.shapes.now things constants v) in
          let own = own_fields p f.newest.method in
          let P : Store ℕ → Type 0 = λ t.
          Comes f.newest t (doing r (site r p plan s f.newest f.below) own t (entries r p plan s (all f)) s.running.inherited i f.newest) l in
          let comes : P s.store = subst P (sym seen)
          (runs p f.newest.method.class things constants i stands r (site r p plan s f.newest f.below) own (entries r p plan s (all f)) s.running.inherited) in
          let made = doing r (site r p plan s f.newest f.below) own s.store (entries r p plan s (all f)) s.running.inherited i f.newest in
          let came : executed r p plan s f.newest f.below (Some i) ≡ behind r p plan s f.below way l = law r p plan s f.newest f.below made l comes in
          let same : IsRaising way → s.store ≡ store_by p x.shapes.now things constants v = λ raising. sym (comes_same f.newest s.store made l raising comes) in
          let Q : List (FrameOf ℕ E) → Type 0 = λ fs. SteppedAs r p plan s done g T (behind r p plan s fs way l) in
          let R : Outcome (State ℕ E) → Type 0 = λ o. SteppedAs r p plan s done g T o in
          let O : Option Instruction → Type 0 = λ o. CameTo r p plan s f done g T (executed r p plan s f.newest f.below o)
          (asked_by r.side p plan s f.newest f.below o) o in
          subst O (sym stands)
          (quiet_came r p plan s f done g T (executed r p plan s f.newest f.below (Some i)) (asked_by r.side p plan s f.newest f.below (Some i)) (Some i) quiet
          (subst R (sym came) (subst Q below (settles r plan s x.shapes.now things constants marked same))) (basic_asks p plan s f r.side i basic))

  pub all_done : {F : Type 0} (r : Result Stepped F) (way : Way) → Follows E → IsHere one → Within x.tables.now one
      → Runs x.tables.now x.shapes.now one f.newest h way u.newest v → u.below ≡ f.below
      → IfOk r IsQuiet → IfOk r (λ done. Settles x.marks.now p way u v done g k)
      → IfOk r (λ done. (counts : Counts) → Executes p x counts (meant p x.tables.now f.newest.method.class one) f h done g k)
  all_done (Ok done) way law here within runs below quiet settles = row_done way done law here within runs below quiet settles
  all_done (Err e) way law here within runs below quiet settles = tt

-- ---- returns

quiet_left : (way : Leaving) → IsQuiet (left_as way)
quiet_left leaving.Resumed = tt
quiet_left leaving.Ends = tt
quiet_left leaving.Stuck = tt

module _ {E : Type 0} where
  one_returns : (case kind : Returned) (h : Heaped) (counts : Counts) (marks : List E) (f g : Framed E) (way : Leaving) → kind ≡ case
      → Returns case marks f way g → ReturnsAs kind h counts marks f way g
  one_returns case kind h counts marks f g way e is r p plan s shapes things constants marked seen counted = rw e (is r p plan s marked)

  pub returns_any : {F : Type 0} (r : Result Leaving F) (case kind : Returned) (h : Heaped) (counts : Counts) (marks : List E) (f g : Framed E) → kind ≡ case
      → IfOk r (λ way. Returns case marks f way g) → IfOk r (λ way. ReturnsAs kind h counts marks f way g)
  returns_any (Ok way) case kind h counts marks f g e is = one_returns case kind h counts marks f g way e is
  returns_any (Err x) case kind h counts marks f g e is = tt

  left_settles : (r : Rules ℕ E) (p : Program) (plan : Plan) (s : State ℕ E) (way : Leaving) (g : Framed E) (t : Store ℕ) (o : Outcome (State ℕ E))
      → s.store ≡ t → LeftAs r p plan s way g o → SteppedAs r p plan s (left_as way) g t o
  left_settles r p plan s leaving.Resumed g t o e is = is ∙ ap (λ (u : Store ℕ). went r p plan s (all g) u []) e
  left_settles r p plan s leaving.Ends g t o e is = is ∙ ap (λ (u : Store ℕ). ended plan.schedule s u false []) e
  left_settles r p plan s leaving.Stuck g t o e is = is

  pub return_done : (x : RunTables E) (counts : Counts) (kind : Returned) (f g : Framed E) (h : Heaped) (way : Leaving) (done : Stepped) → done ≡ left_as way
      → ReturnsAs kind h counts x.marks.now f way g → (p : Program) → Executes p x counts (Some (Return kind)) f h done g h
  return_done x counts kind f g h way done e is p r plan s things constants marked depth counted top seen =
      let t = store_by p x.shapes.now things constants h in
      let o = executed r p plan s f.newest f.below (Some (Return kind)) in
      rw e (quiet_came r p plan s f (left_as way) g t o None (Some (Return kind)) (quiet_left way)
      (left_settles r p plan s way g t o seen (is r p plan s x.shapes.now things constants marked seen counted)) refl)

  pub return_stood : (classes : ℕ) (f g : Framed E) (way : Leaving) (done : Stepped) → done ≡ left_as way → StaysStanding f g → Stand classes (all f)
      → StoodAs classes done g
  return_stood classes f g leaving.Resumed done e stays s = rw e (stays classes (s.0.class, s.1))
  return_stood classes f g leaving.Ends done e stays s = rw e tt
  return_stood classes f g leaving.Stuck done e stays s = rw e tt

-- ---- throws

abbrev wanted : List Want
wanted = Fits throwable ∷ []

module _ {E : Type 0} (w : World) (s : Store ℕ) (f : FrameOf ℕ E) where
  abbrev thrown_by : Option (Taken ℕ) → Option (Doing ℕ E)
  thrown_by t = option_and_then (λ (u : Taken ℕ). option_map (λ (y : Row ℕ E). record { frame = with_operands f u.below; row = y }) (throw u.values)) t

  unserved : (o : Option (Taken ℕ)) (way : Way) (l : Way) → is_some o ≡ false → Comes f s (thrown_by o) (leaves ways.Stuck [] f s)
  unserved None way l e = refl
  unserved (Some t) way l e = cc

  no_ref : (ops : List (Value ℕ)) → ref_in (slice_get ops 0) ≡ None → Comes f s (thrown_by (taken w s wanted ops)) (leaves ways.Stuck [] f s)
  unfolding taken throw
  no_ref [] e = refl
  no_ref (Int n ∷ rest) e = by (serves w s (Fits throwable) (Int n))
    where
      by : (b : Bool) → Comes f s (thrown_by (if b then option_map (with_value (Int n)) (Some (record { values = []; below = rest })) else None)) (leaves ways.Stuck [] f s)
      by true = refl
      by false = refl
  no_ref (Long n ∷ rest) e = by (serves w s (Fits throwable) (Long n))
    where
      by : (b : Bool) → Comes f s (thrown_by (if b then option_map (with_value (Long n)) (Some (record { values = []; below = rest })) else None)) (leaves ways.Stuck [] f s)
      by true = refl
      by false = refl
  no_ref (Ctx n ∷ rest) e = by (serves w s (Fits throwable) (Ctx n))
    where
      by : (b : Bool) → Comes f s (thrown_by (if b then option_map (with_value (Ctx n)) (Some (record { values = []; below = rest })) else None)) (leaves ways.Stuck [] f s)
      by true = refl
      by false = refl
  no_ref (Ref n ∷ rest) e = cc

  null_ref : (ops : List (Value ℕ)) → ref_in (slice_get ops 0) ≡ Some 0 → is_some (taken w s wanted ops) ≡ true
      → Comes f s (thrown_by (taken w s wanted ops)) (leaves (ways.Raises (lib.Thrown thrown_classes.NullPointerException)) [] f s)
  unfolding taken throw
  null_ref [] e serve = cc
  null_ref (Int n ∷ rest) e serve = cc
  null_ref (Long n ∷ rest) e serve = cc
  null_ref (Ctx n ∷ rest) e serve = cc
  null_ref (Ref n ∷ rest) e serve =
      let same : n ≡ 0 = cc in
      let null : Value ℕ = Ref 0 in
      let P : ℕ → Type 0 = λ m. is_some (if serves w s (Fits throwable) (Ref m) then option_map (with_value (Ref m)) (Some (record { values = []; below = rest })) else None) ≡ true in
      let Q : ℕ → Type 0 = λ m. Comes f s (thrown_by (if serves w s (Fits throwable) (Ref m) then option_map (with_value (Ref m)) (Some (record { values = []; below = rest })) else None))
      (leaves (ways.Raises (lib.Thrown thrown_classes.NullPointerException)) [] f s) in
      subst Q (sym same) (by (serves w s (Fits throwable) null) (subst P same serve))
    where
      by : (b : Bool) → is_some (if b then option_map (with_value (Ref 0)) (Some (record { values = []; below = rest })) else None) ≡ true
          → Comes f s (thrown_by (if b then option_map (with_value (Ref 0)) (Some (record { values = []; below = rest })) else None))
          (leaves (ways.Raises (lib.Thrown thrown_classes.NullPointerException)) [] f s)
      by true e = (refl, refl, refl, refl, refl, refl)
      by false e = cc

  -- an object that serves
  some_ref : (ops : List (Value ℕ)) (n : ℕ) → ref_in (slice_get ops 0) ≡ Some (suc n) → is_some (taken w s wanted ops) ≡ true
      → (serves w s (Fits throwable) (Ref (suc n)) ≡ true) × Comes f s (thrown_by (taken w s wanted ops)) (leaves (ways.Throws (suc n)) [] f s)
  unfolding taken throw
  some_ref [] n e serve = absurd cc
  some_ref (Int m ∷ rest) n e serve = absurd cc
  some_ref (Long m ∷ rest) n e serve = absurd cc
  some_ref (Ctx m ∷ rest) n e serve = absurd cc
  some_ref (Ref m ∷ rest) n e serve =
      let same : m ≡ suc n = cc in
      let P : ℕ → Type 0 = λ o. is_some (if serves w s (Fits throwable) (Ref o) then option_map (with_value (Ref o)) (Some (record { values = []; below = rest })) else None) ≡ true in
      let Q : ℕ → Type 0 = λ o. Comes f s (thrown_by (if serves w s (Fits throwable) (Ref o) then option_map (with_value (Ref o)) (Some (record { values = []; below = rest })) else None))
      (leaves (ways.Throws (suc n)) [] f s) in
      let both = by (serves w s (Fits throwable) (Ref (suc n))) (subst P same serve) in
      (both.0, subst Q (sym same) both.1)
    where
      by : (b : Bool) → is_some (if b then option_map (with_value (Ref (suc n))) (Some (record { values = []; below = rest })) else None) ≡ true
          → (b ≡ true) × Comes f s (thrown_by (if b then option_map (with_value (Ref (suc n))) (Some (record { values = []; below = rest })) else None))
          (leaves (ways.Throws (suc n)) [] f s)
      by true e = (refl, (refl, refl, refl, refl, refl))
      by false e = absurd cc

module _ {E : Type 0} (law : Follows E) (p : Program) (x : RunTables E) (counts : Counts) (f : Framed E) (h : Heaped) where
  -- a throw does nothing to the frames but what is left to do
  thrown_executes : (way : Way) (r : Rules ℕ E) (plan : Plan) (s : State ℕ E)
      → Comes f.newest s.store (thrown_by (world p) s.store f.newest (taken (world p) s.store wanted f.newest.operands)) (leaves way [] f.newest s.store)
      → executed r p plan s f.newest f.below (Some Throw) ≡ behind r p plan s f.below way (leaves way [] f.newest s.store)
  unfolding doing
  thrown_executes way r plan s comes = law r p plan s f.newest f.below _ (leaves way [] f.newest s.store) comes

  pub throw_unserved : (b : Bool) → b ≡ false → ServesThrown p x.shapes.now counts h f.newest.operands b → Executes p x counts (Some Throw) f h steps.Stuck f h
  throw_unserved b isnt serve r plan s things constants marked depth counted top seen =
      let none : is_some (taken (world p) s.store wanted f.newest.operands) ≡ false =
      ap (λ (t : Store ℕ). is_some (taken (world p) t wanted f.newest.operands)) seen ∙ serve things constants counted ∙ isnt in
      record {
        outcome = thrown_executes ways.Stuck r plan s
            (unserved (world p) s.store f.newest (taken (world p) s.store wanted f.newest.operands) ways.Stuck ways.Stuck none);
        asked = refl;
        reached = tt;
      }

  pub throw_no_ref : (n : Option ℕ) → n ≡ None → n ≡ ref_in (slice_get f.newest.operands 0) → Executes p x counts (Some Throw) f h steps.Stuck f h
  throw_no_ref n none is r plan s things constants marked depth counted top seen =
      record { outcome = thrown_executes ways.Stuck r plan s (no_ref (world p) s.store f.newest f.newest.operands (sym is ∙ none)); asked = refl; reached = tt }

  served : (b : Bool) → b ≡ true → ServesThrown p x.shapes.now counts h f.newest.operands b → (s : Store ℕ) (things : Things) (constants : List (List ℕ × ℕ))
      → AreCounted counts things → s ≡ store_by p x.shapes.now things constants h → is_some (taken (world p) s wanted f.newest.operands) ≡ true
  served b so serve s things constants counted seen =
      ap (λ (t : Store ℕ). is_some (taken (world p) t wanted f.newest.operands)) seen ∙ serve things constants counted ∙ so

  module _ (b : Bool) (so : b ≡ true) (serve : ServesThrown p x.shapes.now counts h f.newest.operands b) where
    null_done : (n : ℕ) (g : Framed E) (k : Heaped) (done : Stepped) → Some n ≡ ref_in (slice_get f.newest.operands 0) → n ≡ 0 → IsQuiet done
        → RaisesAs x.marks.now p thrown_classes.NullPointerException f h done g k → Executes p x counts (Some Throw) f h done g k
    null_done n g k done is null quiet raises r plan s things constants marked depth counted top seen =
        let first : ref_in (slice_get f.newest.operands 0) ≡ Some 0 = sym is ∙ ap (λ (m : ℕ). Some m) null in
        let P : Outcome (State ℕ E) → Type 0 = λ o. SteppedAs r p plan s done g (store_by p x.shapes.now things constants k) o in
        quiet_came r p plan s f done g (store_by p x.shapes.now things constants k) (executed r p plan s f.newest f.below (Some Throw)) None (Some Throw) quiet
        (subst P (sym (thrown_executes (ways.Raises (lib.Thrown thrown_classes.NullPointerException)) r plan s
        (null_ref (world p) s.store f.newest f.newest.operands first (served b so serve s.store things constants counted seen))))
        (raises r plan s x.shapes.now things constants marked seen)) refl

    pub throw_null : {F : Type 0} (r : Result Stepped F) (n : ℕ) (g : Framed E) (k : Heaped) → Some n ≡ ref_in (slice_get f.newest.operands 0) → n ≡ 0
        → IfOk r IsQuiet → IfOk r (λ done. RaisesAs x.marks.now p thrown_classes.NullPointerException f h done g k)
        → IfOk r (λ done. Executes p x counts (Some Throw) f h done g k)
    throw_null (Ok done) n g k is null quiet raises = null_done n g k done is null quiet raises
    throw_null (Err e) n g k is null quiet raises = tt

    false_true : false ≡ true → ⊥
    false_true e = cc

    -- the object that is thrown is no array
    no_array : SeesEach → ((a : ArrayType) → fits (world p) (types.Array a) throwable ≡ false) → (n a : ℕ) (things : Things) (constants : List (List ℕ × ℕ))
        → serves (world p) (store_by p x.shapes.now things constants h) (Fits throwable) (Ref (suc n)) ≡ true → kind_at h (suc n) ≡ Some (kinds.Array a) → ⊥
    no_array sees law n a things constants serves is = by_object (heaps.object_at h (suc n)) refl is
      where
        by_object : (o : Option heaps.Object) → heaps.object_at h (suc n) ≡ o → option_map (λ (y : heaps.Object). y.kind) o ≡ Some (kinds.Array a) → ⊥
        by_object None at e = cc
        by_object (Some y) at e =
            let kind : y.kind ≡ kinds.Array a = cc in
            let found = sees p x.shapes.now things constants h (suc n) ∙ ap (option_map (object_by p x.shapes.now h.objects things)) at in
            let P : Option (Object ℕ) → Type 0 = λ o. serves_as (world p) (Fits throwable) (found_type (world p) o) ≡ true in
            let Q : Kind → Type 0 = λ k.
            serves_as (world p) (Fits throwable) (found_type (world p) (Some (kind_by p x.shapes.now h.objects things k y.cells))) ≡ true in
            false_true (sym (law (array_named p (array_at x.shapes.now a))) ∙ subst Q kind (subst P found serves))

    suc_done : SeesEach → ((a : ArrayType) → fits (world p) (types.Array a) throwable ≡ false) → (n : ℕ) (g : Framed E) (done : Stepped)
        → Some (suc n) ≡ ref_in (slice_get f.newest.operands 0) → IsQuiet done
        → ThrowsAs x.marks.now p (suc n) f h done g → Executes p x counts (Some Throw) f h done g h
    suc_done sees arrays n g done is quiet throws r plan s things constants marked depth counted top seen =
        let both = some_ref (world p) s.store f.newest f.newest.operands n (sym is) (served b so serve s.store things constants counted seen) in
        let P : Store ℕ → Type 0 = λ t. serves (world p) t (Fits throwable) (Ref (suc n)) ≡ true in
        let object : (a : ℕ) → kind_at h (suc n) ≡ Some (kinds.Array a) → ⊥ = λ a. no_array sees arrays n a things constants (subst P seen both.0) in
        let settled = throws r plan s x.shapes.now things constants marked seen object in
        let Q : Store ℕ → Type 0 = λ t. SteppedAs r p plan s done g t (thrown_at r p plan s (all f) s.store [] (suc n)) in
        let R : Outcome (State ℕ E) → Type 0 = λ o. SteppedAs r p plan s done g (store_by p x.shapes.now things constants h) o in
        quiet_came r p plan s f done g (store_by p x.shapes.now things constants h) (executed r p plan s f.newest f.below (Some Throw)) None (Some Throw) quiet
        (subst R (sym (thrown_executes (ways.Throws (suc n)) r plan s both.1)) (subst Q seen settled)) refl

    object_done : SeesEach → ((a : ArrayType) → fits (world p) (types.Array a) throwable ≡ false) → (n : ℕ) (g : Framed E) (done : Stepped)
        → Some n ≡ ref_in (slice_get f.newest.operands 0) → (n ≡ 0 → ⊥) → IsQuiet done
        → ThrowsAs x.marks.now p n f h done g → Executes p x counts (Some Throw) f h done g h
    object_done sees arrays zero g done is some quiet throws = absurd (some refl)
    object_done sees arrays (suc n) g done is some quiet throws = suc_done sees arrays n g done is quiet throws

    pub throw_object : {F : Type 0} → SeesEach → ((a : ArrayType) → fits (world p) (types.Array a) throwable ≡ false) → (r : Result Stepped F) (n : ℕ)
        (g : Framed E) → Some n ≡ ref_in (slice_get f.newest.operands 0) → (n ≡ 0 → ⊥)
        → IfOk r IsQuiet → IfOk r (λ done. ThrowsAs x.marks.now p n f h done g) → IfOk r (λ done. Executes p x counts (Some Throw) f h done g h)
    throw_object sees arrays (Ok done) n g is some quiet throws = object_done sees arrays n g done is some quiet throws
    throw_object sees arrays (Err e) n g is some quiet throws = tt
