-- What a step came to that executed a call.
use Rattle.std.proofs.Common.{◌≡◌, ◌∙◌, ℕ, Bool, true, false, List, length, map, Option, Some, None, refl, sym, ap, subst}
use Rattle.std.specs.Prelude.{IfOk, Ok, Err, Result, option_and_then, option_map}
use Rattle.jmemory.specs.jheap.Heaps.{Heaped}
use Rattle.jresolution.specs.declared.jprogram.part.ClassRef.{ClassRef}
use Rattle.jresolution.specs.jprogram.ProgramClasses.{Program}
use Rattle.jtyping.specs.jrule.PoolEffects.{exchange}
use Rattle.jresolution.specs.declared.juses.meaning.InvokeKind.{InvokeKind}
use Rattle.jresolution.specs.declared.juses.meaning.InvokeKind.TheVariants as how
use Rattle.jresolution.specs.declared.juses.meaning.Span.{Span}
use Rattle.jresolution.specs.declared.juses.types.TypeRef.{TypeRef}
use Rattle.jresolution.specs.juses.IndexedInstructions.{Used}
use Rattle.jresolution.specs.juses.InstructionMeanings.{Call, CallMeaning, meant, spanned}
use Rattle.jresolution.specs.juses.PoolTables.{pool_at}
use Rattle.jresolution.specs.juses.InternedTypes.{class_named, named}
use Rattle.jsemantics.specs.declared.jmachine.plan.Plan.{Plan}
use Rattle.jsemantics.specs.jmachine.MachineStates.{NoStep, State}
use Rattle.jsemantics.specs.jmachine.AccessQueries.{asked_by, used_asks}
use Rattle.jsemantics.specs.jmachine.CallTargets.{Target, target}
use Rattle.jsemantics.specs.jmachine.InstructionActions.{doing, used}
use Rattle.jsemantics.specs.jmachine.TakenOperands.{Taken, taken}
use Rattle.jsemantics.specs.jmachine.Security.{Rules}
use Rattle.jsemantics.specs.jmachine.MachineSteps.{executed, site}
use Rattle.jsemantics.specs.jmachine.Store.{Store}
use Rattle.jsemantics.specs.jmachine.World.{world}
use Rattle.jready.specs.DecodedInstructions.{call_form}
use Rattle.jruntime.specs.jstate.FrameLists.{Framed}
use Rattle.jruntime.specs.jstate.HeapMeanings.{Things, store_by}
use Rattle.jrows.specs.declared.jcalls.calls.Called.{Called}
use Rattle.jrows.specs.declared.jcalls.ready.Counts.{Counts}
use Rattle.jrows.specs.jcalls.MethodCalls.{Takes, call_taken, calls, took}
use Rattle.jrows.specs.jcalls.Readiness.{AreCounted}
use Rattle.jserving.specs.jinvoke.Answers.{OwnerIs}
use Rattle.jserving.specs.jinvoke.InvokeOutcomes.{Invokes}
use Rattle.jserving.specs.jserve.CallOperandChecks.{IsCall, count_of}
use Rattle.jserving.specs.jserve.OperandChecks.{took_if}
use Rattle.jstepping.specs.declared.jstep.run_tables.RunTables.{RunTables}
use Rattle.jstepping.specs.declared.jstep.outcomes.Stepped.{Stepped}
use Rattle.jstepping.specs.declared.jstep.outcomes.Stepped.TheVariants as steps
use Rattle.jstepping.specs.jstep.HeapOperands.{ServesCall, TakesCall}
use Rattle.jstepping.specs.jstep.StepRelation.{CallCameTo, CallsLibrary, CameTo, ExecutesCall, IsFixed, ReachesAs, RunsAs, SettlesCall}

-- ---- operands that don't serve

module _ {E : Type 0} (r : Rules ℕ E) (p : Program) (plan : Plan) (s : State ℕ E) (f : Framed E) (c : CallMeaning) where
  untaken : (by : InvokeKind) → call_taken (world p) s.store ((world p).named f.newest.method.class) by c f.newest.operands ≡ None
      → executed r p plan s f.newest f.below (Some (Used (Call by c))) ≡ NoStep
  unfolding doing used exchange
  untaken how.Virtual none = rw none refl
  untaken how.Special none = rw none refl
  untaken how.Static none = rw none refl
  untaken how.Interface none = rw none refl
  untaken how.Init none = rw none refl

  untaken_asks : (by : InvokeKind) → call_taken (world p) s.store ((world p).named f.newest.method.class) by c f.newest.operands ≡ None
      → asked_by r.side p plan s f.newest f.below (Some (Used (Call by c))) ≡ None
  unfolding used_asks exchange
  untaken_asks how.Virtual none = rw none refl
  untaken_asks how.Special none = rw none refl
  untaken_asks how.Static none = rw none refl
  untaken_asks how.Interface none = rw none refl
  untaken_asks how.Init none = rw none refl

  -- a call whose operands serve came to what it reaches
  came_to : (by : InvokeKind) (n : ℕ) (done : Stepped) (g : Framed E) (t : Store ℕ) → Takes p s by c n f → CallCameTo r p plan s f n done g t (calls r p plan s f by c)
      → CameTo r p plan s f done g t (executed r p plan s f.newest f.below (Some (Used (Call by c))))
      (asked_by r.side p plan s f.newest f.below (Some (Used (Call by c)))) (Some (Used (Call by c)))
  came_to by n done g t takes came = record { outcome = came.outcome; asked = came.asked; reached = reached done came.reached }
    where
      reaches : Option (Taken ℕ) → Option Target
      reaches o = option_and_then (λ (u : Taken ℕ). target (site r p plan s f.newest f.below) s.store by c u.values) o

      reached : (done : Stepped) → RunsAs done n (calls r p plan s f by c).reached → ReachesAs r p plan s f done (Some (Used (Call by c)))
      reached steps.Went runs = tt
      reached steps.Ended runs = tt
      reached (steps.Handled class) runs = tt
      reached (steps.Uncaught class) runs = tt
      reached (steps.Asks call m) runs =
          let P : ℕ → Type 0 = λ k. CallsLibrary r p plan s f call k (Some (Used (Call by c))) in
          subst P (sym runs.0) (record { by = by; called = c; is = refl; takes = takes; comes = sym (ap reaches takes) ∙ runs.1 })
      reached steps.Full runs = tt
      reached steps.Stuck runs = tt

-- ---- how many are taken

module _ {E : Type 0} (x : RunTables E) (counts : Counts) (h : Heaped) (f : Framed E) (by : InvokeKind) (owner : ClassRef) (params : Span) (types : List TypeRef)
    (are : types ≡ spanned x.ready.now.uses.types params) (b : Bool)
    (serve : ServesCall x.ancestors.now x.shapes.now counts h f by owner types b) where
  as_spanned : (c : CallMeaning) → IsCall x.ancestors.now owner (spanned x.ready.now.uses.types params) c → IsCall x.ancestors.now owner types c
  as_spanned c call = let P : List TypeRef → Type 0 = λ ts. IsCall x.ancestors.now owner ts c in subst P (sym are) call

  pub none_taken : b ≡ false → TakesCall x counts h f by owner params None
  none_taken isnt things constants c counted call =
      serve things constants c counted (as_spanned c call)
      ∙ ap (took_if (count_of by (length types)) f.newest.operands) isnt

  pub some_taken : (count : ℕ) → b ≡ true → count ≡ count_of by (length types) → TakesCall x counts h f by owner params (Some count)
  some_taken count so is things constants c counted call =
      serve things constants c counted (as_spanned c call)
      ∙ ap (took_if (count_of by (length types)) f.newest.operands) so
      ∙ ap (λ (n : ℕ). Some (took n f.newest.operands)) (sym is)

-- ---- the step

module _ {E : Type 0} (p : Program) (x : RunTables E) (counts : Counts) (by : InvokeKind) (pool : ℕ) (params : Span) (f : Framed E) (h : Heaped) (fixed : IsFixed p x) where
  call_of : (owner : ClassRef) (o : Option ClassRef) (class : ℕ) → class ≡ f.newest.method.class → o ≡ Some owner → OwnerIs p class by pool o → (c : CallMeaning)
      → meant p (pool_at p f.newest.method.class) (call_form by pool) ≡ Some (Call by c)
      → c.params ≡ map (named p) (spanned x.ready.now.uses.types params) → IsCall p owner (spanned x.ready.now.uses.types params) c
  call_of owner o class same is law c means taken =
      let A : ℕ → Type 0 = λ n. OwnerIs p n by pool o in
      let found = subst A same law by c means in
      let one : found.0 ≡ owner = cc in
      record { owned = found.2 ∙ ap (class_named p) one; taken = taken }

  pub call_unowned : (o : Option ClassRef) (class : ℕ) (g : Framed E) → class ≡ f.newest.method.class → o ≡ None → OwnerIs p class by pool o
      → ExecutesCall p x counts by pool params f h steps.Stuck g h
  call_unowned o class g same none law c means taken =
      let A : ℕ → Type 0 = λ n. OwnerIs p n by pool o in
      let found = subst A same law by c means in
      absurd (no_owner found.0 found.1)
    where
      no_owner : (owner : ClassRef) → o ≡ Some owner → ⊥
      no_owner owner e = cc

  module _ (owner : ClassRef) (o : Option ClassRef) (class : ℕ) (same : class ≡ f.newest.method.class) (is : o ≡ Some owner) (law : OwnerIs p class by pool o)
      (count : Option ℕ) (takes : TakesCall x counts h f by owner params count) where
    -- what is taken of the operands
    taken_is : (s : Store ℕ) (things : Things) (constants : List (List ℕ × ℕ)) (c : CallMeaning) → AreCounted counts things
        → s ≡ store_by p x.shapes.now things constants h → meant p (pool_at p f.newest.method.class) (call_form by pool) ≡ Some (Call by c)
        → c.params ≡ map (named p) (spanned x.ready.now.uses.types params)
        → call_taken (world p) s ((world p).named f.newest.method.class) by c f.newest.operands ≡ option_map (λ n. took n f.newest.operands) count
    taken_is s things constants c counted seen means taken =
        let P : Program → Type 0 = λ q. AreCounted counts things → IsCall q owner (spanned x.ready.now.uses.types params) c
        → call_taken (world q) (store_by q x.shapes.now things constants h) ((world q).named f.newest.method.class) by c f.newest.operands
        ≡ option_map (λ n. took n f.newest.operands) count in
        ap (λ (t : Store ℕ). call_taken (world p) t ((world p).named f.newest.method.class) by c f.newest.operands) seen
        ∙ subst P fixed.ancestors (takes things constants c) counted (call_of owner o class same is law c means taken)

    pub call_untaken : (g : Framed E) → count ≡ None → ExecutesCall p x counts by pool params f h steps.Stuck g h
    call_untaken g none c means taken r plan s things constants marked depth counted top seen =
        let nothing : call_taken (world p) s.store ((world p).named f.newest.method.class) by c f.newest.operands ≡ None =
        taken_is s.store things constants c counted seen means taken ∙ ap (option_map (λ n. took n f.newest.operands)) none in
        record { outcome = untaken r p plan s f c by nothing; asked = untaken_asks r p plan s f c by nothing; reached = tt }

    call_done : (n : ℕ) (way : Called) (u g : Framed E) (k : Heaped) (done : Stepped) → count ≡ Some n
        → Invokes p by pool x.marks.now h n x.depth f way u → SettlesCall x.marks.now p way n u h done g k
        → ExecutesCall p x counts by pool params f h done g k
    call_done n way u g k done some invokes settles c means taken r plan s things constants marked depth counted top seen =
        let takes_n : Takes p s by c n f =
        taken_is s.store things constants c counted seen means taken ∙ ap (option_map (λ n. took n f.newest.operands)) some in
        came_to r p plan s f c by n done g (store_by p x.shapes.now things constants k) takes_n
        (settles r plan s x.shapes.now things constants f (calls r p plan s f by c) marked top seen
        (invokes r plan s x.shapes.now things constants c means marked seen depth takes_n))

    pub all_called : {F : Type 0} (r : Result Stepped F) (n : ℕ) (way : Called) (u g : Framed E) (k : Heaped) → count ≡ Some n
        → Invokes p by pool x.marks.now h n x.depth f way u → IfOk r (λ done. SettlesCall x.marks.now p way n u h done g k)
        → IfOk r (λ done. ExecutesCall p x counts by pool params f h done g k)
    all_called (Ok done) n way u g k some invokes settles = call_done n way u g k done some invokes settles
    all_called (Err e) n way u g k some invokes settles = tt
