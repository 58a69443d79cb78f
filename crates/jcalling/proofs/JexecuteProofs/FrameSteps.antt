-- A step of a thread's frames, by where the row of its instruction is found.
use Rattle.std.proofs.Common.{◌≡◌, ◌⊎◌, ◌<◌, ◌+◌, ◌^◌, ℕ, List, None, sym, subst, inl, inr}
use Rattle.std.specs.Prelude.{IfOk, Ok, OnOk, Err, Result}
use Rattle.jmemory.specs.jheap.Heaps.{Heaped, Object}
use Rattle.jresolution.specs.jprogram.ProgramClasses.{Program}
use Rattle.jresolution.specs.juses.IndexedInstructions.{instruction_at}
use Rattle.jsemantics.specs.jmachine.MachineStates.{FrameOf}
use Rattle.jsemantics.specs.jmachine.AccessQueries.{asks}
use Rattle.jsemantics.specs.jmachine.MachineSteps.{fetched, step}
use Rattle.jready.specs.declared.instr.Instr.{Instr}
use Rattle.jready.specs.declared.instr.Instr.TheVariants as instr
use Rattle.jready.specs.DecodedInstructions.{meant}
use Rattle.jruntime.specs.jstate.ObjectCells.{AreCelled, StayCelled}
use Rattle.jruntime.specs.declared.jstate.shapes.Shapes.{Shapes}
use Rattle.jruntime.specs.jstate.FrameLists.{Framed, all}
use Rattle.jruntime.specs.jstate.HeapMeanings.{Things, store_by}
use Rattle.jrows.specs.declared.jcalls.ready.Counts.{Counts}
use Rattle.jrows.specs.jcalls.FrameMarks.{AreStanding, Stand}
use Rattle.jrows.specs.jcalls.Readiness.{AreCounted}
use Rattle.jserving.specs.jinvoke.InvokeLaws.{StepsAt}
use Rattle.jstepping.specs.declared.jstep.run_tables.RunTables.{RunTables}
use Rattle.jstepping.specs.declared.jstep.outcomes.Stepped.{Stepped}
use Rattle.jstepping.specs.declared.jstep.outcomes.Stepped.TheVariants as steps
use Rattle.jstepping.specs.jstep.StepRelation.{Steps, StepsAlike}
use Rattle.jcalling.specs.jexecute.FrameSteps.{Advances, Fetches, IsThere}
use Rattle.jcalling.proofs.JexecuteProofs.RowOutcomes.{asks_fetched, came_quietly}

module _ {E : Type 0} (p : Program) (x : RunTables E) (f : Framed E) (one : Instr) (fetches : Fetches p x f.newest one) where
  -- an instruction may stand behind this one
  pub all_stand : (classes : ℕ) → AreStanding classes f → (one ≡ instr.Off → ⊥) → Stand classes (all f)
  all_stand classes stand some = by_next fetches.next
    where
      by_next : (one ≡ instr.Off) ⊎ (f.newest.place + 1 < 2 ^ 32) → Stand classes (all f)
      by_next (inl off) = absurd (some off)
      by_next (inr place) = (record { class = stand.0; place = place }, stand.1)

  -- nothing stands there
  pub off_advances : StepsAt E → one ≡ instr.Off → (counts : Counts) (constants : List (List ℕ × ℕ)) (h : Heaped)
      → Advances p x counts constants f h steps.Stuck constants f h
  unfolding meant
  off_advances law off counts constants h r plan s things marked at =
      let N : Instr → Type 0 = λ i. meant p x.tables.now f.newest.method.class i ≡ fetched p f.newest.method f.newest.place in
      let is : None ≡ fetched p f.newest.method f.newest.place = subst N off fetches.means in
      let t = store_by p x.shapes.now things constants h in
      came_quietly r p plan s f f t (step r p plan s) (asks r.side p plan s) (instruction_at p f.newest.method f.newest.place) steps.Stuck tt
      (asks_fetched r.side p plan s f None at.frames is) (law r p plan s f None at.frames is)

-- it isn't a load, a step with references or none
module _ {E F : Type 0} (p : Program) (x : RunTables E) (counts : Counts) (f g : Framed E) (h k : Heaped) where
  pub others_advance : (r : Result Stepped F) (before after : List (List ℕ × ℕ)) → before ≡ after → IfOk r (λ done. Steps p x counts f h done g k)
      → IfOk r (λ done. Advances p x counts before f h done after g k)
  others_advance (Ok done) before after same steps_so =
      let P : List (List ℕ × ℕ) → Type 0 = λ c. Advances p x counts before f h done c g k in
      subst P same (λ r plan s things marked at. steps_so r plan s things before marked at.depth at.counted at.frames at.store)
  others_advance (Err e) before after same steps_so = tt

pub is_there : (one : Instr) → IsThere one → one ≡ instr.Off → ⊥
is_there one there off = subst IsThere off there

-- ---- by a program that is the same

pub fetches_same : {E : Type 0} (q p : Program) (x : RunTables E) (f : FrameOf ℕ E) (one two : Instr) → q ≡ p → one ≡ two → Fetches p x f one → Fetches q x f two
fetches_same q p x f one two same is fetches =
    subst (λ (i : Instr). Fetches q x f i) is (subst (λ (a : Program). Fetches a x f one) (sym same) fetches)

module _ {E F : Type 0} (r : Result Stepped F) (q p : Program) (same : q ≡ p) (x : RunTables E) (counts : Counts) (f g : Framed E) (h k : Heaped) where
  pub load_there : (before after : List (List ℕ × ℕ)) → IfOk r (λ done. (counts : Counts) → Advances q x counts before f h done after g k)
      → IfOk r (λ done. Advances p x counts before f h done after g k)
  load_there before after row = by_result r row
    where
      by_result : (r : Result Stepped F) → IfOk r (λ done. (counts : Counts) → Advances q x counts before f h done after g k)
          → IfOk r (λ done. Advances p x counts before f h done after g k)
      by_result (Ok done) row = subst (λ (a : Program). Advances a x counts before f h done after g k) same (row counts)
      by_result (Err e) row = tt

  pub refs_there : (constants : List (List ℕ × ℕ)) → IfOk r (λ done. (constants : List (List ℕ × ℕ)) → Advances q x counts constants f h done constants g k)
      → IfOk r (λ done. Advances p x counts constants f h done constants g k)
  refs_there constants row = by_result r row
    where
      by_result : (r : Result Stepped F) → IfOk r (λ done. (constants : List (List ℕ × ℕ)) → Advances q x counts constants f h done constants g k)
          → IfOk r (λ done. Advances p x counts constants f h done constants g k)
      by_result (Ok done) row = subst (λ (a : Program). Advances a x counts constants f h done constants g k) same (row constants)
      by_result (Err e) row = tt

module _ {F : Type 0} (r : Result Stepped F) (q p : Program) (same : q ≡ p) (shapes : Shapes) (counts : Counts) (before after : List Object) where
  pub alike_there : IfOk r (λ done. (things : Things) → AreCounted counts things → StepsAlike q shapes things done before after)
      → IfOk r (λ done. (things : Things) → AreCounted counts things → StepsAlike p shapes things done before after)
  alike_there alike = by_result r alike
    where
      by_result : (r : Result Stepped F) → IfOk r (λ done. (things : Things) → AreCounted counts things → StepsAlike q shapes things done before after)
          → IfOk r (λ done. (things : Things) → AreCounted counts things → StepsAlike p shapes things done before after)
      by_result (Ok done) alike = λ things counted. subst (λ (a : Program). StepsAlike a shapes things done before after) same (alike things counted)
      by_result (Err e) alike = tt

  pub all_alike_there : IfOk r (λ done. (things : Things) → StepsAlike q shapes things done before after)
      → IfOk r (λ done. (things : Things) → AreCounted counts things → StepsAlike p shapes things done before after)
  all_alike_there alike = by_result r alike
    where
      by_result : (r : Result Stepped F) → IfOk r (λ done. (things : Things) → StepsAlike q shapes things done before after)
          → IfOk r (λ done. (things : Things) → AreCounted counts things → StepsAlike p shapes things done before after)
      by_result (Ok done) alike = λ things counted. subst (λ (a : Program). StepsAlike a shapes things done before after) same (alike things)
      by_result (Err e) alike = tt

-- ---- what is left

pub ok_celled : {S F : Type 0} (r : Result S F) (shapes : Shapes) (h k : Heaped) → AreCelled shapes h.objects → OnOk r (StayCelled h.objects k.objects)
    → OnOk r (AreCelled shapes k.objects)
ok_celled (Ok done) shapes h k celled stay = stay shapes celled
ok_celled (Err e) shapes h k celled stay = tt
