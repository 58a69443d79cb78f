-- How a thread begins.
use Rattle.std.proofs.Common.{◌≡◌, ◌∙◌, inl, inr, ◌+◌, ◌<◌, ℕ, zero, suc, true, false, List, [], ◌∷◌, ◌++◌, length, Option, Some, None, refl, sym, ap, ap₂, arith, rules, le-leb}
use Rattle.std.specs.Prelude.{is_some, nat_le, option_map}
use Rattle.std.proofs.Math.Dec.{leb-zero}
use Rattle.std.proofs.lemmas.List.{length-map}
use Rattle.jmemory.specs.declared.jheap.cell.Kind.TheVariants as kinds
use Rattle.jmemory.specs.jheap.Heaps.{Heaped, Makes as MakesOne, made}
use Rattle.jlib.specs.declared.classes.LibClass.TheVariants as lib
use Rattle.jlib.specs.declared.classes.Thrown.{Thrown as ThrownClass}
use Rattle.jlib.specs.declared.side.Side.{Side}
use Rattle.jvalues.specs.declared.jops.value.Value.{Value}
use Rattle.jvalues.specs.declared.jops.value.Value.TheVariants.{Ref}
use Rattle.jclass.specs.declared.class.CodeBody.{CodeBody}
use Rattle.jresolution.specs.jprogram.ProgramClasses.{Program}
use Rattle.jresolution.specs.juses.IndexedInstructions.{code_at}
use Rattle.jsemantics.specs.declared.jmachine.plan.Plan.{Plan}
use Rattle.jsemantics.specs.jmachine.MachineStates.{NoStep, Outcome, State}
use Rattle.jsemantics.specs.jmachine.AccessQueries.{asked_on, asks}
use Rattle.jsemantics.specs.jmachine.CallTargets.{Fails, Pushes, Runs, Target, by_interface}
use Rattle.jsemantics.specs.jmachine.FrameOperations.{domain_of}
use Rattle.jsemantics.specs.jmachine.HeapObjects.{Object, Thrown}
use Rattle.jsemantics.specs.jmachine.Security.{Rules, handed}
use Rattle.jsemantics.specs.jmachine.MachineSteps.{acted, applied, begins, begun_on, first_done, first_row, step, step_at, thrown_at}
use Rattle.jsemantics.specs.jmachine.Store.{Store, object_at, paid, with_made}
use Rattle.jsemantics.specs.jmachine.Unwinding.{unwound, with_raised}
use Rattle.jsemantics.specs.jmachine.World.{world}
use Rattle.jruntime.specs.jstate.ObjectCells.{MadeStaysCelled, StayCelled, WantsAsClass}
use Rattle.jruntime.specs.jstate.FrameLists.{Framed, starting}
use Rattle.jruntime.specs.jstate.ClassNumbers.{GivesBack, thrown_number}
use Rattle.jruntime.specs.jstate.HeapMeanings.{AreBuilt, object_by, store_by}
use Rattle.jruntime.specs.jstate.HeapMeaningLaws.{MadeStaysBuilt, Makes}
use Rattle.jrows.proofs.JactsProofs.Costs.{unpaid}
use Rattle.jrows.specs.declared.jcalls.calls.Callee.{Callee}
use Rattle.jrows.specs.jcalls.Throws.{RaisedHeap, raising}
use Rattle.jrows.proofs.JcallsProofs.ThrownExceptions as throwing
use Rattle.jrows.proofs.JcallsProofs.ThrownExceptions.{last_object, one_longer, raised_store}
use Rattle.jlibcalls.specs.jcontexts.KeptContexts.{StayKept}
use Rattle.jlibcalls.specs.jcontexts.RunnableStarts.{AsksNothing, Begins, BeginsStanding, EndsUnbegun, FailsFirst, IsUnbegun, StuckUnbegun, begins_by, run_of}
use Rattle.jrows.proofs.JcallsProofs.MethodEntry.{begun_none, begun_some}
use Rattle.jlibcalls.proofs.JcontextsProofs.SnapshotStability.{raised_kept}

-- ---- where a thread begins

module _ {E : Type 0} (r : Rules ℕ E) (p : Program) (plan : Plan) (s : State ℕ E) where
  pub at_none : s.running.frames ≡ [] → step r p plan s ≡ begins r p plan s s.running.runnable
  unfolding step
  at_none none = ap (step_at r p plan s) none

  -- what a step comes to by what the call of `run` comes to
  abbrev after : ℕ → Option Target → Outcome (State ℕ E)
  after n None = NoStep
  after n (Some t) = first_done r p plan s (first_row r p plan s n t)

  on_object : (n : ℕ) (x : Option (Object ℕ)) → begun_on r p plan s n x ≡ after n (option_map (by_interface (world p) false (run_of r.side)) x)
  on_object n None = refl
  on_object n (Some x) = refl

  on_some : (n : ℕ) → (n ≡ 0 → ⊥) → begins r p plan s n ≡ begun_on r p plan s n (object_at s.store n)
  on_some zero some = absurd (some refl)
  on_some (suc n) some = refl

  step_after : (n : ℕ) (t : Option Target) → IsUnbegun n s → begins_by r.side p s.store n ≡ t → step r p plan s ≡ after n t
  step_after n t u is =
      at_none u.frames ∙ ap (begins r p plan s) u.runnable ∙ on_some n u.some ∙ on_object n (object_at s.store n) ∙ ap (after n) is

pub ends_unbegun : {E : Type 0} → EndsUnbegun E
ends_unbegun r p plan s none zero_is = at_none r p plan s none ∙ ap (begins r p plan s) zero_is

pub stuck_unbegun : {E : Type 0} → StuckUnbegun E
stuck_unbegun r p plan s n u (inl none) = step_after r p plan s n None u none
stuck_unbegun r p plan s n u (inr (call, runs)) = step_after r p plan s n (Some (Runs call)) u runs

pub asks_nothing : {E : Type 0} → AsksNothing E
unfolding asks
asks_nothing side p plan s none = ap (asked_on side p plan s) none

-- ---- a frame of `run`

module _ {E : Type 0} (c : Callee E) (n : ℕ) (inherited : Option ℕ) (side : Side) where
  -- the call of the method
  calls_so : (r : Rules ℕ E) (p : Program) (plan : Plan) (s : State ℕ E) → IsUnbegun n s → r.side ≡ side
      → begins_by side p s.store n ≡ Some (Pushes c.method) → step r p plan s ≡ after r p plan s n (Some (Pushes c.method))
  calls_so r p plan s u on is = step_after r p plan s n (Some (Pushes c.method)) u (ap (λ w. begins_by w p s.store n) on ∙ is)

  pub without_code : c.has_code ≡ false → Begins c n inherited side None
  unfolding applied acted
  without_code has r p plan s u kept on is begins_at =
      let code : option_map (λ (body : CodeBody). body.max_locals) (code_at p c.method) ≡ None = is.code ∙ rw has refl in
      calls_so r p plan s u on begins_at
      ∙ rw (leb-zero s.store.left, begun_none c.method (r.entry_of (domain_of p c.method)) (handed r.side s.running.inherited ++ Ref n ∷ []) (code_at p c.method) code) refl

  pub begins_so : (g : Framed E) (hs : List (Value ℕ)) → c.has_code ≡ true → hs ≡ handed side inherited
      → g ≡ record { newest = starting c.method c.most (hs ++ Ref n ∷ []) c.mark; below = [] } → Begins c n inherited side (Some g)
  unfolding applied acted
  begins_so g hs has are frames r p plan s u kept on is begins_at =
      let code : option_map (λ (body : CodeBody). body.max_locals) (code_at p c.method) ≡ Some c.most = is.code ∙ rw has refl in
      let values : handed r.side s.running.inherited ≡ hs = ap₂ (λ w k. handed w k) on kept ∙ sym are in
      calls_so r p plan s u on begins_at
      ∙ rw (
        leb-zero s.store.left,
        begun_some c.method (r.entry_of (domain_of p c.method)) (handed r.side s.running.inherited ++ Ref n ∷ []) c.most (code_at p c.method) code,
        values,
        ← is.mark,
        ← unpaid s.store,
        frames,
      ) refl

  pub begun_stands : (g : Framed E) (hs : List (Value ℕ)) → g ≡ record { newest = starting c.method c.most (hs ++ Ref n ∷ []) c.mark; below = [] }
      → BeginsStanding c (Some g)
  begun_stands g hs frames classes within = rw frames (within, tt)

-- ---- an exception

module _ (E : Type 0) (class : ThrownClass) (h k : Heaped) where
  -- it is raised where no frame is
  raised_first : (r : Rules ℕ E) (p : Program) (plan : Plan) (s : State ℕ E) (n : ℕ) → IsUnbegun n s
      → begins_by r.side p s.store n ≡ Some (Fails (lib.Thrown class)) → step r p plan s ≡ raising r p plan s [] [] (lib.Thrown class)
  unfolding applied acted
  raised_first r p plan s n u is = step_after r p plan s n (Some (Fails (lib.Thrown class))) u is

  pub full_first : h.left < 2 → FailsFirst E class h false k
  full_first few r p plan s shapes things constants n u seen is =
      let short : nat_le 2 s.store.left ≡ false = rw seen (search rules) in
      raised_first r p plan s n u is ∙ rw short refl

  pub uncaught_first : GivesBack → Makes → AreBuilt h.objects → (o : ℕ)
      → (2 < h.left + 1) × (o ≡ length h.objects + 1) × (k ≡ made h (kinds.Object (thrown_number class)) 1) → FailsFirst E class h true k
  unfolding unwound
  uncaught_first numbers law built o (few, number, made_is) r p plan s shapes things constants n u seen is =
      let S : Store ℕ = store_by p shapes things constants h in
      let T : Store ℕ = store_by p shapes things constants k in
      let made_so : T ≡ with_raised (paid 2 S) (lib.Thrown class) None = rw made_is (raised_store numbers law p shapes things constants h built class) in
      let enough : nat_le 2 s.store.left ≡ true = rw seen (le-leb 2 h.left (omega (arith, few))) in
      let count : length S.objects + 1 ≡ o = ap (λ m. m + 1) (length-map h.objects (object_by p shapes h.objects things)) ∙ sym number in
      let longer : length (with_raised (paid 2 S) (lib.Thrown class) None).objects ≡ o = one_longer S.objects (Thrown (lib.Thrown class) 0) ∙ count in
      let there : object_at T o ≡ Some (Thrown (lib.Thrown class) 0) =
      ap (λ t. object_at t o) made_so ∙ ap (object_at (with_made (paid 2 S) (Thrown (lib.Thrown class) 0))) (sym count)
      ∙ last_object (paid 2 S) (Thrown (lib.Thrown class) 0) in
      let outcome : raising r p plan s [] [] (lib.Thrown class) ≡ thrown_at r p plan s [] T [] o =
      rw enough (ap (λ t. thrown_at r p plan s [] (with_raised (paid 2 t) (lib.Thrown class) None) []
      (length (with_raised (paid 2 t) (lib.Thrown class) None).objects)) seen
      ∙ ap (λ m. thrown_at r p plan s [] (with_raised (paid 2 S) (lib.Thrown class) None) [] m) longer
      ∙ ap (λ t. thrown_at r p plan s [] t [] o) (sym made_so)) in
      raised_first r p plan s n u is ∙ outcome ∙ rw there refl

-- ---- by what the heap answers

module _ (class : ThrownClass) (number : ℕ) (same : number ≡ thrown_number class) (h k : Heaped) where
  so_many : (o : ℕ) → MakesOne (kinds.Object number) 1 h k (Some o)
      → (2 < h.left + 1) × (o ≡ length h.objects + 1) × (k ≡ made h (kinds.Object (thrown_number class)) 1)
  so_many o m = (m.0, m.1, m.2 ∙ ap (λ i. made h (kinds.Object i) 1) same)

  pub made_first : (E : Type 0) → GivesBack → Makes → AreBuilt h.objects → (o : Option ℕ) → MakesOne (kinds.Object number) 1 h k o → FailsFirst E class h (is_some o) k
  made_first E numbers law built None m = full_first E class h k m.0
  made_first E numbers law built (Some o) m = uncaught_first E class h k numbers law built o (so_many o m)

  pub made_heap : (o : Option ℕ) → MakesOne (kinds.Object number) 1 h k o → RaisedHeap class h k
  made_heap None m = inl m.1
  made_heap (Some o) m = inr (so_many o m).2

  pub made_kept : GivesBack → Makes → AreBuilt h.objects → (o : Option ℕ) → MakesOne (kinds.Object number) 1 h k o → StayKept h.objects k.objects
  made_kept numbers law built o m = raised_kept numbers law class h k built (made_heap o m)

  pub made_celled : MadeStaysCelled → WantsAsClass → (o : Option ℕ) → MakesOne (kinds.Object number) 1 h k o → StayCelled h.objects k.objects
  made_celled law wants None m = throwing.none_celled number h k None refl m
  made_celled law wants (Some o) m = throwing.made_celled law wants class number h k (Some o) o same refl m

pub made_built : MadeStaysBuilt → (number : ℕ) (h k : Heaped) (o : Option ℕ) → MakesOne (kinds.Object number) 1 h k o → AreBuilt h.objects → AreBuilt k.objects
made_built law number h k None m built = throwing.none_built number h k None refl m built
made_built law number h k (Some o) m built = throwing.made_built law number h k (Some o) o refl m built

-- What the exception that a thread begins with leaves.
pub ruleset failings = (made_first, made_heap, made_kept, made_built, made_celled)
