-- The beginning of a thread: `run` of its Runnable is given what the thread inherited, and the prologue's four steps follow.
use Rattle.std.proofs.Common.{◌≡◌, ℕ, zero, suc, ◌+◌, ◌<◌, true, false, List, [], ◌∷◌, ◌++◌, length, Option, Some, None, option_map, refl, sym, ap, ◌∙◌, subst, arith}
use Rattle.std.specs.Prelude.{nat_le, if◌then◌else◌}
use Rattle.std.proofs.lemmas.Bool.{le-leb}
use Rattle.jlib.specs.declared.side.Side.TheVariants.{Source, Passing}
use Rattle.jlib.specs.declared.classes.LibClass.{LibClass}
use Rattle.jvalues.specs.declared.jops.value.Value.TheVariants.{Ref, Ctx}
use Rattle.jtypes.specs.declared.vtype.VType.{VType}
use Rattle.joutput.specs.declared.jtrace.event.Event.{Event}
use Rattle.joutput.specs.declared.jtrace.event.Event.TheVariants.{Throw, Uncaught}
use Rattle.joutput.specs.declared.jtrace.event.End.TheVariants.{HeapFull}
use Rattle.jresolution.specs.declared.jprogram.member.MethodId.{MethodId}
use Rattle.jclass.specs.declared.class.CodeBody.{CodeBody}
use Rattle.jresolution.specs.juses.IndexedInstructions.{code_at}
use Rattle.jctx.specs.declared.item.Item.{Item}
use Rattle.jsemantics.specs.jmachine.MachineStates.{Act, Calls, Raises, Outcome, Went, Over, NoStep, free, raised_cells, raises}
use Rattle.jsemantics.specs.jmachine.CallTargets.{Target, Fails, Pushes, Runs, by_interface}
use Rattle.jsemantics.specs.jmachine.FrameOperations.{begun, domain_of, frame_of, locals_of, places_of}
use Rattle.jsemantics.specs.jmachine.HeapObjects.{Object, class_of}
use Rattle.jsemantics.specs.jmachine.Security.{handed}
use Rattle.jsemantics.specs.jmachine.MachineSteps.{acted, applied, begins, begun_on, first_done, first_row, pushed, raised, step, step_at, thrown}
use Rattle.jsemantics.specs.jmachine.Store.{Store, object_at, paid}
use Rattle.jsemantics.specs.jmachine.BasicInstructions.{local_at}
use Rattle.jsemantics.specs.jmachine.ThreadTurns.{ended, thread_of, with_running}
use Rattle.jsemantics.specs.jmachine.Unwinding.{told_name, unwound, with_raised}
use Rattle.jsemantics.specs.jmachine.World.{world}
use Rattle.jsimulation_laws.specs.between.BetweenMachines.{Noted, context_of, shadowed, sourced, unmarked}
use Rattle.jsimulation_laws.specs.relation.InstructionExpansion.{moved_target}
use Rattle.jsimulation_laws.specs.relation.ProgramRelation.{run_of}
use Rattle.jsimulation_laws.specs.relation.StateRelation.{Frame, FramesStand, Point, Word}
use Rattle.jsimulation_laws.specs.relation.StepCounts.{frames_of, next_in, steps, steps_of}
use Rattle.jsimulation_laws.specs.stuttering.StutteringRuns.{Leads}
use Rattle.jsimulation_laws.proofs.LocalProofs.FrameCounts.{NoMore, ended_less, running_more, thrown_less, zero_le}
use Rattle.jsimulation_laws.proofs.LocalProofs.Locals as locals
use Rattle.jsimulation_laws.proofs.LocalProofs.Prologues.{paid_none, prologue_steps}
use Rattle.jsimulation_laws.proofs.LocalProofs.PushedFrames.{begun_there, first_frame, pushed_stands, ready_frame, there_frame}
use Rattle.jsimulation_laws.proofs.StutteringProofs.Silences.{Silently, silent_leads}
use Rattle.jsimulation_laws.proofs.LocalProofs.RelatedStates.{Scene, applied_here, follows, other, stepped}
use Rattle.jsimulation_laws.proofs.LocalProofs.MovedStates.{there}
use Rattle.jsimulation_laws.proofs.LocalProofs.RowActs as straights
use Rattle.jsimulation_laws.proofs.LocalProofs.ThreadTurns.{Matches, long_same}

module _ (z : Scene) (empty : z.s.running.frames ≡ []) where
  abbrev S : List Frame → Point
  S gs = other z gs

  abbrev A : Outcome Point → Type 0
  A o = straights.A z o []

  next : next_in z.p z.s.running.frames ≡ None
  next = ap (λ (xs : List Frame). next_in z.p xs) empty

  -- what begins no method takes one step
  counts : steps_of (next_in z.p z.s.running.frames) false ≡ 1
  counts = ap (λ o. steps_of o false) next

  matched : (o o' : Outcome Point) → Matches z.p z.q o o' → NoMore (frames_of z.s) o → follows z (S []) ≡ o' → A o
  matched (Went u events) o' m less is = straights.goes z [] [] 0 counts refl u m.0 events (is ∙ m.1) m.2 less
  matched (Over u events end) o' m less is = straights.over z [] [] 0 counts refl u m.0 events end (is ∙ m.1)
  matched NoStep o' m less is = tt

  -- ---- an exception in place of a method

  abbrev told : ℕ → VType → List Event
  told n class = Throw n (told_name class) ∷ Uncaught n (told_name class) ∷ []

  thrown_matches : (x : Store (List Item)) (k : ℕ) (o : Option (Object (List Item)))
      → Matches z.p z.q (thrown (sourced z.has) z.p z.plan z.s [] x [] k o) (thrown (shadowed z.has) z.q z.plan (S []) [] x [] k o)
  unfolding unwound
  thrown_matches x k None = tt
  thrown_matches x k (Some y) =
      subst
      (λ named. Matches z.p z.q (ended z.plan.schedule z.s x true (told (thread_of z.s) (class_of (world z.p).named y)))
      (ended z.plan.schedule (S []) x true (told (thread_of (S [])) (class_of named y)))) (sym z.moves.classes.named)
      (subst
      (λ n. Matches z.p z.q (ended z.plan.schedule z.s x true (told (thread_of z.s) (class_of (world z.p).named y)))
      (ended z.plan.schedule (S []) x true (told n (class_of (world z.p).named y)))) (sym (long_same z.p z.q z.s.earlier z.es z.earlier))
      (straights.ended_matches z [] x true (told (thread_of z.s) (class_of (world z.p).named y))))

  abbrev raising : LibClass → Act (List Item) Noted
  raising class = Raises [] class None

  fails : (class : LibClass) → follows z (S []) ≡ applied (shadowed z.has) z.q z.plan (S []) [] (raises class) → A (applied_here z [] (raises class))
  unfolding applied acted
  fails class came =
      let cells = 0 + raised_cells (raising class) in
      let x = with_raised (paid cells z.s.store) class None in
      straights.where_paid z [] [] 0 counts refl (nat_le cells z.s.store.left)
      (raised (sourced z.has) z.p z.plan z.s [] [] x) (raised (shadowed z.has) z.q z.plan (S []) [] [] x)
      (matched (raised (sourced z.has) z.p z.plan z.s [] [] x) (raised (shadowed z.has) z.q z.plan (S []) [] [] x)
      (thrown_matches x (length x.objects) (object_at x (length x.objects)))
      (thrown_less (sourced z.has) z.p z.plan z.s [] x [] (length x.objects) (object_at x (length x.objects)) (zero_le (length z.s.running.frames)))) came

  -- ---- a method

  module _ (n : ℕ) (m : MethodId) (k : List Item) (kept : z.s.running.inherited ≡ Some k) where
    abbrev values : List Word
    values = Ref n ∷ []

    calls : (body : CodeBody) (is : code_at z.p m ≡ Some body) → (z.moves.codes m body is).slots ≡ 1
        → follows z (S []) ≡ applied (shadowed z.has) z.q z.plan (S []) [] (free (Calls m (Ctx k ∷ values) None))
        → A (applied_here z [] (free (Calls m values None)))
    unfolding applied acted sourced shadowed
    calls body is slots came =
        let code = z.moves.codes m body is in
        let fills : places_of values ≡ code.slots = locals.one_place (Ref n) refl ∙ sym slots in
        let u : Point = with_running z.s (first_frame z.p m values body ∷ []) z.s.store in
        let new = there_frame z.p m code.place.local k values in
        let ready = ready_frame z.p m code.place.local code.place.domain k values in
        let one : applied_here z [] (free (Calls m values None)) ≡ Went u []
        = ap (λ b. if b then pushed (sourced z.has) z.p z.plan z.s [] (paid 0 z.s.store) (begun z.p m (unmarked (domain_of z.p m)) values) else Over z.s [] HeapFull)
        (le-leb 0 z.s.store.left (omega arith))
        ∙ ap (λ (x : Store (List Item)). pushed (sourced z.has) z.p z.plan z.s [] x (begun z.p m (unmarked (domain_of z.p m)) values)) (paid_none z.s.store)
        ∙ ap (λ o. pushed (sourced z.has) z.p z.plan z.s [] z.s.store (option_map (frame_of m (unmarked (domain_of z.p m)) values) o)) is in
        let two : follows z (S []) ≡ Went (there u z.es (new ∷ []) z.ls) []
        = came
        ∙ ap
        (λ b. if b then pushed (shadowed z.has) z.q z.plan (S []) [] (paid 0 z.s.store) (begun z.q m (unmarked (domain_of z.q m)) (Ctx k ∷ values)) else Over (S []) []
        HeapFull) (le-leb 0 z.s.store.left (omega arith))
        ∙ ap (λ (x : Store (List Item)). pushed (shadowed z.has) z.q z.plan (S []) [] x (begun z.q m (unmarked (domain_of z.q m)) (Ctx k ∷ values))) (paid_none z.s.store)
        ∙ ap (λ (o : Option Frame). pushed (shadowed z.has) z.q z.plan (S []) [] z.s.store o) (begun_there z.p z.q z.moves m body code k values) in
        let lt : places_of values < code.place.local = (let b = code.behind_slots in omega (arith, b, fills)) in
        let four = prologue_steps z.has z.q z.plan z.moves.calls.rt u z.es z.ls z.p m body code (locals_of (code.place.local + 1) (Ctx k ∷ values))
        (unmarked (domain_of z.p m)) k []
        (ap (λ i. local_at (locals_of (code.place.local + 1) (Ctx k ∷ values)) i) (sym fills) ∙ locals.handed_at values k body.max_locals code.place.local code.behind lt)
        (locals.new_long values k body.max_locals code.place.local code.behind lt) in
        let all : Silently (follows z) 5 (S []) (there u z.es (ready ∷ []) z.ls) = (there u z.es (new ∷ []) z.ls, two, four) in
        let frames : FramesStand z.p z.q z.s.running.inherited (first_frame z.p m values body ∷ []) (ready ∷ [])
        = (pushed_stands z.p z.q z.moves z.s.running.inherited m body is code k values [] fills (ap (λ (o : Option (List Item)). context_of [] o) (sym kept)), tt) in
        let more = running_more z.s (first_frame z.p m values body ∷ []) z.s.store (ap (λ (xs : List Frame). suc (length xs)) (sym empty)) in
        let taken : steps z.p z.s (Went u []) ≡ 5 = straights.steps_into z u [] more ∙ ap (λ o. steps_of o true) next in
        subst (λ (o : Outcome Point). A o) (sym one) (
          there u z.es (ready ∷ []) z.ls,
          subst (λ j. Leads (follows z) j (S []) [] (there u z.es (ready ∷ []) z.ls)) (sym taken)
              (silent_leads (follows z) 5 (S []) (there u z.es (ready ∷ []) z.ls) all),
          straights.running_on z (first_frame z.p m values body ∷ []) (ready ∷ []) [] z.s.store frames,
        )

    by_body : (o : Option CodeBody) → code_at z.p m ≡ o → ((body : CodeBody) (is : code_at z.p m ≡ Some body) → (z.moves.codes m body is).slots ≡ 1)
        → follows z (S []) ≡ applied (shadowed z.has) z.q z.plan (S []) [] (free (Calls m (Ctx k ∷ values) None))
        → A (applied_here z [] (free (Calls m values None)))
    unfolding applied acted sourced
    by_body None lacks slots came =
        subst (λ (o : Outcome Point). A o)
        (sym
        (ap (λ b. if b then pushed (sourced z.has) z.p z.plan z.s [] (paid 0 z.s.store) (begun z.p m (unmarked (domain_of z.p m)) values) else Over z.s [] HeapFull)
        (le-leb 0 z.s.store.left (omega arith))
        ∙ ap (λ o. pushed (sourced z.has) z.p z.plan z.s [] (paid 0 z.s.store) (option_map (frame_of m (unmarked (domain_of z.p m)) values) o)) lacks)) tt
    by_body (Some body) is slots came = calls body is (slots body is) came

  -- ---- by what is found

  by_target : (n : ℕ) (x : Object (List Item)) (k : List Item) → z.s.running.inherited ≡ Some k → (to to' : Target) → by_interface (world z.p) false (run_of Source) x ≡ to
      → to' ≡ moved_target to
      → follows z (S []) ≡ first_done (shadowed z.has) z.q z.plan (S []) (first_row (shadowed z.has) z.q z.plan (S []) n to')
      → A (first_done (sourced z.has) z.p z.plan z.s (first_row (sourced z.has) z.p z.plan z.s n to))
  unfolding sourced shadowed
  by_target n x k kept (Fails class) to' at same came =
      fails class (came ∙ ap (λ t. first_done (shadowed z.has) z.q z.plan (S []) (first_row (shadowed z.has) z.q z.plan (S []) n t)) same)
  by_target n x k kept (Runs call) to' at same came = tt
  by_target n x k kept (Pushes m) to' at same came =
      by_body n m k kept (code_at z.p m) refl (λ body is. z.moves.fills.runs false x m body is at)
      (came ∙ ap (λ t. first_done (shadowed z.has) z.q z.plan (S []) (first_row (shadowed z.has) z.q z.plan (S []) n t)) same
      ∙ ap (λ (o : Option (List Item)). applied (shadowed z.has) z.q z.plan (S []) [] (free (Calls m (handed Passing o ++ Ref n ∷ []) None))) kept)

  by_object : (n : ℕ) (k : List Item) → z.s.running.inherited ≡ Some k → (o : Option (Object (List Item))) → follows z (S []) ≡ begun_on (shadowed z.has) z.q z.plan (S []) n o
      → A (begun_on (sourced z.has) z.p z.plan z.s n o)
  unfolding sourced shadowed
  by_object n k kept None came = tt
  by_object n k kept (Some x) came =
      by_target n x k kept (by_interface (world z.p) false (run_of Source) x) (by_interface (world z.q) false (run_of Passing) x) refl (z.moves.calls.runs false x) came

  by_runnable : (n : ℕ) (kept : Option (List Item)) → z.s.running.runnable ≡ n → z.s.running.inherited ≡ kept → follows z (S []) ≡ begins (shadowed z.has) z.q z.plan (S []) n
      → A (begins (sourced z.has) z.p z.plan z.s n)
  by_runnable zero kept r i came =
      matched (ended z.plan.schedule z.s z.s.store false []) (ended z.plan.schedule (S []) z.s.store false []) (straights.ended_matches z [] z.s.store false [])
      (ended_less z.plan.schedule z.s z.s.store false []) came
  by_runnable (suc n) None r i came = let e : suc n ≡ 0 = sym r ∙ z.heir i in absurd (omega (arith, e))
  by_runnable (suc n) (Some k) r i came = by_object (suc n) k i (object_at z.s.store (suc n)) came

  -- a thread that has no frames begins, or ends at once
  pub thread_begins : A (stepped z)
  unfolding step
  thread_begins =
      subst (λ (o : Outcome Point). A o) (sym (ap (step_at (sourced z.has) z.p z.plan z.s) empty)) (by_runnable z.s.running.runnable z.s.running.inherited refl refl refl)
