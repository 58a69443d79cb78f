-- A step of the machine doesn't depend on what is kept, where what it asks is answered alike.
use Rattle.std.proofs.Common.{◌≡◌, ◌∙◌, ℕ, zero, suc, Bool, false, List, [], ◌∷◌, ◌++◌, map, Option, Some, None, option_map, refl, sym, ap, subst}
use Rattle.std.specs.Prelude.{option_and_then}
use Rattle.std.proofs.lemmas.List.{map-append}
use Rattle.jvalues.specs.declared.jnames.kinds.Kind.TheVariants as kinds
use Rattle.jvalues.specs.declared.jops.value.Value.{Value}
use Rattle.jvalues.specs.declared.jops.value.Value.TheVariants.{Ref}
use Rattle.jparts.specs.jcode.InstructionForms.{returned, simple_effect}
use Rattle.jlib.specs.declared.side.Side.{Side}
use Rattle.jlib.specs.declared.side.Side.TheVariants.{Source, Passing}
use Rattle.jlib.specs.declared.classes.LibClass.TheVariants as lib
use Rattle.jlib.specs.declared.calls.LibCall.{LibCall}
use Rattle.jlib.specs.declared.calls.LibCall.TheVariants as calls
use Rattle.jresolution.specs.declared.jprogram.member.Member.{Member}
use Rattle.jresolution.specs.declared.jprogram.member.Member.TheVariants.{LibMethod}
use Rattle.jresolution.specs.declared.jprogram.member.MethodId.{MethodId}
use Rattle.jresolution.specs.jprogram.ProgramClasses.{Program}
use Rattle.jresolution.specs.declared.juses.meaning.InvokeKind.{InvokeKind}
use Rattle.jresolution.specs.declared.juses.meaning.InvokeKind.TheVariants as how
use Rattle.jresolution.specs.juses.IndexedInstructions.{Instruction, Simple, Local, Stack, Jump, Switch, Return, Throw, Array, Used}
use Rattle.jresolution.specs.juses.InstructionMeanings as meanings
use Rattle.jresolution.specs.juses.InstructionMeanings.{CallMeaning, Meaning}
use Rattle.jtyping.specs.jrule.StackEffects.{Want, Fits, Of, of_kinds}
use Rattle.jtyping.specs.jrule.BasicRule.{tested}
use Rattle.jtyping.specs.jrule.PoolEffects.{exchange, throwable}
use Rattle.jsemantics.specs.declared.jmachine.plan.Plan.{Plan}
use Rattle.jsemantics.specs.jmachine.MachineStates.{FrameOf, State, Row, Calls as Called, Outcome, free}
use Rattle.jsemantics.specs.jmachine.ArrayInstructions as array_rows
use Rattle.jsemantics.specs.jmachine.AccessQueries.{Ask, Checks, ChecksKept, Snapshots, Inherits, Enters, Privileges, Decided, Kept, Entered, Allowed, AgreeAt, AgreeWhere, asked_by, asked_on, asks, call_asks, called_asks, carried, instruction_asks, run_asks, used_asks}
use Rattle.jsemantics.specs.jmachine.CallTargets.{Target, Fails, Pushes, Runs, by_interface, init_taken, target}
use Rattle.jsemantics.specs.jmachine.InstructionActions.{Doing, array_wants, by, by_held, by_taken, call, called, doing, run, used, wants_of}
use Rattle.jsemantics.specs.jmachine.FieldInstructions.{field}
use Rattle.jsemantics.specs.jmachine.FrameOperations.{with_operands}
use Rattle.jsemantics.specs.jmachine.ObjectInstructions.{cast, make, push}
use Rattle.jsemantics.specs.jmachine.StateMaps.{frame_map, frames_map, held_map, object_map, outcome_map, row_map, state_map, store_map, taken_map, value_map, values_map}
use Rattle.jsemantics.specs.jmachine.NaturalityLaws.{AnswersAlike, EntriesAgree, RulesAgree, StepAlike, StepAlikeAt, StepUnasked}
use Rattle.jsemantics.specs.jmachine.HeapObjects.{Object, library_name}
use Rattle.jsemantics.specs.jmachine.TakenOperands.{Taken, taken}
use Rattle.jsemantics.specs.jmachine.Security.{Rules, handed}
use Rattle.jsemantics.specs.jmachine.InstructionSites.{Site}
use Rattle.jsemantics.specs.jmachine.MachineSteps.{applied, begins, begun_on, done, executed, fetched, first_done, first_row, own_fields, site, step, step_at}
use Rattle.jsemantics.specs.jmachine.Store.{Store, object_at}
use Rattle.jsemantics.specs.jmachine.BasicInstructions.{Held, holding, jump, leave, local, simple, stack, switch, throw}
use Rattle.jsemantics.specs.jmachine.World.{world}
use Rattle.jsemantics.proofs.JmachineProofs.RowApplication.{applied_alike, ended_alike}
use Rattle.jsemantics.proofs.JmachineProofs.StepAsks.{site_alike}
use Rattle.jsemantics.proofs.JmachineProofs.Asks.{context_alike, controller_alike, rt_alike, thread_alike}
use Rattle.jsemantics.proofs.JmachineProofs.ArrayRows as arrays_alike
use Rattle.jsemantics.proofs.JmachineProofs.CallRows.{init_alike, interface_alike, target_alike}
use Rattle.jsemantics.proofs.JmachineProofs.FieldRows.{field_alike}
use Rattle.jsemantics.proofs.JmachineProofs.LibraryRows.{library_alike}
use Rattle.jsemantics.proofs.JmachineProofs.CreationRows as making
use Rattle.jsemantics.proofs.JmachineProofs.StackMoves.{local_alike, stack_alike}
use Rattle.jsemantics.proofs.JmachineProofs.Stores.{object_alike}
use Rattle.jsemantics.proofs.JmachineProofs.Straights.{jump_alike, simple_alike, switch_alike, throw_alike}
use Rattle.jsemantics.proofs.JmachineProofs.Takes.{taken_alike}

module _ {K L : Type 0} (f : K → L) where
  pub handed_alike : (side : Side) (kept : Option K) → values_map f (handed side kept) ≡ handed side (option_map f kept)
  handed_alike Source None = refl
  handed_alike Source (Some k) = refl
  handed_alike Passing None = refl
  handed_alike Passing (Some k) = refl

module _ {K L E F : Type 0} (f : K → L) (g : E → F) (r : Rules K E) (q : Rules L F) (same : r.side ≡ q.side) (agree : EntriesAgree g r q) where
  abbrev doing_map : Doing K E → Doing L F
  doing_map d = record { frame = frame_map f g d.frame; row = row_map f g d.row }

  abbrev put_here : FrameOf K E → List (Value K) → Row K E → Doing K E
  put_here x below y = record { frame = with_operands x below; row = y }

  abbrev put : FrameOf L F → List (Value L) → Row L F → Doing L F
  put x below y = record { frame = with_operands x below; row = y }

  module _ (at : Site) (s : Store K) (es : List E) (inherited : Option K) where
    abbrev fs : List F
    fs = map g es

    abbrev kept : Option L
    kept = option_map f inherited

    abbrev Where : Option (Ask K) → Type 0
    Where asked = AgreeWhere f g r q es inherited asked

    -- ---- calls

    module _ (own : Member → Bool) where
      run_alike : (one : LibCall) (values : List (Value K)) → Where (run_asks r.side at s one values) → option_map (row_map f g) (run r at own s es inherited one values) ≡ run q at own (store_map f s) fs kept one (values_map f values)
      run_alike (calls.Controller one) values w = controller_alike f g r q same at s es inherited one values w
      run_alike (calls.Rt one) values w = rt_alike f g r q same at s es inherited one values w
      run_alike (calls.Thread one) values w = thread_alike f g r q same at s es inherited one values w
      run_alike calls.ContextCheck values w = context_alike f g r q same at s es inherited values w
      run_alike calls.ObjectInit values w = library_alike f g at s calls.ObjectInit values
      run_alike (calls.ThrownInit class way) values w = library_alike f g at s (calls.ThrownInit class way) values
      run_alike calls.AccessControlInit values w = library_alike f g at s calls.AccessControlInit values
      run_alike calls.GetMessage values w = library_alike f g at s calls.GetMessage values
      run_alike (calls.String one) values w = library_alike f g at s (calls.String one) values
      run_alike (calls.Builder one) values w = library_alike f g at s (calls.Builder one) values
      run_alike calls.Out values w = library_alike f g at s calls.Out values
      run_alike calls.PrintEnd values w = library_alike f g at s calls.PrintEnd values
      run_alike (calls.Print piece) values w = library_alike f g at s (calls.Print piece) values
      run_alike (calls.Run side) values w = library_alike f g at s (calls.Run side) values
      run_alike (calls.RunAction side) values w = library_alike f g at s (calls.RunAction side) values
      run_alike (calls.PermissionInit one) values w = library_alike f g at s (calls.PermissionInit one) values

      called_alike : (values : List (Value K)) (t : Target) → Where (called_asks r.side at s values t) → option_map (row_map f g) (called r at own s es inherited values t) ≡ called q at own (store_map f s) fs kept (values_map f values) t
      called_alike values (Fails class) w = refl
      called_alike values (Pushes m) w = refl
      called_alike values (Runs one) w = run_alike one values w

      came_alike : (values : List (Value K)) (o : Option Target) → Where (option_and_then (called_asks r.side at s values) o)
          → option_map (row_map f g) (option_and_then (called r at own s es inherited values) o) ≡ option_and_then (called q at own (store_map f s) fs kept (values_map f values)) o
      came_alike values None w = refl
      came_alike values (Some t) w = called_alike values t w

      call_alike : (way : InvokeKind) (c : CallMeaning) (values : List (Value K)) → Where (call_asks r.side at s way c values)
          → option_map (row_map f g) (call r at own s es inherited way c values) ≡ call q at own (store_map f s) fs kept way c (values_map f values)
      call_alike way c values w = came_alike values (target at s way c values) w ∙ ap (option_and_then (called q at own (store_map f s) fs kept (values_map f values))) (target_alike f at s way c values)

      -- ---- operands

      row_with : (x : FrameOf K E) (t : Taken K) (o : Option (Row K E)) → option_map doing_map (option_map (put_here x t.below) o) ≡ option_map (put (frame_map f g x) (values_map f t.below)) (option_map (row_map f g) o)
      row_with x t None = refl
      row_with x t (Some y) = refl

      abbrev Rows : (List (Value K) → Option (Row K E)) → (List (Value L) → Option (Row L F)) → Type 0
      Rows h i = (values : List (Value K)) → option_map (row_map f g) (h values) ≡ i (values_map f values)

      with_row_alike : (x : FrameOf K E) (h : List (Value K) → Option (Row K E)) (i : List (Value L) → Option (Row L F)) → Rows h i → (o : Option (Taken K))
          → option_map doing_map (by_taken r at own s es inherited x o h) ≡ by_taken q at own (store_map f s) fs kept (frame_map f g x) (option_map (taken_map f) o) i
      with_row_alike x h i e None = refl
      with_row_alike x h i e (Some t) = row_with x t (h t.values) ∙ ap (option_map (put (frame_map f g x) (values_map f t.below))) (e t.values)

      by_alike : (x : FrameOf K E) (wants : List Want) (h : List (Value K) → Option (Row K E)) (i : List (Value L) → Option (Row L F)) → Rows h i
          → option_map doing_map (by r at own s es inherited x wants h) ≡ by q at own (store_map f s) fs kept (frame_map f g x) wants i
      by_alike x wants h i e =
          with_row_alike x h i e (taken at.world s wants x.operands)
          ∙ ap (λ (o : Option (Taken L)). by_taken q at own (store_map f s) fs kept (frame_map f g x) o i) (taken_alike f at.world s wants x.operands)

      -- calls, which may ask something
      abbrev AskedRows : (List (Value K) → Option (Ask K)) → (List (Value K) → Option (Row K E)) → (List (Value L) → Option (Row L F)) → Type 0
      AskedRows a h i = (values : List (Value K)) → Where (a values) → option_map (row_map f g) (h values) ≡ i (values_map f values)

      asked_alike : (x : FrameOf K E) (a : List (Value K) → Option (Ask K)) (h : List (Value K) → Option (Row K E)) (i : List (Value L) → Option (Row L F)) → AskedRows a h i
          → (o : Option (Taken K)) → Where (option_and_then (λ t. a t.values) o)
          → option_map doing_map (by_taken r at own s es inherited x o h) ≡ by_taken q at own (store_map f s) fs kept (frame_map f g x) (option_map (taken_map f) o) i
      asked_alike x a h i e None w = refl
      asked_alike x a h i e (Some t) w = row_with x t (h t.values) ∙ ap (option_map (put (frame_map f g x) (values_map f t.below))) (e t.values w)

      call_by : (way : InvokeKind) (c : CallMeaning) (x : FrameOf K E) (wants : List Want) → Where (option_and_then (λ t. call_asks r.side at s way c t.values) (taken at.world s wants x.operands))
          → option_map doing_map (by r at own s es inherited x wants (call r at own s es inherited way c)) ≡ by q at own (store_map f s) fs kept (frame_map f g x) wants (call q at own (store_map f s) fs kept way c)
      call_by way c x wants w =
          asked_alike x (call_asks r.side at s way c) (call r at own s es inherited way c) (call q at own (store_map f s) fs kept way c) (call_alike way c) (taken at.world s wants x.operands) w
          ∙ ap (λ (o : Option (Taken L)). by_taken q at own (store_map f s) fs kept (frame_map f g x) o (call q at own (store_map f s) fs kept way c)) (taken_alike f at.world s wants x.operands)

      init_by : (c : CallMeaning) (x : FrameOf K E) → Where (option_and_then (λ t. call_asks r.side at s how.Init c t.values) (init_taken at.world s c x.operands))
          → option_map doing_map (by_taken r at own s es inherited x (init_taken at.world s c x.operands) (call r at own s es inherited how.Init c))
          ≡ by_taken q at own (store_map f s) fs kept (frame_map f g x) (init_taken at.world (store_map f s) c (values_map f x.operands)) (call q at own (store_map f s) fs kept how.Init c)
      init_by c x w =
          asked_alike x (call_asks r.side at s how.Init c) (call r at own s es inherited how.Init c) (call q at own (store_map f s) fs kept how.Init c) (call_alike how.Init c) (init_taken at.world s c x.operands) w
          ∙ ap (λ (o : Option (Taken L)). by_taken q at own (store_map f s) fs kept (frame_map f g x) o (call q at own (store_map f s) fs kept how.Init c)) (init_alike f at.world s c x.operands)

      held_alike : (x : FrameOf K E) (o : Option (Held K)) → option_map doing_map (by_held r at own s es inherited x o) ≡ by_held q at own (store_map f s) fs kept (frame_map f g x) (option_map (held_map f) o)
      held_alike x None = refl
      held_alike x (Some h) = refl

      used_alike : (m : Meaning) (x : FrameOf K E) → Where (instruction_asks r.side at s (Used m) x.operands)
          → option_map doing_map (used r at own s es inherited m x) ≡ used q at own (store_map f s) fs kept m (frame_map f g x)
      unfolding used exchange used_asks
      used_alike (meanings.Push c) x w = by_alike x (wants_of r at own s es inherited (meanings.Push c)) (push s c) (push (store_map f s) c) (making.push_alike f g s c)
      used_alike (meanings.Field op m) x w = by_alike x (wants_of r at own s es inherited (meanings.Field op m)) (field at.world s op m.member) (field at.world (store_map f s) op m.member) (field_alike f g at.world s op m.member)
      used_alike (meanings.Call how.Init c) x w = init_by c x w
      used_alike (meanings.Call how.Virtual c) x w = call_by how.Virtual c x (wants_of r at own s es inherited (meanings.Call how.Virtual c)) w
      used_alike (meanings.Call how.Special c) x w = call_by how.Special c x (wants_of r at own s es inherited (meanings.Call how.Special c)) w
      used_alike (meanings.Call how.Static c) x w = call_by how.Static c x (wants_of r at own s es inherited (meanings.Call how.Static c)) w
      used_alike (meanings.Call how.Interface c) x w = call_by how.Interface c x (wants_of r at own s es inherited (meanings.Call how.Interface c)) w
      used_alike (meanings.Make c) x w = by_alike x (wants_of r at own s es inherited (meanings.Make c)) (make at.world s c) (make at.world (store_map f s) c) (making.make_alike f g at.world s c)
      used_alike (meanings.MakeArray t) x w = by_alike x (wants_of r at own s es inherited (meanings.MakeArray t)) (array_rows.make s t) (array_rows.make (store_map f s) t) (arrays_alike.make_alike f g s t)
      used_alike (meanings.Cast op t) x w = by_alike x (wants_of r at own s es inherited (meanings.Cast op t)) (cast at.world s op t) (cast at.world (store_map f s) op t) (making.cast_alike f g at.world s op t)

      doing_alike : (i : Instruction) (x : FrameOf K E) → Where (instruction_asks r.side at s i x.operands)
          → option_map doing_map (doing r at own s es inherited i x) ≡ doing q at own (store_map f s) fs kept i (frame_map f g x)
      unfolding doing
      doing_alike (Simple form) x w = by_alike x (of_kinds (simple_effect form).takes) (simple s form) (simple (store_map f s) form) (simple_alike f g s form)
      doing_alike (Local form) x w = held_alike x (local form (holding x.locals x.operands)) ∙ ap (by_held q at own (store_map f s) fs kept (frame_map f g x)) (local_alike f form (holding x.locals x.operands))
      doing_alike (Stack op) x w = held_alike x (stack op (holding x.locals x.operands)) ∙ ap (by_held q at own (store_map f s) fs kept (frame_map f g x)) (stack_alike f op (holding x.locals x.operands))
      doing_alike (Jump test to) x w = by_alike x (of_kinds (tested test)) (jump s test to) (jump (store_map f s) test to) (jump_alike f g s test to)
      doing_alike (Switch cases other) x w = by_alike x (Of kinds.Int ∷ []) (switch cases other) (switch cases other) (switch_alike f g cases other)
      doing_alike (Return kind) x w = by_alike x (of_kinds (returned kind)) leave leave (λ values. refl)
      doing_alike Throw x w = by_alike x (Fits throwable ∷ []) throw throw (throw_alike f g)
      doing_alike (Array form) x w = by_alike x (array_wants form) (array_rows.array at.world s form) (array_rows.array at.world (store_map f s) form) (arrays_alike.array_alike f g at.world s form)
      doing_alike (Used m) x w = used_alike m x w

  -- ---- steps

  entries_alike : (frames : List (FrameOf K E)) → map g (map (λ x. x.entry) frames) ≡ map (λ x. x.entry) (frames_map f g frames)
  entries_alike [] = refl
  entries_alike (x ∷ below) = ap (λ (es : List F). g x.entry ∷ es) (entries_alike below)

  module _ (p : Program) (plan : Plan) (s : State K E) where
    abbrev after : Outcome (State K E) → Outcome (State L F)
    after o = outcome_map (state_map f g) o

    abbrev t : State L F
    t = state_map f g s

    abbrev Asked : List E → Option (Ask K) → Type 0
    Asked es asked = AgreeWhere f g r q es s.running.inherited asked

    applied_so : (frames : List (FrameOf K E)) (row : Row K E) → after (applied r p plan s frames row) ≡ applied q p plan t (frames_map f g frames) (row_map f g row)
    applied_so frames row = applied_alike f g r q agree p plan s frames row

    done_alike : (below : List (FrameOf K E)) (o : Option (Doing K E)) → after (done r p plan s below o) ≡ done q p plan t (frames_map f g below) (option_map doing_map o)
    done_alike below None = refl
    done_alike below (Some d) = applied_so (d.frame ∷ below) d.row

    executed_alike : (x : FrameOf K E) (below : List (FrameOf K E)) (o : Option Instruction) → Asked (map (λ y. y.entry) (x ∷ below)) (asked_by r.side p plan s x below o)
        → after (executed r p plan s x below o) ≡ executed q p plan t (frame_map f g x) (frames_map f g below) o
    executed_alike x below None w = refl
    executed_alike x below (Some i) w =
        done_alike below (doing r (site r p plan s x below) (own_fields p x.method) s.store (map (λ y. y.entry) (x ∷ below)) s.running.inherited i x)
        ∙ ap (done q p plan t (frames_map f g below)) (doing_alike (site r p plan s x below) s.store (map (λ y. y.entry) (x ∷ below)) s.running.inherited (own_fields p x.method) i x w
        ∙ ap (λ (at : Site). doing q at (own_fields p x.method) (store_map f s.store) (map g (map (λ y. y.entry) (x ∷ below))) (option_map f s.running.inherited) i (frame_map f g x)) (site_alike f g r.side p plan s x below)
        ∙ ap (λ (es : List F). doing q (site q p plan t (frame_map f g x) (frames_map f g below)) (own_fields p x.method) (store_map f s.store) es (option_map f s.running.inherited) i (frame_map f g x)) (entries_alike (x ∷ below)))

    -- ---- the beginning of a thread

    abbrev call_on : Side → CallMeaning
    call_on side = record { owner = library_name lib.Runnable; params = []; ret = None; member = LibMethod (calls.Run side) }

    abbrev pushing : ℕ → MethodId → List (Value L) → Option (Row L F)
    pushing n m values = Some (free (Called m (values ++ Ref n ∷ []) None))

    row_alike : (n : ℕ) (o : Target) → option_map (row_map f g) (first_row r p plan s n o) ≡ first_row q p plan t n o
    row_alike n (Fails class) = refl
    row_alike n (Runs one) = refl
    row_alike n (Pushes m) =
        ap (λ (vs : List (Value L)). Some (free {E = F} (Called m vs None))) (map-append (value_map f) (handed r.side s.running.inherited) (Ref n ∷ []))
        ∙ ap (pushing n m) (handed_alike f r.side s.running.inherited ∙ ap (λ (side : Side). handed side (option_map f s.running.inherited)) same)

    first_alike : (o : Option (Row K E)) → after (first_done r p plan s o) ≡ first_done q p plan t (option_map (row_map f g) o)
    first_alike None = refl
    first_alike (Some row) = applied_so [] row

    begun_alike : (n : ℕ) (o : Option (Object K)) → after (begun_on r p plan s n o) ≡ begun_on q p plan t n (option_map (object_map f) o)
    begun_alike n None = refl
    begun_alike n (Some x) =
        first_alike (first_row r p plan s n (by_interface (world p) false (call_on r.side) x))
        ∙ ap (first_done q p plan t) (row_alike n (by_interface (world p) false (call_on r.side) x)
        ∙ ap (first_row q p plan t n) (ap (λ (side : Side). by_interface (world p) false (call_on side) x) same ∙ interface_alike f (world p) false (call_on q.side) x))

    begins_alike : (n : ℕ) → after (begins r p plan s n) ≡ begins q p plan t n
    begins_alike zero = ended_alike f g plan.schedule s s.store false []
    begins_alike (suc n) = begun_alike (suc n) (object_at s.store (suc n)) ∙ ap (begun_on q p plan t (suc n)) (sym (object_alike f s.store (suc n)))

    at_alike : (frames : List (FrameOf K E)) → Asked (map (λ y. y.entry) frames) (asked_on r.side p plan s frames) → after (step_at r p plan s frames) ≡ step_at q p plan t (frames_map f g frames)
    at_alike [] w = begins_alike s.running.runnable
    at_alike (x ∷ below) w = executed_alike x below (fetched p x.method x.place) w

    pub step_asked : Asked (carried s) (asks r.side p plan s) → after (step r p plan s) ≡ step q p plan t
    unfolding step asks
    step_asked w = at_alike s.running.frames w

pub step_at_law : (K L E F : Type 0) → StepAlikeAt K L E F
step_at_law K L E F f g r q same agree p plan s w = step_asked f g r q same agree p plan s w

pub step_unasked_law : (K L E F : Type 0) → StepUnasked K L E F
step_unasked_law K L E F f g r q same agree p plan s none = step_asked f g r q same agree p plan s (subst (λ (o : Option (Ask K)). AgreeWhere f g r q (carried s) s.running.inherited o) (sym none) tt)

-- ---- machines that answer alike

module _ {K L E F : Type 0} (f : K → L) (g : E → F) (r : Rules K E) (q : Rules L F) (agree : RulesAgree f g r q) where
  answers_alike : (es : List E) (inherited : Option K) (ask : Ask K) → AgreeAt f g r q es inherited ask
  answers_alike es inherited (Checks asked ctx) = ap Decided (agree.check asked ctx es inherited)
  answers_alike es inherited (ChecksKept asked k) = ap Decided (agree.check_kept asked k)
  answers_alike es inherited (Snapshots ctx) = ap Kept (agree.snapshot ctx es inherited)
  answers_alike es inherited (Inherits ctx) = ap Kept (agree.inherit ctx es inherited)
  answers_alike es inherited (Enters k domain) = ap Entered (agree.enter k domain)
  answers_alike es inherited (Privileges domain ctx context limited) = ap Allowed (agree.privileged domain ctx context limited es)

  all_alike : (es : List E) (inherited : Option K) (asked : Option (Ask K)) → AgreeWhere f g r q es inherited asked
  all_alike es inherited None = tt
  all_alike es inherited (Some ask) = answers_alike es inherited ask

  pub step_alike : (p : Program) (plan : Plan) (s : State K E) → outcome_map (state_map f g) (step r p plan s) ≡ step q p plan (state_map f g s)
  step_alike p plan s = step_asked f g r q agree.side agree.entries p plan s (all_alike (carried s) s.running.inherited (asks r.side p plan s))

pub step_law : (K L E F : Type 0) → StepAlike K L E F
step_law K L E F f g r q agree p plan s = step_alike f g r q agree p plan s

pub answer_law : (K L E F : Type 0) → AnswersAlike K L E F
answer_law K L E F f g r q agree es inherited ask = answers_alike f g r q agree es inherited ask
