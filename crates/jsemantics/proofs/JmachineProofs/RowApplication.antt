-- What a row makes of the frames and of the threads doesn't depend on what is kept.
use Rattle.std.proofs.Common.{◌≡◌, ◌∙◌, ℕ, ◌+◌, ◌-◌, Bool, true, false, ◌||◌, List, [], ◌∷◌, ◌++◌, map, length, Option, Some, None, option_map, refl, sym, ap}
use Rattle.std.specs.Prelude.{drop, nat_le, replicate, slice_get, take, if◌then◌else◌}
use Rattle.std.specs.List.{list_any, take-map}
use Rattle.std.proofs.lemmas.Option.{slice_get-map}
use Rattle.std.proofs.lemmas.List.{drop-map, length-map, map-append}
use Rattle.jvalues.specs.declared.jops.value.Value.{Value}
use Rattle.jvalues.specs.declared.jops.value.Value.TheVariants.{Int, Long, Ref, Ctx}
use Rattle.jclass.specs.declared.class.CodeBody.{CodeBody}
use Rattle.jlib.specs.declared.classes.LibClass.{LibClass}
use Rattle.jthreads.specs.declared.thread.Thread.{Thread as Guest}
use Rattle.jthreads.specs.Schedule.{picked}
use Rattle.jthreads.specs.ThreadTables.{added, have_ended, runnable_numbers, table_after_end}
use Rattle.joutput.specs.declared.jtrace.event.Event.{Event}
use Rattle.joutput.specs.declared.jtrace.event.Event.TheVariants.{Throw, Uncaught}
use Rattle.joutput.specs.declared.jtrace.event.End.{End}
use Rattle.joutput.specs.declared.jtrace.event.End.TheVariants as ends
use Rattle.jtypes.specs.declared.vtype.VType.{VType}
use Rattle.jresolution.specs.declared.jprogram.member.MethodId.{MethodId}
use Rattle.jresolution.specs.jprogram.ProgramClasses.{Program}
use Rattle.jresolution.specs.juses.IndexedInstructions.{code_at}
use Rattle.jsemantics.specs.declared.jmachine.plan.Plan.{Plan}
use Rattle.jsemantics.specs.jmachine.MachineStates.{FrameOf, GuestOf, State, Act, Goes, Jumps, Leaves, Calls, Raises, Throws, Switches, Makes, Row, Outcome, Went, Over, charge_of, raised_cells}
use Rattle.jsemantics.specs.jmachine.FrameOperations.{all_marked, begun, domain_of, frame_of, locals_of, onto, onward, places_of, standing}
use Rattle.jsemantics.specs.jmachine.StateMaps.{act_map, frame_map, frames_map, guest_map, locals_map, object_map, outcome_map, row_map, state_map, store_map, value_map, values_map}
use Rattle.jsemantics.specs.jmachine.NaturalityLaws.{AppliedAlike, EntriesAgree}
use Rattle.jsemantics.specs.jmachine.HeapObjects.{Object, Text, Thrown, class_of}
use Rattle.jsemantics.specs.jmachine.Security.{Rules}
use Rattle.jsemantics.specs.jmachine.MachineSteps.{acted, applied, guest, left, pushed, raised, thrown, thrown_at, thrown_to}
use Rattle.jsemantics.specs.jmachine.Store.{Store, next_number, object_at, paid, with_made}
use Rattle.jsemantics.specs.jmachine.ThreadTurns.{end_of, ended, given_to, guests, run_by, thread_of, turn_of, turned, with_ended, with_running, with_table}
use Rattle.jsemantics.specs.jmachine.Unwinding.{caught, handler_at, resumed, told_name, unwound, with_raised}
use Rattle.jsemantics.specs.jmachine.World.{world}
use Rattle.jsemantics.proofs.JmachineProofs.ArrayRows.{map_replicate}
use Rattle.jsemantics.proofs.JmachineProofs.Stores.{class_alike, made_alike, next_alike, object_alike}

-- ---- threads

module _ {K L E F : Type 0} (f : K → L) (g : E → F) where
  abbrev G : GuestOf K E → GuestOf L F
  G = guest_map f g

  abbrev H : State K E → State L F
  H = state_map f g

  guests_alike : (s : State K E) → map G (guests s) ≡ guests (H s)
  guests_alike s = map-append G s.earlier (s.running ∷ s.later)

  pub thread_alike : (s : State K E) → thread_of s ≡ thread_of (H s)
  thread_alike s = sym (length-map s.earlier G)

  failed_alike : (xs : List (GuestOf K E)) → list_any (λ x. x.failed) xs ≡ list_any (λ x. x.failed) (map G xs)
  failed_alike [] = refl
  failed_alike (x ∷ xs) = ap (λ b. x.failed || b) (failed_alike xs)

  abbrev end_by : List Guest → Bool → End
  end_by table failed = if have_ended table then (if failed then ends.Uncaught else ends.Finished) else ends.Deadlock

  end_alike : (s : State K E) → end_of s ≡ end_of (H s)
  end_alike s = ap (end_by s.table) (failed_alike (guests s) ∙ ap (λ (xs : List (GuestOf L F)). list_any (λ x. x.failed) xs) (guests_alike s))

  run_alike : (s : State K E) (t : ℕ) (x : GuestOf K E) → H (run_by s t x) ≡ run_by (H s) t (G x)
  run_alike s t x =
      ap (λ (e : List (GuestOf L F)). around e (map G (drop (t + 1) (guests s)))) (sym (take-map G t (guests s)))
      ∙ ap (λ (e : List (GuestOf L F)). around (take t (map G (guests s))) e) (sym (drop-map G (t + 1) (guests s)))
      ∙ ap (λ (xs : List (GuestOf L F)). around (take t xs) (drop (t + 1) xs)) (guests_alike s)
    where
      around : List (GuestOf L F) → List (GuestOf L F) → State L F
      around e l = record { earlier = e; running = G x; later = l; table = s.table; store = store_map f s.store; turns = s.turns + 1 }

  given_alike : (s : State K E) (events : List Event) (t : ℕ) (o : Option (GuestOf K E)) → outcome_map H (given_to s events t o) ≡ given_to (H s) events t (option_map G o)
  given_alike s events t None = refl
  given_alike s events t (Some x) = ap (λ (u : State L F). Went u events) (run_alike s t x)

  turn_alike : (s : State K E) (events : List Event) (o : Option ℕ) → outcome_map H (turn_of s events o) ≡ turn_of (H s) events o
  turn_alike s events None = ap (λ e. Over (H s) events e) (end_alike s)
  turn_alike s events (Some t) =
      given_alike s events t (slice_get (guests s) t)
      ∙ ap (given_to (H s) events t) (sym (slice_get-map G (guests s) t) ∙ ap (λ (xs : List (GuestOf L F)). slice_get xs t) (guests_alike s))

  turned_alike : (schedule : List ℕ) (s : State K E) (events : List Event) → outcome_map H (turned schedule s events) ≡ turned schedule (H s) events
  unfolding turned
  turned_alike schedule s events = turn_alike s events (picked schedule s.turns (runnable_numbers s.table))

  ended_state : (s : State K E) (store : Store K) (failed : Bool) → H (with_ended s store failed) ≡ with_ended (H s) (store_map f store) failed
  ended_state s store failed = ap (λ n. ended_at n) (thread_alike s)
    where
      ended_at : ℕ → State L F
      ended_at n = record {
        earlier = map G s.earlier;
        running = record { frames = []; inherited = option_map f s.running.inherited; runnable = s.running.runnable; failed = failed };
        later = map G s.later;
        table = table_after_end n s.table;
        store = store_map f store;
        turns = s.turns;
      }

  pub ended_alike : (schedule : List ℕ) (s : State K E) (store : Store K) (failed : Bool) (events : List Event) → outcome_map H (ended schedule s store failed events) ≡ ended schedule (H s) (store_map f store) failed events
  ended_alike schedule s store failed events = turned_alike schedule (with_ended s store failed) events ∙ ap (λ (u : State L F). turned schedule u events) (ended_state s store failed)

  -- ---- frames

  onward_alike : (x : FrameOf K E) (values : List (Value K)) → frame_map f g (onward x values) ≡ onward (frame_map f g x) (values_map f values)
  onward_alike x values = ap (λ (vs : List (Value L)). standing (frame_map f g x) (x.place + 1) vs) (map-append (value_map f) values x.operands)

  onto_alike : (arguments : List (Value K)) (locals : List (Option (Value K))) → locals_map f (onto arguments locals) ≡ onto (values_map f arguments) (locals_map f locals)
  unfolding onto
  onto_alike [] locals = refl
  onto_alike (Int x ∷ arguments) locals = onto_alike arguments (Some (Int x) ∷ locals)
  onto_alike (Long x ∷ arguments) locals = onto_alike arguments (Some (Long x) ∷ None ∷ locals)
  onto_alike (Ref x ∷ arguments) locals = onto_alike arguments (Some (Ref x) ∷ locals)
  onto_alike (Ctx x ∷ arguments) locals = onto_alike arguments (Some (Ctx x) ∷ locals)

  places_alike : (arguments : List (Value K)) → places_of arguments ≡ places_of (values_map f arguments)
  places_alike arguments = sym (length-map (onto arguments []) (option_map (value_map f))) ∙ ap (λ (l : List (Option (Value L))). length l) (onto_alike arguments [])

  locals_alike : (most : ℕ) (arguments : List (Value K)) → locals_map f (locals_of most arguments) ≡ locals_of most (values_map f arguments)
  locals_alike most arguments =
      onto_alike arguments (replicate (most - places_of arguments) None)
      ∙ ap (onto (values_map f arguments)) (map_replicate (option_map (value_map f)) (most - places_of arguments) None ∙ ap (λ n. replicate (most - n) None) (places_alike arguments))

  abbrev begun_with : MethodId → F → List (Option (Value L)) → FrameOf L F
  begun_with m entry locals = record { method = m; place = 0; locals = locals; operands = []; entry = entry }

  first_alike : (m : MethodId) (entry : E) (arguments : List (Value K)) (o : Option CodeBody) → option_map (frame_map f g) (option_map (frame_of m entry arguments) o) ≡ option_map (frame_of m (g entry) (values_map f arguments)) o
  first_alike m entry arguments None = refl
  first_alike m entry arguments (Some body) = ap (λ (l : List (Option (Value L))). Some (begun_with m (g entry) l)) (locals_alike body.max_locals arguments)

  pub begun_alike : (p : Program) (m : MethodId) (entry : E) (arguments : List (Value K)) → option_map (frame_map f g) (begun p m entry arguments) ≡ begun p m (g entry) (values_map f arguments)
  begun_alike p m entry arguments = first_alike m entry arguments (code_at p m)

  marked_alike : (entry : Option E) (frames : List (FrameOf K E)) → frames_map f g (all_marked entry frames) ≡ all_marked (option_map g entry) (frames_map f g frames)
  marked_alike entry [] = refl
  marked_alike None (x ∷ below) = refl
  marked_alike (Some e) (x ∷ below) = refl

  -- ---- exceptions that are made

  with_raised_alike : (s : Store K) (class : LibClass) (message : Option (List ℕ)) → store_map f (with_raised s class message) ≡ with_raised (store_map f s) class message
  with_raised_alike s class None = made_alike f s (Thrown class 0)
  with_raised_alike s class (Some units) =
      made_alike f (with_made s (Text (Some units))) (Thrown class (next_number s))
      ∙ ap (λ (t : Store L). with_made t (Thrown class (next_number s))) (made_alike f s (Text (Some units)))
      ∙ ap (λ n. with_made (with_made (store_map f s) (Text (Some units))) (Thrown class n)) (next_alike f s)

  cells_alike : (act : Act K E) → raised_cells act ≡ raised_cells (act_map f g act)
  cells_alike (Goes s values events) = refl
  cells_alike (Jumps to) = refl
  cells_alike (Leaves values) = refl
  cells_alike (Calls m arguments entry) = refl
  cells_alike (Raises events class message) = refl
  cells_alike (Throws n) = refl
  cells_alike (Switches table) = refl
  cells_alike (Makes s runnable k) = refl

-- ---- acts

module _ {K L E F : Type 0} (f : K → L) (g : E → F) (r : Rules K E) (q : Rules L F) (agree : EntriesAgree g r q) (p : Program) (plan : Plan) where
  resumed_alike : (x : FrameOf K E) (place : ℕ) (operands : List (Value K)) → frame_map f g (resumed r.entry_of p x place operands) ≡ resumed q.entry_of p (frame_map f g x) place (values_map f operands)
  resumed_alike x place operands = ap (λ e. carrying_this e) (agree (domain_of p x.method))
    where
      carrying_this : F → FrameOf L F
      carrying_this e = record { method = x.method; place = place; locals = locals_map f x.locals; operands = values_map f operands; entry = e }

  abbrev Kept : Option (List (FrameOf K E)) → Option (List (FrameOf L F))
  Kept o = option_map (frames_map f g) o

  caught_alike : (n : ℕ) (x : FrameOf K E) (below : List (FrameOf K E)) (o : Option ℕ) (rest : Option (List (FrameOf K E))) (after : Option (List (FrameOf L F))) → Kept rest ≡ after
      → Kept (caught r.entry_of p n x below o rest) ≡ caught q.entry_of p n (frame_map f g x) (frames_map f g below) o after
  caught_alike n x below None rest after e = e
  caught_alike n x below (Some to) rest after e = ap (λ (y : FrameOf L F). Some (y ∷ frames_map f g below)) (resumed_alike x to (Ref n ∷ []))

  unwound_alike : (class : VType) (n : ℕ) (frames : List (FrameOf K E)) → Kept (unwound r.entry_of p class n frames) ≡ unwound q.entry_of p class n (frames_map f g frames)
  unfolding unwound
  unwound_alike class n [] = refl
  unwound_alike class n (x ∷ below) = caught_alike n x below (handler_at p class x.method x.place) (unwound r.entry_of p class n below) (unwound q.entry_of p class n (frames_map f g below)) (unwound_alike class n below)

  module _ (s : State K E) where
    to_alike : (store : Store K) (events : List Event) (class : VType) (o : Option (List (FrameOf K E))) → outcome_map (state_map f g) (thrown_to r p plan s store events class o) ≡ thrown_to q p plan (state_map f g s) (store_map f store) events class (Kept o)
    to_alike store events class (Some frames) = ap (λ n. Went (with_running (state_map f g s) (frames_map f g frames) (store_map f store)) (events ++ Throw n (told_name class) ∷ [])) (thread_alike f g s)
    to_alike store events class None =
        ended_alike f g plan.schedule s store true (events ++ Throw (thread_of s) (told_name class) ∷ Uncaught (thread_of s) (told_name class) ∷ [])
        ∙ ap (λ n. ended plan.schedule (state_map f g s) (store_map f store) true (events ++ Throw n (told_name class) ∷ Uncaught n (told_name class) ∷ [])) (thread_alike f g s)

    thrown_alike : (frames : List (FrameOf K E)) (store : Store K) (events : List Event) (n : ℕ) (o : Option (Object K))
        → outcome_map (state_map f g) (thrown r p plan s frames store events n o) ≡ thrown q p plan (state_map f g s) (frames_map f g frames) (store_map f store) events n (option_map (object_map f) o)
    thrown_alike frames store events n None = refl
    thrown_alike frames store events n (Some x) =
        to_alike store events (class_of (world p).named x) (unwound r.entry_of p (class_of (world p).named x) n frames)
        ∙ ap (λ (o : Option (List (FrameOf L F))). thrown_to q p plan (state_map f g s) (store_map f store) events (class_of (world p).named x) o) (unwound_alike (class_of (world p).named x) n frames)
        ∙ ap (λ t. thrown_to q p plan (state_map f g s) (store_map f store) events t (unwound q.entry_of p t n (frames_map f g frames))) (class_alike f (world p).named x)

    at_alike : (frames : List (FrameOf K E)) (store : Store K) (events : List Event) (n : ℕ)
        → outcome_map (state_map f g) (thrown_at r p plan s frames store events n) ≡ thrown_at q p plan (state_map f g s) (frames_map f g frames) (store_map f store) events n
    at_alike frames store events n = thrown_alike frames store events n (object_at store n) ∙ ap (thrown q p plan (state_map f g s) (frames_map f g frames) (store_map f store) events n) (sym (object_alike f store n))

    raised_alike : (frames : List (FrameOf K E)) (events : List Event) (store : Store K)
        → outcome_map (state_map f g) (raised r p plan s frames events store) ≡ raised q p plan (state_map f g s) (frames_map f g frames) events (store_map f store)
    raised_alike frames events store = at_alike frames store events (length store.objects) ∙ ap (thrown_at q p plan (state_map f g s) (frames_map f g frames) (store_map f store) events) (sym (length-map store.objects (object_map f)))

    pushed_alike : (frames : List (FrameOf K E)) (store : Store K) (o : Option (FrameOf K E))
        → outcome_map (state_map f g) (pushed r p plan s frames store o) ≡ pushed q p plan (state_map f g s) (frames_map f g frames) (store_map f store) (option_map (frame_map f g) o)
    pushed_alike frames store None = refl
    pushed_alike frames store (Some x) = refl

    left_alike : (frames : List (FrameOf K E)) (store : Store K) (values : List (Value K))
        → outcome_map (state_map f g) (left r p plan s frames store values) ≡ left q p plan (state_map f g s) (frames_map f g frames) (store_map f store) (values_map f values)
    left_alike [] store values = ended_alike f g plan.schedule s store false []
    left_alike (x ∷ below) store values =
        ap (λ (y : FrameOf L F). Went (with_running (state_map f g s) (y ∷ frames_map f g below) (store_map f store)) [])
        (resumed_alike x (x.place + 1) (values ++ x.operands) ∙ ap (resumed q.entry_of p (frame_map f g x) (x.place + 1)) (map-append (value_map f) values x.operands))

    calls_alike : (frames : List (FrameOf K E)) (store : Store K) (m : MethodId) (arguments : List (Value K)) (entry : Option E)
        → outcome_map (state_map f g) (pushed r p plan s (all_marked entry frames) store (begun p m (r.entry_of (domain_of p m)) arguments))
        ≡ pushed q p plan (state_map f g s) (all_marked (option_map g entry) (frames_map f g frames)) (store_map f store) (begun p m (q.entry_of (domain_of p m)) (values_map f arguments))
    calls_alike frames store m arguments entry =
        pushed_alike (all_marked entry frames) store (begun p m (r.entry_of (domain_of p m)) arguments)
        ∙ ap (λ (xs : List (FrameOf L F)). pushed q p plan (state_map f g s) xs (store_map f store) (option_map (frame_map f g) (begun p m (r.entry_of (domain_of p m)) arguments))) (marked_alike f g entry frames)
        ∙ ap (pushed q p plan (state_map f g s) (all_marked (option_map g entry) (frames_map f g frames)) (store_map f store))
        (begun_alike f g p m (r.entry_of (domain_of p m)) arguments ∙ ap (λ e. begun p m e (values_map f arguments)) (agree (domain_of p m)))

    abbrev with_later : List (FrameOf K E) → Store K → ℕ → FrameOf L F → List (GuestOf L F) → State L F
    with_later below store cells y later = record {
      earlier = map (guest_map f g) s.earlier;
      running = record { frames = y ∷ frames_map f g below; inherited = option_map f s.running.inherited; runnable = s.running.runnable; failed = s.running.failed };
      later = later;
      table = added s.table;
      store = paid cells (store_map f store);
      turns = s.turns;
    }

    acted_alike : (frames : List (FrameOf K E)) (cells : ℕ) (act : Act K E) → outcome_map (state_map f g) (acted r p plan s frames cells act) ≡ acted q p plan (state_map f g s) (frames_map f g frames) cells (act_map f g act)
    unfolding acted
    acted_alike [] cells (Goes store values events) = refl
    acted_alike (x ∷ below) cells (Goes store values events) = ap (λ (y : FrameOf L F). Went (with_running (state_map f g s) (y ∷ frames_map f g below) (paid cells (store_map f store))) events) (onward_alike f g x values)
    acted_alike [] cells (Jumps to) = refl
    acted_alike (x ∷ below) cells (Jumps to) = refl
    acted_alike [] cells (Leaves values) = refl
    acted_alike (x ∷ below) cells (Leaves values) = left_alike below (paid cells s.store) values
    acted_alike frames cells (Calls m arguments entry) = calls_alike frames (paid cells s.store) m arguments entry
    acted_alike frames cells (Raises events class message) = raised_alike frames events (with_raised (paid cells s.store) class message) ∙ ap (raised q p plan (state_map f g s) (frames_map f g frames) events) (with_raised_alike f g (paid cells s.store) class message)
    acted_alike frames cells (Throws n) = at_alike frames (paid cells s.store) [] n
    acted_alike [] cells (Switches table) = refl
    acted_alike (x ∷ below) cells (Switches table) =
        turned_alike f g plan.schedule (with_table (with_running s (onward x [] ∷ below) (paid cells s.store)) table) []
        ∙ ap (λ (y : FrameOf L F). turned plan.schedule (with_table (with_running (state_map f g s) (y ∷ frames_map f g below) (paid cells (store_map f s.store))) table) []) (onward_alike f g x [])
    acted_alike [] cells (Makes store runnable k) = refl
    acted_alike (x ∷ below) cells (Makes store runnable k) =
        ap (λ (later : List (GuestOf L F)). Went (with_later below store cells (frame_map f g (onward x [])) later) []) (map-append (guest_map f g) s.later (guest r p plan s runnable k ∷ []))
        ∙ ap (λ (y : FrameOf L F). Went (with_later below store cells y (map (guest_map f g) s.later ++ guest_map f g (guest r p plan s runnable k) ∷ [])) []) (onward_alike f g x [])

    row_alike : (b : Bool) (frames : List (FrameOf K E)) (n : ℕ) (act : Act K E)
        → outcome_map (state_map f g) (if b then acted r p plan s frames n act else Over s [] ends.HeapFull) ≡ (if b then acted q p plan (state_map f g s) (frames_map f g frames) n (act_map f g act) else Over (state_map f g s) [] ends.HeapFull)
    row_alike true frames n act = acted_alike frames n act
    row_alike false frames n act = refl

    pub applied_alike : (frames : List (FrameOf K E)) (row : Row K E) → outcome_map (state_map f g) (applied r p plan s frames row) ≡ applied q p plan (state_map f g s) (frames_map f g frames) (row_map f g row)
    unfolding applied
    applied_alike frames row =
        row_alike (nat_le (charge_of row) s.store.left) frames (charge_of row) row.act
        ∙ ap (λ n. with_charge n) (ap (λ n. row.charge + n) (cells_alike f g row.act))
      where
        with_charge : ℕ → Outcome (State L F)
        with_charge n = if nat_le n s.store.left then acted q p plan (state_map f g s) (frames_map f g frames) n (act_map f g row.act) else Over (state_map f g s) [] ends.HeapFull

pub applied_law : (K L E F : Type 0) → AppliedAlike K L E F
applied_law K L E F f g r q agree p plan s frames row = applied_alike f g r q agree p plan s frames row
