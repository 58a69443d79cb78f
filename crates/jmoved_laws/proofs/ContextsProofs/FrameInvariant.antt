-- The frames of a moved program's run: where the newest one of a thread is told a domain, the domain is its newest operand; and no older one
-- goes on where it is told one.
use Rattle.std.proofs.Common.{◌≡◌, ℕ, zero, suc, ◌+◌, Bool, true, false, List, [], ◌∷◌, ◌++◌, length, drop, map, take, Option, Some, None, option_map, refl, sym, ap, subst, ◌∙◌}
use Rattle.std.specs.Prelude.{IfSome, nat_le, slice_get, if◌then◌else◌}
use Rattle.std.specs.List.{AllByRecursion}
use Rattle.jclass.specs.declared.class.CodeBody.{CodeBody}
use Rattle.jlib.specs.declared.classes.LibClass.{LibClass}
use Rattle.jthreads.specs.Schedule.{picked}
use Rattle.jthreads.specs.ThreadTables.{runnable_numbers}
use Rattle.joutput.specs.declared.jtrace.event.Event.{Event}
use Rattle.joutput.specs.declared.jtrace.event.End.TheVariants.{HeapFull}
use Rattle.jtypes.specs.declared.vtype.VType.{VType}
use Rattle.jresolution.specs.declared.jprogram.member.Member.{Member}
use Rattle.jresolution.specs.declared.jprogram.member.MethodId.{MethodId}
use Rattle.jresolution.specs.jprogram.ProgramClasses.{Program}
use Rattle.jresolution.proofs.JprogramProofs.NameReachability.{clash}
use Rattle.jresolution.specs.juses.IndexedInstructions.{Instruction, code_at}
use Rattle.jctx.specs.declared.item.Item.{Item}
use Rattle.jsemantics.specs.declared.jmachine.plan.Plan.{Plan}
use Rattle.jsemantics.specs.jmachine.MachineStates.{Goes, Jumps, Leaves, Calls, Raises, Throws, Switches, Makes, Outcome, Went, Over, NoStep, charge_of}
use Rattle.jsemantics.specs.jmachine.CallTargets.{Fails, Pushes, Runs, Target, by_interface}
use Rattle.jsemantics.specs.jmachine.InstructionActions.{Doing, doing}
use Rattle.jsemantics.specs.jmachine.FrameOperations.{all_marked, begun, domain_of, frame_of, onward, standing}
use Rattle.jsemantics.specs.jmachine.HeapObjects.{Object, class_of}
use Rattle.jsemantics.specs.jmachine.OpeningState.{opening_state}
use Rattle.jsemantics.specs.jmachine.TakenOperands.{taken}
use Rattle.jsemantics.specs.jmachine.Security.{Rules}
use Rattle.jsemantics.specs.jmachine.InstructionSites.{Site}
use Rattle.jsemantics.specs.jmachine.MachineSteps.{acted, applied, begins, begun_on, done, executed, fetched, first_done, first_row, guest, left, own_fields, pushed, run_call, site, step, step_at, thrown, thrown_at, thrown_to}
use Rattle.jsemantics.specs.jmachine.Store.{Store, object_at, paid}
use Rattle.jsemantics.specs.jmachine.BasicInstructions.{simple}
use Rattle.jsemantics.specs.jmachine.ThreadTurns.{ended, given_to, guests, turn_of, turned, with_ended, with_running, with_table}
use Rattle.jsemantics.specs.jmachine.Unwinding.{caught, handler_at, resumed, unwound, with_raised}
use Rattle.jsemantics.specs.jmachine.World.{world}
use Rattle.jsimulation_laws.specs.relation.InstructionExpansion.{push}
use Rattle.jmoved_laws.proofs.ContextsProofs.Asks.{IsPushed}
use Rattle.jmoved_laws.proofs.ContextsProofs.DomainPushes.{Guards}
use Rattle.jmoved_laws.proofs.ContextsProofs.JumplessRows.{Frame, Guest, PlainAct, PlainRow, Point, Word}
use Rattle.jmoved_laws.proofs.ContextsProofs.JumpTargets.{Does, LeadsWell, instruction_does}
use Rattle.jmoved_laws.proofs.ContextsProofs.DomainCalls.{told_at}
use Rattle.std.specs.Option.{option_to_list}

-- ---- lists

pub all_both : {A : Type 0} (P : A → Type 0) (xs ys : List A) → AllByRecursion P xs → AllByRecursion P ys → AllByRecursion P (xs ++ ys)
all_both P [] ys a b = b
all_both P (x ∷ xs) ys a b = (a.0, all_both P xs ys a.1 b)

all_take : {A : Type 0} (P : A → Type 0) (n : ℕ) (xs : List A) → AllByRecursion P xs → AllByRecursion P (take n xs)
all_take P zero xs h = tt
all_take P (suc n) [] h = tt
all_take P (suc n) (x ∷ xs) h = (h.0, all_take P n xs h.1)

all_drop : {A : Type 0} (P : A → Type 0) (n : ℕ) (xs : List A) → AllByRecursion P xs → AllByRecursion P (drop n xs)
all_drop P zero xs h = h
all_drop P (suc n) [] h = tt
all_drop P (suc n) (x ∷ xs) h = all_drop P n xs h.1

all_at : {A : Type 0} (P : A → Type 0) (n : ℕ) (xs : List A) → AllByRecursion P xs → IfSome (slice_get xs n) P
all_at P n [] h = tt
all_at P zero (x ∷ xs) h = h.0
all_at P (suc n) (x ∷ xs) h = all_at P n xs h.1

module _ (q : Program) (guards : Guards q) where
  -- ---- states

  -- what is told no domain behind its call
  abbrev GoesOn : Frame → Type 0
  GoesOn f = told_at q f.method (f.place + 1) ≡ false

  abbrev AllGoOn : List Frame → Type 0
  AllGoOn fs = AllByRecursion GoesOn fs

  abbrev pub AreGuarded : List Frame → Type 0
  AreGuarded [] = Unit {0}
  AreGuarded (f ∷ below) = IsPushed q f × AllGoOn below

  abbrev IsGuarded : Guest → Type 0
  IsGuarded x = AreGuarded x.frames

  pub record IsGuardedState (s : Point) : Type 0 where
    pub earlier : AllByRecursion IsGuarded s.earlier
    pub running : AreGuarded s.running.frames
    pub later : AllByRecursion IsGuarded s.later

  abbrev pub ComesGuarded : Outcome Point → Type 0
  ComesGuarded (Went s events) = IsGuardedState s
  ComesGuarded (Over s events end) = IsGuardedState s
  ComesGuarded NoStep = Unit {0}

  not_pushed : (f : Frame) → told_at q f.method f.place ≡ false → IsPushed q f
  not_pushed f quiet told = clash (told_at q f.method f.place) told quiet

  ran : (s : Point) (frames : List Frame) (store : Store (List Item)) → IsGuardedState s → AreGuarded frames → IsGuardedState (with_running s frames store)
  ran s frames store h are = record { earlier = h.earlier; running = are; later = h.later }

  -- ---- turns

  all_guests : (s : Point) → IsGuardedState s → AllByRecursion IsGuarded (guests s)
  all_guests s h = all_both IsGuarded s.earlier (s.running ∷ s.later) h.earlier (h.running, h.later)

  given_stays : (s : Point) (events : List Event) (t : ℕ) (o : Option Guest) → IsGuardedState s → IfSome o IsGuarded → ComesGuarded (given_to s events t o)
  given_stays s events t None h is = tt
  given_stays s events t (Some x) h is = record {
    earlier = all_take IsGuarded t (guests s) (all_guests s h);
    running = is;
    later = all_drop IsGuarded (t + 1) (guests s) (all_guests s h);
  }

  turn_stays : (s : Point) (events : List Event) (o : Option ℕ) → IsGuardedState s → ComesGuarded (turn_of s events o)
  turn_stays s events None h = h
  turn_stays s events (Some t) h = given_stays s events t (slice_get (guests s) t) h (all_at IsGuarded t (guests s) (all_guests s h))

  turned_stays : (schedule : List ℕ) (s : Point) (events : List Event) → IsGuardedState s → ComesGuarded (turned schedule s events)
  unfolding turned
  turned_stays schedule s events h = turn_stays s events (picked schedule s.turns (runnable_numbers s.table)) h

  ended_stays : (schedule : List ℕ) (s : Point) (store : Store (List Item)) (failed : Bool) (events : List Event) → IsGuardedState s → ComesGuarded (ended schedule s store failed events)
  ended_stays schedule s store failed events h = turned_stays schedule (with_ended s store failed) events (record { earlier = h.earlier; running = tt; later = h.later })

  -- ---- acts

  module _ (r : Rules (List Item) (Unit {0})) (plan : Plan) (s : Point) (state : IsGuardedState s) where
    abbrev Tail : List Frame → Type 0
    Tail [] = Unit {0}
    Tail (f ∷ below) = AllGoOn below

    tail_of : (fs : List Frame) → AllGoOn fs → Tail fs
    tail_of [] h = tt
    tail_of (f ∷ fs) h = h.1

    caught_stays : (class : VType) (n : ℕ) (f : Frame) (below : List Frame) → AllGoOn below → (o : Option ℕ) → handler_at q class f.method f.place ≡ o → (rest : Option (List Frame)) → IfSome rest AreGuarded
        → IfSome (caught r.entry_of q n f below o rest) AreGuarded
    caught_stays class n f below older None e rest h = h
    caught_stays class n f below older (Some to) e rest h = (λ told. clash (told_at q f.method to) told (guards.handles f.method class f.place to e), older)

    unwound_stays : (class : VType) (n : ℕ) (fs : List Frame) → Tail fs → IfSome (unwound r.entry_of q class n fs) AreGuarded
    unfolding unwound
    unwound_stays class n [] h = tt
    unwound_stays class n (f ∷ below) h =
        caught_stays class n f below h (handler_at q class f.method f.place) refl (unwound r.entry_of q class n below) (unwound_stays class n below (tail_of below h))

    to_stays : (store : Store (List Item)) (events : List Event) (class : VType) (o : Option (List Frame)) → IfSome o AreGuarded → ComesGuarded (thrown_to r q plan s store events class o)
    to_stays store events class None h = ended_stays plan.schedule s store true _ state
    to_stays store events class (Some fs) h = ran s fs store state h

    thrown_stays : (fs : List Frame) (store : Store (List Item)) (events : List Event) (n : ℕ) (o : Option (Object (List Item))) → Tail fs → ComesGuarded (thrown r q plan s fs store events n o)
    thrown_stays fs store events n None h = tt
    thrown_stays fs store events n (Some x) h =
        let class = class_of (world q).named x in
        to_stays store events class (unwound r.entry_of q class n fs) (unwound_stays class n fs h)

    thrown_at_stays : (fs : List Frame) (store : Store (List Item)) (events : List Event) (n : ℕ) → Tail fs → ComesGuarded (thrown_at r q plan s fs store events n)
    thrown_at_stays fs store events n h = thrown_stays fs store events n (object_at store n) h

    begun_stays : (fs : List Frame) (store : Store (List Item)) (m : MethodId) (entry : Unit {0}) (arguments : List Word) (o : Option CodeBody) → AllGoOn fs
        → ComesGuarded (pushed r q plan s fs store (option_map (frame_of m entry arguments) o))
    begun_stays fs store m entry arguments None h = tt
    begun_stays fs store m entry arguments (Some body) h = ran s (frame_of m entry arguments body ∷ fs) store state (not_pushed (frame_of m entry arguments body) (guards.first m), h)

    pushed_stays : (fs : List Frame) (store : Store (List Item)) (m : MethodId) (arguments : List Word) → AllGoOn fs
        → ComesGuarded (pushed r q plan s fs store (begun q m (r.entry_of (domain_of q m)) arguments))
    pushed_stays fs store m arguments h = begun_stays fs store m (r.entry_of (domain_of q m)) arguments (code_at q m) h

    left_stays : (below : List Frame) (store : Store (List Item)) (values : List Word) → AllGoOn below → ComesGuarded (left r q plan s below store values)
    left_stays [] store values h = ended_stays plan.schedule s store false [] state
    left_stays (g ∷ below) store values h =
        ran s (resumed r.entry_of q g (g.place + 1) (values ++ g.operands) ∷ below) store state (λ told. clash (told_at q g.method (g.place + 1)) told h.0, h.1)

    -- what an act leaves, where a frame has its operands taken
    abbrev After : Frame → PlainAct → Type 0
    After f (Goes t values events) = IsPushed q (onward f values)
    After f (Jumps to) = told_at q f.method to ≡ false
    After f (Leaves values) = Unit {0}
    After f (Calls m arguments entry) = GoesOn f
    After f (Raises events class message) = Unit {0}
    After f (Throws n) = Unit {0}
    After f (Switches table) = IsPushed q (onward f [])
    After f (Makes t runnable kept) = IsPushed q (onward f [])

    marked_on : (entry : Option (Unit {0})) (f : Frame) (below : List Frame) → GoesOn f → AllGoOn below → AllGoOn (all_marked entry (f ∷ below))
    marked_on None f below h older = (h, older)
    marked_on (Some e) f below h older = (h, older)

    acted_stays : (f : Frame) (below : List Frame) (cells : ℕ) (act : PlainAct) → AllGoOn below → After f act → ComesGuarded (acted r q plan s (f ∷ below) cells act)
    unfolding acted
    acted_stays f below cells (Goes t values events) older h = ran s (onward f values ∷ below) (paid cells t) state (h, older)
    acted_stays f below cells (Jumps to) older h = ran s (standing f to f.operands ∷ below) (paid cells s.store) state (λ told. clash (told_at q f.method to) told h, older)
    acted_stays f below cells (Leaves values) older h = left_stays below (paid cells s.store) values older
    acted_stays f below cells (Calls m arguments entry) older h = pushed_stays (all_marked entry (f ∷ below)) (paid cells s.store) m arguments (marked_on entry f below h older)
    acted_stays f below cells (Raises events class message) older h =
        let t = with_raised (paid cells s.store) class message in
        thrown_at_stays (f ∷ below) t events (length t.objects) older
    acted_stays f below cells (Throws n) older h = thrown_at_stays (f ∷ below) (paid cells s.store) [] n older
    acted_stays f below cells (Switches table) older h =
        turned_stays plan.schedule (with_table (with_running s (onward f [] ∷ below) (paid cells s.store)) table) []
        (record { earlier = state.earlier; running = (h, older); later = state.later })
    acted_stays f below cells (Makes t runnable kept) older h = record {
      earlier = state.earlier;
      running = (h, older);
      later = all_both IsGuarded s.later (guest r q plan s runnable kept ∷ []) state.later (tt, tt);
    }

    -- a charge above what is left ends the run
    applied_stays : (fs : List Frame) (row : PlainRow) → ((cells : ℕ) → ComesGuarded (acted r q plan s fs cells row.act)) → ComesGuarded (applied r q plan s fs row)
    unfolding applied
    applied_stays fs row h = by (nat_le (charge_of row) s.store.left)
      where
        by : (b : Bool) → ComesGuarded (if b then acted r q plan s fs (charge_of row) row.act else Over s [] HeapFull)
        by true = h (charge_of row)
        by false = state

    -- ---- instructions

    abbrev entries : List Frame → List (Unit {0})
    entries fs = map (λ f. f.entry) fs

    -- where nothing is told behind it, a frame goes on as it may
    quiet_after : (f : Frame) (act : PlainAct) → GoesOn f → LeadsWell (λ to. told_at q f.method to ≡ false) act → After f act
    quiet_after f (Goes t values events) on h = not_pushed (onward f values) on
    quiet_after f (Jumps to) on h = h
    quiet_after f (Leaves values) on h = tt
    quiet_after f (Calls m arguments entry) on h = on
    quiet_after f (Raises events class message) on h = tt
    quiet_after f (Throws n) on h = tt
    quiet_after f (Switches table) on h = not_pushed (onward f []) on
    quiet_after f (Makes t runnable kept) on h = not_pushed (onward f []) on

    abbrev IsDone : Doing (List Item) (Unit {0}) → Type 0
    IsDone d = After d.frame d.row.act

    done_quiet : (f : Frame) → GoesOn f → (d : Doing (List Item) (Unit {0})) → Does (λ to. told_at q f.method to ≡ false) f d → IsDone d
    done_quiet f on d h =
        quiet_after d.frame d.row.act (ap (λ (m : MethodId). told_at q m (d.frame.place + 1)) h.method ∙ ap (λ (n : ℕ). told_at q f.method (n + 1)) h.place ∙ on)
        (subst (λ (m : MethodId). LeadsWell (λ to. told_at q m to ≡ false) d.row.act) (sym h.method) h.leads)

    all_quiet : (f : Frame) → GoesOn f → (o : Option (Doing (List Item) (Unit {0}))) → IfSome o (Does (λ to. told_at q f.method to ≡ false) f) → IfSome o IsDone
    all_quiet f on None h = tt
    all_quiet f on (Some d) h = done_quiet f on d h

    -- the instruction that pushes the domain
    push_done : (at : Site) (own : Member → Bool) (es : List (Unit {0})) (inherited : Option (List Item)) (f : Frame)
        → IfSome (doing r at own s.store es inherited (push (domain_of q f.method)) f) IsDone
    unfolding doing taken simple
    push_done at own es inherited f = λ told. (f.operands, refl)

    instruction_done : (at : Site) (own : Member → Bool) (es : List (Unit {0})) (inherited : Option (List Item)) (f : Frame) (i : Instruction) → fetched q f.method f.place ≡ Some i
        → (b : Bool) → told_at q f.method (f.place + 1) ≡ b → IfSome (doing r at own s.store es inherited i f) IsDone
    instruction_done at own es inherited f i e false quiet =
        all_quiet f quiet (doing r at own s.store es inherited i f)
        (instruction_does (λ to. told_at q f.method to ≡ false) r at own s.store es inherited i f (guards.leads f.method f.place i e))
    instruction_done at own es inherited f i e true told =
        let both : Some i ≡ Some (push (domain_of q f.method)) = sym e ∙ guards.behind f.method f.place told in
        let same : i ≡ push (domain_of q f.method) = cc in
        subst (λ (x : Instruction). IfSome (doing r at own s.store es inherited x f) IsDone) (sym same) (push_done at own es inherited f)

    done_stays : (below : List Frame) (o : Option (Doing (List Item) (Unit {0}))) → AllGoOn below → IfSome o IsDone → ComesGuarded (done r q plan s below o)
    done_stays below None older h = tt
    done_stays below (Some d) older h = applied_stays (d.frame ∷ below) d.row (λ cells. acted_stays d.frame below cells d.row.act older h)

    executed_stays : (f : Frame) (below : List Frame) (o : Option Instruction) → fetched q f.method f.place ≡ o → AllGoOn below → ComesGuarded (executed r q plan s f below o)
    executed_stays f below None e older = tt
    executed_stays f below (Some i) e older =
        done_stays below (doing r (site r q plan s f below) (own_fields q f.method) s.store (entries (f ∷ below)) s.running.inherited i f) older
        (instruction_done (site r q plan s f below) (own_fields q f.method) (entries (f ∷ below)) s.running.inherited f i e (told_at q f.method (f.place + 1)) refl)

    -- ---- the beginning of a thread

    raised_alone : (cells : ℕ) (class : LibClass) → ComesGuarded (acted r q plan s [] cells (Raises [] class None))
    unfolding acted
    raised_alone cells class = let t = with_raised (paid cells s.store) class None in thrown_at_stays [] t [] (length t.objects) tt

    pushed_alone : (cells : ℕ) (m : MethodId) (arguments : List Word) → ComesGuarded (acted r q plan s [] cells (Calls m arguments None))
    unfolding acted
    pushed_alone cells m arguments = pushed_stays [] (paid cells s.store) m arguments tt

    first_stays : (n : ℕ) (t : Target) → ComesGuarded (first_done r q plan s (first_row r q plan s n t))
    first_stays n (Fails class) = applied_stays [] _ (λ cells. raised_alone cells class)
    first_stays n (Pushes m) = applied_stays [] _ (λ cells. pushed_alone cells m _)
    first_stays n (Runs call) = tt

    begun_on_stays : (n : ℕ) (o : Option (Object (List Item))) → ComesGuarded (begun_on r q plan s n o)
    begun_on_stays n None = tt
    begun_on_stays n (Some x) = first_stays n (by_interface (world q) false (run_call r q plan s) x)

    begins_stays : (n : ℕ) → ComesGuarded (begins r q plan s n)
    begins_stays zero = ended_stays plan.schedule s s.store false [] state
    begins_stays (suc n) = begun_on_stays (suc n) (object_at s.store (suc n))

    -- ---- a step

    at_stays : (fs : List Frame) → AreGuarded fs → ComesGuarded (step_at r q plan s fs)
    at_stays [] h = begins_stays s.running.runnable
    at_stays (f ∷ below) h = executed_stays f below (fetched q f.method f.place) refl h.1

    pub step_stays : ComesGuarded (step r q plan s)
    unfolding step
    step_stays = at_stays s.running.frames state.running

  -- ---- the state in which a run begins

  first_guarded : (m : MethodId) (entry : Unit {0}) (arguments : List Word) (o : Option CodeBody) → AreGuarded (option_to_list (option_map (frame_of m entry arguments) o))
  first_guarded m entry arguments None = tt
  first_guarded m entry arguments (Some body) = (not_pushed (frame_of m entry arguments body) (guards.first m), tt)

  pub opens_guarded : (r : Rules (List Item) (Unit {0})) (m : MethodId) (heap : ℕ) → IsGuardedState (opening_state r q m heap)
  unfolding opening_state
  opens_guarded r m heap = record { earlier = tt; running = first_guarded m (r.entry_of (domain_of q m)) _ (code_at q m); later = tt }
