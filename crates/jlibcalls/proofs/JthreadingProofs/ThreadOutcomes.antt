-- What calls of Thread come to.
use Rattle.std.proofs.Common.{◌≡◌, ◌∙◌, ℕ, zero, suc, ◌≤◌, Bool, not, List, [], ◌∷◌, length, map, drop, take, Option, Some, None, refl, sym, ap, ap₂, subst, arith}
use Rattle.std.specs.Prelude.{if◌then◌else◌, option_map, slice_get, slice_index_or, slice_set, true, false}
use Rattle.std.proofs.Math.Dec.{leb-zero}
use Rattle.jmemory.specs.declared.jheap.cell.Kind.{Kind}
use Rattle.jmemory.specs.declared.jheap.cell.Kind.TheVariants as kinds
use Rattle.jmemory.specs.jheap.Heaps as heaps
use Rattle.jmemory.specs.jheap.Heaps.{Heaped}
use Rattle.jvalues.specs.declared.jops.value.Value.{Value}
use Rattle.jvalues.specs.declared.jops.value.Value.TheVariants.{Int, Long, Ref, Ctx}
use Rattle.jlib.specs.declared.calls.ThreadCall.{ThreadCall}
use Rattle.jlib.specs.declared.calls.ThreadCall.TheVariants as threads
use Rattle.jlib.specs.declared.classes.Thrown.TheVariants as thrown
use Rattle.jlib.specs.declared.classes.LibClass.{LibClass}
use Rattle.jlib.specs.declared.classes.LibClass.TheVariants as lib
use Rattle.jresolution.specs.declared.jprogram.part.ClassRef.{ClassRef}
use Rattle.jresolution.specs.declared.jprogram.part.ClassRef.TheVariants as refs
use Rattle.jresolution.specs.jprogram.ProgramClasses.{Program}
use Rattle.jthreads.specs.declared.thread.Thread.{Thread}
use Rattle.jthreads.specs.declared.table.Joined.TheVariants.{AtOnce, Waits}
use Rattle.jthreads.specs.ThreadTables.{is_started, join_answer, joined, lives_at, table_after_start, thread_at, unstarted}
use Rattle.jsemantics.specs.declared.jmachine.plan.Plan.{Plan}
use Rattle.jsemantics.specs.jmachine.MachineStates.{FrameOf, NoStep, Outcome, Row, State, Switches, Went, free, gives, raises}
use Rattle.jsemantics.specs.jmachine.AccessCallRows.{thread_row}
use Rattle.jsemantics.specs.jmachine.FrameOperations.{with_operands}
use Rattle.jsemantics.specs.jmachine.Security.{Rules}
use Rattle.jsemantics.specs.jmachine.MachineSteps.{acted, applied, done, entries, site}
use Rattle.jsemantics.specs.jmachine.InstructionSites.{Site}
use Rattle.jsemantics.specs.jmachine.Store.{Store, object_at, object_of}
use Rattle.jsemantics.specs.jmachine.ThreadOperations.{joined_by, number_in, started, thread, waiting}
use Rattle.jsemantics.specs.jmachine.ThreadTurns.{thread_of, turned, with_running as state_running, with_table as state_table}
use Rattle.jruntime.specs.declared.jstate.shapes.Shape.{Shape}
use Rattle.jruntime.specs.declared.jstate.shapes.Shapes.{Shapes}
use Rattle.jruntime.specs.jstate.FrameLists.{Framed, all}
use Rattle.jruntime.specs.jstate.ClassNumbers.{class_numbered}
use Rattle.jruntime.specs.jstate.HeapMeanings as seen
use Rattle.jruntime.specs.jstate.HeapMeanings.{Things, class_by, first, kind_by, library_by, object_by, store_by}
use Rattle.jruntime.specs.jstate.HeapMeaningLaws.{SeesEach}
use Rattle.jrows.proofs.JactsProofs.Costs.{unpaid}
use Rattle.jrows.specs.jcalls.Throws.{raising}
use Rattle.jruntime.specs.declared.jguests.guests.Guests.{Guests}
use Rattle.jruntime.specs.declared.jguests.turns.Turned.{Turned}
use Rattle.jruntime.specs.jguests.TurnOutcomes.{Turns, outcome_of}
use Rattle.std.proofs.lemmas.List.{length-map, length-set, length-take-le}
use Rattle.jruntime.specs.jguests.GuestThreads.{AreGuests, guests_of, RunsAs, framed_as, guest_by, state_by, with_frames, with_table}
use Rattle.jlibcalls.specs.jthreading.ThreadObjects.{thread_by, thread_found, thread_in, thread_of_kind}
use Rattle.jlibcalls.specs.jthreading.ThreadFrames.{gone, lost}
use Rattle.jlibcalls.specs.jthreading.ThreadMethods.{MayCall, thread_called}

-- ---- which thread an object stands for

library_thread : (objects : List heaps.Object) (things : Things) (c : LibClass) (cells : List ℕ)
    → number_in (Some (library_by objects things c cells)) ≡ thread_by (refs.Lib c) cells
library_thread objects things lib.Thread cells = refl
library_thread objects things c cells = cc

class_thread : (shapes : Shapes) (objects : List heaps.Object) (things : Things) (c : ClassRef) (cells : List ℕ)
    → number_in (Some (class_by shapes objects things c cells)) ≡ thread_by c cells
class_thread shapes objects things (refs.User i) cells = user (slice_get shapes.users i)
  where
    user : (o : Option Shape) → number_in (Some (seen.user_by i o cells)) ≡ None
    user None = refl
    user (Some shape) = refl
class_thread shapes objects things (refs.Lib c) cells = library_thread objects things c cells

kind_thread : (p : Program) (shapes : Shapes) (objects : List heaps.Object) (things : Things) (kind : Kind) (cells : List ℕ)
    → number_in (Some (kind_by p shapes objects things kind cells)) ≡ thread_of_kind kind cells
kind_thread p shapes objects things (kinds.Object n) cells = class_thread shapes objects things (class_numbered n) cells
kind_thread p shapes objects things (kinds.Array n) cells = refl
kind_thread p shapes objects things kinds.Text cells = refl
kind_thread p shapes objects things kinds.Piece cells = refl

found_thread : (p : Program) (shapes : Shapes) (objects : List heaps.Object) (things : Things) (o : Option heaps.Object)
    → number_in (option_map (object_by p shapes objects things) o) ≡ thread_found o
found_thread p shapes objects things None = refl
found_thread p shapes objects things (Some x) = kind_thread p shapes objects things x.kind x.cells

pub seen_thread : SeesEach → (p : Program) (shapes : Shapes) (things : Things) (constants : List (List ℕ × ℕ)) (h : Heaped) (o : ℕ)
    → number_in (object_at (store_by p shapes things constants h) o) ≡ thread_in h (Ref o)
seen_thread sees p shapes things constants h o = ap number_in (sees p shapes things constants h o) ∙ found_thread p shapes h.objects things (heaps.object_at h o)

-- ---- what a row makes of the frames

module _ {E : Type 0} (r : Rules ℕ E) (p : Program) (plan : Plan) (s : State ℕ E) (f : Framed E) (count : ℕ) (call : ThreadCall) where
  -- the row of the call
  abbrev pub row : Option (Row ℕ E)
  row = thread_row r (site r p plan s f.newest f.below) s.store (entries r p plan s (all f)) s.running.inherited call (take count f.newest.operands)

  abbrev pub called : Outcome (State ℕ E)
  called = thread_called r p plan s f count call

  abbrev behind : FrameOf ℕ E
  behind = with_operands f.newest (drop count f.newest.operands)

  pub none_so : row ≡ None → called ≡ NoStep
  none_so is = ap (λ (o : Option (Row ℕ E)). done r p plan s f.below (option_map (λ x. record { frame = behind; row = x }) o)) is

  pub switches_so : (table : List Thread) → row ≡ Some (free (Switches table))
      → called ≡ turned plan.schedule (state_table (state_running s (all (gone count f)) s.store) table) []
  unfolding applied acted
  switches_so table is =
      ap (λ (o : Option (Row ℕ E)). done r p plan s f.below (option_map (λ x. record { frame = behind; row = x }) o)) is
      ∙ rw (leb-zero s.store.left, ← unpaid s.store) refl

  pub goes_so : row ≡ Some (gives s.store []) → called ≡ Went (state_running s (all (gone count f)) s.store) []
  unfolding applied acted
  goes_so is =
      ap (λ (o : Option (Row ℕ E)). done r p plan s f.below (option_map (λ x. record { frame = behind; row = x }) o)) is
      ∙ rw (leb-zero s.store.left, ← unpaid s.store) refl

  pub raises_so : (class : LibClass) → row ≡ Some (raises class) → called ≡ raising r p plan s (all (lost count f)) [] class
  unfolding applied acted
  raises_so class is = ap (λ (o : Option (Row ℕ E)). done r p plan s f.below (option_map (λ x. record { frame = behind; row = x }) o)) is

-- ---- the state behind it

pub framed_state : {E : Type 0} → RunsAs E → (g : Guests E) (f : Framed E) (store : Store ℕ)
    → state_running (state_by g store) (all f) store ≡ state_by (with_frames (Some f) g) store
framed_state runs g f store = sym (runs g (framed_as (Some f) g.running) store)

-- ---- operands

pub same_frames : {A : Type 0} (o : Option A) (x y : A) → o ≡ Some x → o ≡ Some y → x ≡ y
same_frames o x y a b = let e : Some x ≡ Some y = sym a ∙ b in cc

-- the frames of a call that may be made are these
pub few_are : {E : Type 0} (count : ℕ) (g : Guests E) (f : Framed E) → MayCall count g → g.running.frames ≡ Some f → count ≤ length f.newest.operands
few_are {E} count g f may runs = subst (λ (x : Framed E). count ≤ length x.newest.operands) (same_frames g.running.frames may.frames f may.runs runs) may.few

one_taken : (values : List (Value ℕ)) (v : Value ℕ) → slice_get values 0 ≡ Some v → take 1 values ≡ v ∷ []
one_taken [] v at = absurd cc
one_taken (x ∷ values) v at = let e : x ≡ v = cc in ap (λ y. y ∷ []) e

-- so many operands are taken
pub taken_many : (count : ℕ) (values : List (Value ℕ)) → count ≤ length values → length (take count values) ≡ count
taken_many zero values le = refl
taken_many (suc n) [] le = absurd (omega (arith, le))
taken_many (suc n) (v ∷ values) le = ap suc (taken_many n values (omega (arith, le)))

module _ {E : Type 0} (r : Rules ℕ E) (at : Site) (s : Store ℕ) (es : List E) (inherited : Option ℕ) where
  yield_none : (values : List (Value ℕ)) → (length values ≡ 0 → ⊥) → thread_row r at s es inherited threads.Yield values ≡ None
  unfolding thread_row thread
  yield_none [] some = absurd (some refl)
  yield_none (v ∷ values) some = refl

  start_none : (values : List (Value ℕ)) → (length values ≡ 1 → ⊥) → thread_row r at s es inherited threads.Start values ≡ None
  unfolding thread_row thread
  start_none [] other = refl
  start_none (Int x ∷ values) other = refl
  start_none (Long x ∷ values) other = refl
  start_none (Ctx x ∷ values) other = refl
  start_none (Ref n ∷ []) other = absurd (other refl)
  start_none (Ref n ∷ v ∷ values) other = refl

  join_none : (values : List (Value ℕ)) → (length values ≡ 1 → ⊥) → thread_row r at s es inherited threads.Join values ≡ None
  unfolding thread_row thread
  join_none [] other = refl
  join_none (Int x ∷ values) other = refl
  join_none (Long x ∷ values) other = refl
  join_none (Ctx x ∷ values) other = refl
  join_none (Ref n ∷ []) other = absurd (other refl)
  join_none (Ref n ∷ v ∷ values) other = refl

  -- the thread of an object
  abbrev thread_named : Value ℕ → Option ℕ
  thread_named v = number_in (object_of s v)

  start_one : (v : Value ℕ) → thread_row r at s es inherited threads.Start (v ∷ []) ≡ option_map (started at) (thread_named v)
  unfolding thread_row thread
  start_one (Int x) = refl
  start_one (Long x) = refl
  start_one (Ctx x) = refl
  start_one (Ref n) = refl

  join_one : (v : Value ℕ) → thread_row r at s es inherited threads.Join (v ∷ []) ≡ option_map (waiting at s) (thread_named v)
  unfolding thread_row thread
  join_one (Int x) = refl
  join_one (Long x) = refl
  join_one (Ctx x) = refl
  join_one (Ref n) = refl

-- ---- a thread that was started already

get_same : {A : Type 0} (xs : List A) (i : ℕ) (d : A) → slice_set xs i (slice_index_or xs i d) ≡ xs
get_same [] i d = refl
get_same (x ∷ xs) zero d = refl
get_same (x ∷ xs) (suc i) d = ap (λ ys. x ∷ ys) (get_same xs i d)

pub started_same : (table : List Thread) (t : ℕ) → is_started table t ≡ true → table_after_start t table ≡ table
started_same table t is =
    ap (λ b. slice_set table t (record (thread_at table t) { started = b })) (sym is) ∙ get_same table t unstarted

-- ---- what calls come to

module _ {E : Type 0} (sees : SeesEach) (runs : RunsAs E) (r : Rules ℕ E) (p : Program) (plan : Plan) (shapes : Shapes) (things : Things) (constants : List (List ℕ × ℕ))
    (heap : Heaped) (g : Guests E) (f : Framed E) where
  abbrev store : Store ℕ
  store = store_by p shapes things constants heap

  abbrev state : State ℕ E
  state = state_by g store

  abbrev here : Site
  here = site r p plan state f.newest f.below

  abbrev es : List E
  es = entries r p plan state (all f)

  -- a turn is given up
  turn_so : (count : ℕ) (call : ThreadCall) (table : List Thread) (schedule : List ℕ) (mid h : Guests E) (done : Turned) → g.running.frames ≡ Some f → plan.schedule ≡ schedule
      → row r p plan state f count call ≡ Some (free (Switches table)) → mid ≡ with_table table (with_frames (option_map (gone count) g.running.frames) g) → Turns schedule mid done h
      → thread_called r p plan state f count call ≡ outcome_of done h store []
  turn_so count call table schedule mid h done frames sched is mids turns =
      let same : state_table (state_running state (all (gone count f)) store) table ≡ state_by mid store =
      ap (λ (x : State ℕ E). state_table x table) (framed_state runs g (gone count f) store)
      ∙ ap (λ (x : Guests E). state_by x store) (ap (λ o. with_table table (with_frames (option_map (gone count) o) g)) (sym frames) ∙ sym mids) in
      switches_so r p plan state f count call table is
      ∙ ap₂ (λ (n : List ℕ) (x : State ℕ E). turned n x []) sched same
      ∙ turns store []

  pub yield_stuck : (count : ℕ) → MayCall count g → g.running.frames ≡ Some f → (count ≡ 0 → ⊥) → thread_called r p plan state f count threads.Yield ≡ NoStep
  yield_stuck count may frames other =
      let len = taken_many count f.newest.operands (few_are count g f may frames) in
      none_so r p plan state f count threads.Yield (yield_none r here store es g.running.inherited (take count f.newest.operands) (λ e. other (sym len ∙ e)))

  pub start_stuck : (count : ℕ) → MayCall count g → g.running.frames ≡ Some f → (count ≡ 1 → ⊥) → thread_called r p plan state f count threads.Start ≡ NoStep
  start_stuck count may frames other =
      let len = taken_many count f.newest.operands (few_are count g f may frames) in
      none_so r p plan state f count threads.Start (start_none r here store es g.running.inherited (take count f.newest.operands) (λ e. other (sym len ∙ e)))

  pub join_stuck : (count : ℕ) → MayCall count g → g.running.frames ≡ Some f → (count ≡ 1 → ⊥) → thread_called r p plan state f count threads.Join ≡ NoStep
  join_stuck count may frames other =
      let len = taken_many count f.newest.operands (few_are count g f may frames) in
      none_so r p plan state f count threads.Join (join_none r here store es g.running.inherited (take count f.newest.operands) (λ e. other (sym len ∙ e)))

  pub yield_so : (schedule : List ℕ) (mid h : Guests E) (done : Turned) → g.running.frames ≡ Some f → plan.schedule ≡ schedule
      → mid ≡ with_frames (option_map (gone 0) g.running.frames) g → Turns schedule mid done h → thread_called r p plan state f 0 threads.Yield ≡ outcome_of done h store []
  unfolding thread_row thread
  yield_so schedule mid h done frames sched mids turns = turn_so 0 threads.Yield g.table schedule mid h done frames sched refl mids turns

  -- the thread of the operand
  named : (v : Value ℕ) → number_in (object_of store v) ≡ thread_in heap v
  named (Int x) = refl
  named (Long x) = refl
  named (Ctx x) = refl
  named (Ref n) = seen_thread sees p shapes things constants heap n

  start_row : (v : Value ℕ) (o : Option ℕ) → slice_get f.newest.operands 0 ≡ Some v → thread_in heap v ≡ o → row r p plan state f 1 threads.Start ≡ option_map (started here) o
  start_row v o at is =
      ap (thread_row r here store es g.running.inherited threads.Start) (one_taken f.newest.operands v at)
      ∙ start_one r here store es g.running.inherited v ∙ ap (option_map (started here)) (named v ∙ is)

  join_row : (v : Value ℕ) (o : Option ℕ) → slice_get f.newest.operands 0 ≡ Some v → thread_in heap v ≡ o → row r p plan state f 1 threads.Join ≡ option_map (waiting here store) o
  join_row v o at is =
      ap (thread_row r here store es g.running.inherited threads.Join) (one_taken f.newest.operands v at)
      ∙ join_one r here store es g.running.inherited v ∙ ap (option_map (waiting here store)) (named v ∙ is)

  pub start_nobody : (v : Value ℕ) → slice_get f.newest.operands 0 ≡ Some v → thread_in heap v ≡ None → thread_called r p plan state f 1 threads.Start ≡ NoStep
  start_nobody v at is = none_so r p plan state f 1 threads.Start (start_row v None at is)

  pub join_nobody : (v : Value ℕ) → slice_get f.newest.operands 0 ≡ Some v → thread_in heap v ≡ None → thread_called r p plan state f 1 threads.Join ≡ NoStep
  join_nobody v at is = none_so r p plan state f 1 threads.Join (join_row v None at is)

  -- one that was started raises an exception
  pub start_raises : (v : Value ℕ) (t : ℕ) → slice_get f.newest.operands 0 ≡ Some v → thread_in heap v ≡ Some t → is_started g.table t ≡ true
      → thread_called r p plan state f 1 threads.Start ≡ raising r p plan state (all (lost 1 f)) [] (lib.Thrown thrown.IllegalThreadStateException)
  start_raises v t at is before =
      raises_so r p plan state f 1 threads.Start (lib.Thrown thrown.IllegalThreadStateException)
      (start_row v (Some t) at is ∙ ap (λ b. Some (if b then raises (lib.Thrown thrown.IllegalThreadStateException) else free (Switches (table_after_start t g.table)))) before)

  pub start_so : (v : Value ℕ) (t : ℕ) (schedule : List ℕ) (mid h : Guests E) (done : Turned) → slice_get f.newest.operands 0 ≡ Some v → thread_in heap v ≡ Some t → is_started g.table t ≡ false
      → g.running.frames ≡ Some f → plan.schedule ≡ schedule → mid ≡ with_table (table_after_start t g.table) (with_frames (option_map (gone 1) g.running.frames) g) → Turns schedule mid done h
      → thread_called r p plan state f 1 threads.Start ≡ outcome_of done h store []
  start_so v t schedule mid h done at is first frames sched mids turns =
      turn_so 1 threads.Start (table_after_start t g.table) schedule mid h done frames sched
      (start_row v (Some t) at is ∙ ap (λ b. Some (if b then raises (lib.Thrown thrown.IllegalThreadStateException) else free (Switches (table_after_start t g.table)))) first) mids turns

  -- one that has ended, or wasn't started, isn't waited for
  pub join_goes : (v : Value ℕ) (t : ℕ) (mid : Guests E) → slice_get f.newest.operands 0 ≡ Some v → thread_in heap v ≡ Some t → join_answer t g.table ≡ AtOnce
      → g.running.frames ≡ Some f → mid ≡ with_frames (option_map (gone 1) g.running.frames) g
      → thread_called r p plan state f 1 threads.Join ≡ Went (state_by mid store) []
  join_goes v t mid at is once frames mids =
      goes_so r p plan state f 1 threads.Join (join_row v (Some t) at is ∙ ap (λ a. Some (joined_by here store t a)) once)
      ∙ ap (λ (x : State ℕ E). Went x []) (framed_state runs g (gone 1 f) store
      ∙ ap (λ (x : Guests E). state_by x store) (ap (λ o. with_frames (option_map (gone 1) o) g) (sym frames) ∙ sym mids))

  pub join_so : (v : Value ℕ) (t : ℕ) (schedule : List ℕ) (mid h : Guests E) (done : Turned) → slice_get f.newest.operands 0 ≡ Some v → thread_in heap v ≡ Some t → join_answer t g.table ≡ Waits
      → g.running.frames ≡ Some f → plan.schedule ≡ schedule → mid ≡ with_table (joined (thread_of state) t g.table) (with_frames (option_map (gone 1) g.running.frames) g) → Turns schedule mid done h
      → thread_called r p plan state f 1 threads.Join ≡ outcome_of done h store []
  join_so v t schedule mid h done at is waits frames sched mids turns =
      turn_so 1 threads.Join (joined (thread_of state) t g.table) schedule mid h done frames sched
      (join_row v (Some t) at is ∙ ap (λ a. Some (joined_by here store t a)) waits) mids turns

pub at_is : {E : Type 0} (g : Guests E) (store : Store ℕ) → AreGuests g → thread_of (state_by g store) ≡ g.at
at_is g store are =
    let some = length-map g.others.items guest_by in
    let all = length-set (map guest_by g.others.items) g.at (guest_by g.running) in
    length-take-le g.at (guests_of g) (omega (arith, are.at, some, all))

-- ---- what may be called

may_still : {E : Type 0} (count : ℕ) (table : List Thread) (g : Guests E) → MayCall count g → MayCall count (with_table table g)
may_still count table g may = record { frames = may.frames; runs = may.runs; few = may.few; place = may.place }

pub may_behind : {E : Type 0} (count : ℕ) (table : List Thread) (g h : Guests E) → h ≡ with_table table g → MayCall count g → MayCall count h
may_behind {E} count table g h is may = subst (λ (x : Guests E). MayCall count x) (sym is) (may_still count table g may)

pub is_true : (a b : Bool) → a ≡ not b → a ≡ true → b ≡ false
is_true a true e t = cc
is_true a false e t = refl

pub is_false : (a b : Bool) → a ≡ not b → a ≡ false → b ≡ true
is_false a true e f = refl
is_false a false e f = cc

pub joined_same : (table : List Thread) (me t : ℕ) → join_answer t table ≡ AtOnce → joined me t table ≡ table
joined_same table me t once = by_life (lives_at table t) once
  where
    by_life : (b : Bool) → (if b then Waits else AtOnce) ≡ AtOnce
        → (if b then slice_set table me (record (thread_at table me) { waits_for = Some t }) else table) ≡ table
    by_life true e = cc
    by_life false e = refl
