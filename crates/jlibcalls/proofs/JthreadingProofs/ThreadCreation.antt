-- Threads that are made.
use Rattle.std.proofs.Common.{◌≡◌, ◌∙◌, ℕ, suc, ◌+◌, ◌≤◌, ◌<◌, Bool, List, [], ◌∷◌, ◌++◌, length, map, drop, take, Option, Some, None, refl, sym, ap, ap₂, subst, arith}
use Rattle.std.specs.Prelude.{if◌then◌else◌, option_map, slice_set, true, false, unwrap_or}
use Rattle.std.proofs.Math.Dec.{leb-zero}
use Rattle.std.proofs.lemmas.List.{drop-append-le, length-map, length-set, take-append-le}
use Rattle.jmemory.specs.declared.jheap.cell.Kind.{Kind}
use Rattle.jmemory.specs.declared.jheap.cell.Kind.TheVariants as kinds
use Rattle.jmemory.specs.jheap.Heaps as heaps
use Rattle.jmemory.specs.jheap.Heaps.{Heaped}
use Rattle.jvalues.specs.declared.jops.value.Value.{Value}
use Rattle.jvalues.specs.declared.jops.value.Value.TheVariants.{Int, Long, Ref, Ctx}
use Rattle.jlib.specs.declared.calls.ThreadCall.TheVariants as threads
use Rattle.jlib.specs.declared.classes.LibClass.TheVariants as lib
use Rattle.jlib.specs.declared.side.Side.{Side}
use Rattle.jlib.specs.declared.side.Side.TheVariants.{Passing, Source}
use Rattle.jresolution.specs.declared.jprogram.part.ClassRef.{ClassRef}
use Rattle.jresolution.specs.declared.jprogram.part.ClassRef.TheVariants as refs
use Rattle.jresolution.specs.jprogram.ProgramClasses.{Program}
use Rattle.jthreads.specs.declared.thread.Thread.{Thread as ThreadOf}
use Rattle.jthreads.specs.ThreadTables.{added}
use Rattle.jsemantics.specs.declared.jmachine.plan.Plan.{Plan}
use Rattle.jsemantics.specs.jmachine.MachineStates.{GuestOf, Makes, Row, State, Went, free}
use Rattle.jsemantics.specs.jmachine.AccessCallRows.{thread_made, thread_row}
use Rattle.jsemantics.specs.jmachine.FrameOperations.{with_operands}
use Rattle.jsemantics.specs.jmachine.HeapObjects.{Object, Thread}
use Rattle.jsemantics.specs.jmachine.Security.{Rules, handed}
use Rattle.jsemantics.specs.jmachine.InstructionSites.{Site}
use Rattle.jsemantics.specs.jmachine.MachineSteps.{acted, applied, done, guest}
use Rattle.jsemantics.specs.jmachine.Store.{Store, object_at, with_object}
use Rattle.jsemantics.specs.jmachine.ThreadTurns.{with_guest, with_running as state_running}
use Rattle.jruntime.specs.declared.jstate.shapes.Shapes.{Shapes}
use Rattle.jruntime.specs.jstate.ObjectCells.{AreCelled, HasWanted, class_cells}
use Rattle.jruntime.specs.jstate.FrameLists.{Framed, all}
use Rattle.jruntime.specs.jstate.ClassNumbers.{class_numbered}
use Rattle.jruntime.specs.jstate.HeapMeanings.{Things, kind_by, number_in, first, object_by, store_by, values_of}
use Rattle.jruntime.specs.jstate.HeapMeaningLaws.{IsNoPiece, SeesEach, Writes}
use Rattle.jrows.proofs.JactsProofs.Costs.{unpaid}
use Rattle.jruntime.specs.declared.jguests.guests.Guests.{Guests}
use Rattle.jruntime.specs.declared.jguests.guests.Guest.{Guest}
use Rattle.jruntime.specs.jguests.GuestThreads.{AreGuests, guest_by, guests_of, state_by}
use Rattle.jlibcalls.specs.declared.jthreading.making.Begun.{Begun}
use Rattle.jlibcalls.specs.declared.jthreading.making.Given.{Given}
use Rattle.jlibcalls.specs.jthreading.ThreadObjects.{is_thread, thread_kind, thread_object}
use Rattle.jlibcalls.specs.jthreading.ThreadConstructors.{IsGiven, IsHanded, NamesNoMore, begun_values}
use Rattle.jlibcalls.specs.jthreading.ThreadFrames.{gone}
use Rattle.jlibcalls.specs.jthreading.ThreadMethods.{MayCall, thread_called}
use Rattle.jlibcalls.proofs.JthreadingProofs.ThreadOutcomes.{row}

-- ---- what may be called

pub may_less : {E : Type 0} (count less : ℕ) (g : Guests E) → less ≤ count → MayCall count g → MayCall less g
may_less count less g le may = record { frames = may.frames; runs = may.runs; few = omega (arith, le, may.few); place = may.place }

-- ---- objects of Thread

-- an object of Thread, and the heap's number for its class
pub record IsThreadAt (h : Heaped) (o : ℕ) : Type 0 where
  pub object : heaps.Object
  pub there : heaps.object_at h o ≡ Some object
  pub class : ℕ
  pub kind : object.kind ≡ kinds.Object class
  pub named : class_numbered class ≡ refs.Lib lib.Thread

thread_is : (c : ClassRef) → is_thread c ≡ true → c ≡ refs.Lib lib.Thread
thread_is (refs.User i) is = cc
thread_is (refs.Lib lib.Thread) is = refl
thread_is (refs.Lib c) is = cc

by_class : (h : Heaped) (o n : ℕ) (x : heaps.Object) → heaps.object_at h o ≡ Some x → x.kind ≡ kinds.Object n → (b : Bool) → is_thread (class_numbered n) ≡ b
    → (if b then Some o else None) ≡ Some o → IsThreadAt h o
by_class h o n x there kind true is e = record { object = x; there = there; class = n; kind = kind; named = thread_is (class_numbered n) is }
by_class h o n x there kind false is e = absurd cc

by_kind : (h : Heaped) (o : ℕ) (x : heaps.Object) → heaps.object_at h o ≡ Some x → (k : Kind) → x.kind ≡ k → thread_kind o (Some k) ≡ Some o → IsThreadAt h o
by_kind h o x there (kinds.Object n) kind e = by_class h o n x there kind (is_thread (class_numbered n)) refl e
by_kind h o x there (kinds.Array n) kind e = absurd cc
by_kind h o x there kinds.Text kind e = absurd cc
by_kind h o x there kinds.Piece kind e = absurd cc

by_object : (h : Heaped) (o : ℕ) (found : Option heaps.Object) → heaps.object_at h o ≡ found → thread_kind o (option_map (λ (x : heaps.Object). x.kind) found) ≡ Some o → IsThreadAt h o
by_object h o None is e = absurd cc
by_object h o (Some x) is e = by_kind h o x is x.kind refl e

pub thread_there : (h : Heaped) (o : ℕ) → thread_object h (Ref o) ≡ Some o → IsThreadAt h o
thread_there h o e = by_object h o (heaps.object_at h o) refl e

-- it holds what its cell says
kind_holds : (p : Program) (shapes : Shapes) (objects : List heaps.Object) (things : Things) (n : ℕ) (cells : List ℕ) → class_numbered n ≡ refs.Lib lib.Thread
    → kind_by p shapes objects things (kinds.Object n) cells ≡ Thread (number_in (first cells))
kind_holds p shapes objects things n cells is = rw is refl

seen_as : (p : Program) (shapes : Shapes) (objects : List heaps.Object) (things : Things) (x : heaps.Object) (n : ℕ) (cells : List ℕ) → x.kind ≡ kinds.Object n
    → class_numbered n ≡ refs.Lib lib.Thread → kind_by p shapes objects things x.kind cells ≡ Thread (number_in (first cells))
seen_as p shapes objects things x n cells kind is = ap (λ k. kind_by p shapes objects things k cells) kind ∙ kind_holds p shapes objects things n cells is

pub held_there : SeesEach → (p : Program) (shapes : Shapes) (things : Things) (constants : List (List ℕ × ℕ)) (h : Heaped) (o : ℕ) (t : IsThreadAt h o)
    → object_at (store_by p shapes things constants h) o ≡ Some (Thread (number_in (first t.object.cells)))
held_there sees p shapes things constants h o t =
    sees p shapes things constants h o ∙ ap (option_map (object_by p shapes h.objects things)) t.there
    ∙ ap Some (seen_as p shapes h.objects things t.object t.class t.object.cells t.kind t.named)

first_set : (cells : List ℕ) (n : ℕ) → 0 < length cells → first (slice_set cells 0 n) ≡ n
first_set [] n lt = absurd (omega (arith, lt))
first_set (c ∷ cells) n lt = refl

no_piece : (k : Kind) (n : ℕ) → k ≡ kinds.Object n → IsNoPiece k
no_piece (kinds.Object m) n is = tt
no_piece (kinds.Array m) n is = tt
no_piece kinds.Text n is = tt
no_piece kinds.Piece n is = absurd cc

-- its cell written, it stands for a thread
pub written : Writes → (p : Program) (shapes : Shapes) (things : Things) (constants : List (List ℕ × ℕ)) (h : Heaped) (o n : ℕ) (t : IsThreadAt h o) → 0 < length t.object.cells
    → store_by p shapes things constants (heaps.with_cell h o 0 (suc n)) ≡ with_object (store_by p shapes things constants h) o (Thread (Some n))
written writes p shapes things constants h o n t some =
    writes p shapes things constants h o 0 (suc n) t.object t.there (no_piece t.object.kind t.class t.kind)
    ∙ ap (with_object (store_by p shapes things constants h) o)
    (seen_as p shapes h.objects things t.object t.class (slice_set t.object.cells 0 (suc n)) t.kind t.named
    ∙ ap (λ c. Thread (number_in c)) (first_set t.object.cells (suc n) some))

-- It names nothing that is kept.
pub written_alike : Writes → (h k : Heaped) (o n : ℕ) (t : IsThreadAt h o) → 0 < length t.object.cells → k ≡ heaps.with_cell h o 0 (suc n) → NamesNoMore h.objects k.objects
written_alike writes h k o n t some is p shapes things others same =
    let stores : store_by p shapes others [] h ≡ store_by p shapes things [] h =
    ap (λ (os : List (Object ℕ)). record { objects = os; statics = values_of shapes.statics h.statics; constants = []; left = h.left }) same in
    let all : store_by p shapes others [] k ≡ store_by p shapes things [] k =
    ap (store_by p shapes others []) is ∙ written writes p shapes others [] h o n t some
    ∙ ap (λ (s : Store ℕ). with_object s o (Thread (Some n))) stores
    ∙ sym (written writes p shapes things [] h o n t some) ∙ ap (store_by p shapes things []) (sym is) in
    ap (λ (s : Store ℕ). s.objects) all

-- ---- what a call names

kind_same : (o : ℕ) (k : Option Kind) (n : ℕ) → thread_kind o k ≡ Some n → o ≡ n
kind_same o None n e = absurd cc
kind_same o (Some (kinds.Array m)) n e = absurd cc
kind_same o (Some kinds.Text) n e = absurd cc
kind_same o (Some kinds.Piece) n e = absurd cc
kind_same o (Some (kinds.Object m)) n e = by (is_thread (class_numbered m)) e
  where
    by : (b : Bool) → (if b then Some o else None) ≡ Some n → o ≡ n
    by true e = cc
    by false e = absurd cc

pub object_is : (h : Heaped) (v : Value ℕ) (o : ℕ) → thread_object h v ≡ Some o → v ≡ Ref o
object_is h (Int x) o e = absurd cc
object_is h (Long x) o e = absurd cc
object_is h (Ctx x) o e = absurd cc
object_is h (Ref m) o e = ap Ref (kind_same m (heaps.kind_at h m) o e)

pub object_same : (h : Heaped) (v : Value ℕ) (o : ℕ) → thread_object h v ≡ Some o → thread_object h (Ref o) ≡ Some o
object_same h v o e = ap (thread_object h) (sym (object_is h v o e)) ∙ e

-- ---- its cell

pub has_cell : HasWanted → (shapes : Shapes) (h : Heaped) (o : ℕ) → AreCelled shapes h.objects → (t : IsThreadAt h o) → heaps.HasCell h o 0
has_cell has shapes h o celled t =
    has shapes h o 0 1 (kinds.Object t.class) celled (ap (option_map (λ (x : heaps.Object). x.kind)) t.there ∙ ap Some t.kind) (ap (class_cells shapes) t.named) (omega arith)

pub some_cells : (h : Heaped) (o : ℕ) (t : IsThreadAt h o) → heaps.HasCell h o 0 → 0 < length t.object.cells
some_cells h o t has = subst (λ (x : Option heaps.Object). 0 < length (unwrap_or (option_map (λ (y : heaps.Object). y.cells) x) [])) t.there has

-- ---- the row

module _ {E : Type 0} (r : Rules ℕ E) (at : Site) (s : Store ℕ) (es : List E) (inherited : Option ℕ) where
  init_row : (side : Side) (context : Option ℕ) (b : Begun) → IsHanded side context
      → thread_row r at s es inherited (threads.Init side) (handed side context ++ begun_values b) ≡ thread_made at s b.thread b.runnable (r.inherit context es inherited) (object_at s b.thread)
  unfolding thread_row
  init_row Source None b is = refl
  init_row Source (Some k) b is = absurd is
  init_row Passing None b is = absurd is
  init_row Passing (Some k) b is = refl

  pub makes_row : (side : Side) (values : List (Value ℕ)) (heap : Heaped) (x : Given) (kept : ℕ) (number : Option ℕ) → IsGiven side values heap x
      → r.inherit x.context es inherited ≡ kept → object_at s x.begun.thread ≡ Some (Thread number)
      → thread_row r at s es inherited (threads.Init side) values
      ≡ Some (free (Makes (with_object s x.begun.thread (Thread (Some (length at.table)))) x.begun.runnable kept))
  makes_row side values heap x kept number is inherits there =
      let b = x.begun in
      ap (thread_row r at s es inherited (threads.Init side)) is.values ∙ init_row side x.context b is.context
      ∙ ap₂ (λ k (o : Option (Object ℕ)). thread_made {E = E} at s b.thread b.runnable k o) inherits there

pub makes_so : {E : Type 0} (r : Rules ℕ E) (p : Program) (plan : Plan) (s : State ℕ E) (f : Framed E) (count : ℕ) (side : Side) (store : Store ℕ) (runnable kept : ℕ)
    → row r p plan s f count (threads.Init side) ≡ Some (free (Makes store runnable kept))
    → thread_called r p plan s f count (threads.Init side) ≡ Went (with_guest (state_running s (all (gone count f)) store) (guest r p plan s runnable kept)) []
unfolding applied acted
makes_so {E} r p plan s f count side store runnable kept is =
    ap (λ (o : Option (Row ℕ E)). done r p plan s f.below (option_map (λ x. record { frame = with_operands f.newest (drop count f.newest.operands); row = x }) o)) is
    ∙ rw (leb-zero s.store.left, ← unpaid store) refl

-- ---- one more thread

module _ {E : Type 0} where
  abbrev stood : Store ℕ → ℕ → List (GuestOf ℕ E) → GuestOf ℕ E → List ThreadOf → ℕ → State ℕ E
  stood store at all x table turns = record { earlier = take at all; running = x; later = drop (at + 1) all; table = table; store = store; turns = turns }

  pub one_more_state : (g h : Guests E) (x : GuestOf ℕ E) (store : Store ℕ) → AreGuests g
      → guests_of h ≡ guests_of g ++ x ∷ [] → h.table ≡ added g.table → h.turns ≡ g.turns → h.at ≡ g.at → h.running ≡ g.running
      → state_by h store ≡ with_guest (state_by g store) x
  one_more_state g h x store are all_are table turns at running =
      let some = length-map g.others.items guest_by in
      let long = length-set (map guest_by g.others.items) g.at (guest_by g.running) in
      let fits : g.at + 1 ≤ length (guests_of g) = omega (arith, are.at, some, long) in
      ap₂ (λ n (gs : List (GuestOf ℕ E)). stood store n gs (guest_by h.running) h.table h.turns) at all_are
      ∙ ap (λ (z : Guest E). stood store g.at (guests_of g ++ x ∷ []) (guest_by z) h.table h.turns) running
      ∙ ap₂ (λ ts n. stood store g.at (guests_of g ++ x ∷ []) (guest_by g.running) ts n) table turns
      ∙ ap₂ (λ (e l : List (GuestOf ℕ E)). record { earlier = e; running = guest_by g.running; later = l; table = added g.table; store = store; turns = g.turns })
      (take-append-le g.at (guests_of g) (x ∷ []) (omega (arith, fits))) (drop-append-le (g.at + 1) (guests_of g) (x ∷ []) fits)
