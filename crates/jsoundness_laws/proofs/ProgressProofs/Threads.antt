-- All threads of a typed state, and turns.
use Rattle.std.proofs.Common.{◌≡◌, ◌<◌, ℕ, zero, suc, ◌+◌, ◌%◌, inl, inr, arith, Bool, List, [], ◌∷◌, ◌++◌, length, take, drop, Option, Some, None, refl, sym, ap, subst, ◌∙◌}
use Rattle.std.specs.Prelude.{slice_get, slice_index_or, slice_set}
use Rattle.std.specs.List.{AllByRecursion, Contains}
use Rattle.std.proofs.lemmas.List.{length-append, length-map}
use Rattle.jlib.specs.declared.side.Side.{Side}
use Rattle.jvalues.specs.declared.jops.value.Value.TheVariants.{Ref}
use Rattle.jthreads.specs.declared.thread.Thread.{Thread}
use Rattle.jthreads.specs.Schedule.{picked}
use Rattle.jthreads.specs.ProofNames.{number_at}
use Rattle.jthreads.specs.ThreadTables.{runnable_numbers, thread_at, is_runnable, woken}
use Rattle.jthreads.proofs.RunnableNumbers.{within}
use Rattle.joutput.specs.declared.jtrace.event.Event.{Event}
use Rattle.jresolution.specs.jprogram.ProgramClasses.{Program}
use Rattle.jsemantics.specs.jmachine.MachineStates.{FrameOf, GuestOf, State}
use Rattle.jsemantics.specs.jmachine.Security.{handed}
use Rattle.jsemantics.specs.jmachine.Store.{Store}
use Rattle.jsemantics.specs.jmachine.ThreadTurns.{ended, given_to, guests, thread_of, turn_of, turned, with_ended, with_guest, with_running, with_table}
use Rattle.jsemantics.specs.jmachine.World.{world}
use Rattle.jsoundness_laws.specs.typed.StoreGrowth.{Grows}
use Rattle.jsoundness_laws.specs.typed.FrameStacks.{AreStacked}
use Rattle.jsoundness_laws.specs.typed.TypedStores.{IsStored}
use Rattle.jsoundness_laws.specs.typed.TypedUses.{static_types}
use Rattle.jsoundness_laws.proofs.TypedProofs.StoreMonotonicity.{serves_kept}
use Rattle.jsoundness_laws.proofs.TypedProofs.States.{stacked_later}
use Rattle.jsoundness_laws.proofs.TypedProofs.ObjectAllocation.{are_kept}
use Rattle.jsoundness_laws.specs.library.LibraryResults.{run_given}
use Rattle.jsoundness_laws.specs.progress.TypedStates.{ComesTo, IsGuest, IsTypedState, MayBegin}
use Rattle.jsoundness_laws.proofs.LibraryProofs.ThreadRows.{same_length}

-- ---- lists

all_front : {A : Type 0} (P : A → Type 0) (xs ys : List A) → AllByRecursion P (xs ++ ys) → AllByRecursion P xs
all_front P [] ys h = tt
all_front P (x ∷ xs) ys h = (h.0, all_front P xs ys h.1)

all_back : {A : Type 0} (P : A → Type 0) (xs ys : List A) → AllByRecursion P (xs ++ ys) → AllByRecursion P ys
all_back P [] ys h = h
all_back P (x ∷ xs) ys h = all_back P xs ys h.1

all_both : {A : Type 0} (P : A → Type 0) (xs ys : List A) → AllByRecursion P xs → AllByRecursion P ys → AllByRecursion P (xs ++ ys)
all_both P [] ys a b = b
all_both P (x ∷ xs) ys a b = (a.0, all_both P xs ys a.1 b)

all_weaken : {A : Type 0} (P Q : A → Type 0) → ((x : A) → P x → Q x) → (xs : List A) → AllByRecursion P xs → AllByRecursion Q xs
all_weaken P Q h [] all = tt
all_weaken P Q h (x ∷ xs) all = (h x all.0, all_weaken P Q h xs all.1)

length_both : {A : Type 0} (xs ys : List A) → length (xs ++ ys) ≡ length xs + length ys
length_both xs ys = length-append xs ys

-- what stands at a number, with those in front and behind
around : {A : Type 0} (xs : List A) (n : ℕ) (x : A) → slice_get xs n ≡ Some x → take n xs ++ x ∷ drop (n + 1) xs ≡ xs
around xs n x at = subst (λ k. take n xs ++ x ∷ drop k xs ≡ xs) (sym (next n)) (go xs n x at)
  where
    next : (n : ℕ) → n + 1 ≡ suc n
    next n = omega arith

    go : {A : Type 0} (xs : List A) (n : ℕ) (x : A) → slice_get xs n ≡ Some x → take n xs ++ x ∷ drop (suc n) xs ≡ xs
    go [] n x at = absurd (cc)
    go (y ∷ xs) zero x at = ap (λ y. y ∷ xs) (some_is x y (sym at))
      where
        some_is : {A : Type 0} (a b : A) → Some a ≡ Some b → a ≡ b
        some_is a b e = cc
    go (y ∷ xs) (suc n) x at = ap (λ xs. y ∷ xs) (go xs n x at)

there_at : {A : Type 0} (xs : List A) (n : ℕ) → n < length xs → (x : A) × (slice_get xs n ≡ Some x)
there_at [] n lt = absurd (omega (arith, lt))
there_at (x ∷ xs) zero lt = (x, refl)
there_at (x ∷ xs) (suc n) lt = there_at xs n (omega (arith, lt))

read_at : {A : Type 0} (xs : List A) (n : ℕ) (x : A) → slice_get xs n ≡ Some x → (n < length xs) × (slice_index_or xs n x ≡ x)
read_at [] n x at = absurd (cc)
read_at (y ∷ xs) zero x at = (omega arith, some_is y x at)
  where
    some_is : {A : Type 0} (a b : A) → Some a ≡ Some b → a ≡ b
    some_is a b e = cc
read_at (y ∷ xs) (suc n) x at = let more = read_at xs n x at in let lt = more.0 in (omega (arith, lt), more.1)

-- ---- whom a schedule picks

picked_in : (schedule : List ℕ) (turns t : ℕ) (ts : List ℕ) → picked schedule turns ts ≡ Some t → Contains ts t
picked_in schedule turns t [] e = absurd (cc)
picked_in schedule turns t (x ∷ ts) e = let at = read_at (x ∷ ts) (number_at schedule turns % length (x ∷ ts)) t e in (number_at schedule turns % length (x ∷ ts), at.0, at.1)

picked_below : (schedule : List ℕ) (turns t : ℕ) (table : List Thread) → picked schedule turns (runnable_numbers table) ≡ Some t → t < length table
picked_below schedule turns t table e = within (λ i. is_runnable (thread_at table i)) (length table) t (picked_in schedule turns t (runnable_numbers table) e)

-- ---- threads

module _ {K E : Type 0} (p : Program) (side : Side) where
  pub may_later : (s t : Store K) → Grows (world p) s t → (g : GuestOf K E) → MayBegin p side s g → MayBegin p side t g
  may_later s t grows g (inl none) = inl none
  may_later s t grows g (inr h) = inr (serves_kept (world p) s t grows _ (Ref g.runnable) h.0, are_kept (world p) s t grows (run_given side) (handed side g.inherited) h.1)

  guest_later : (s t : Store K) → Grows (world p) s t → (g : GuestOf K E) → IsGuest p side s g → IsGuest p side t g
  guest_later s t grows g h = (stacked_later K E p s t g.frames grows h.0, may_later s t grows g h.1)

  abbrev Guests : Store K → List (GuestOf K E) → Type 0
  Guests s gs = AllByRecursion (IsGuest p side s) gs

  guests_later : (s t : Store K) → Grows (world p) s t → (gs : List (GuestOf K E)) → Guests s gs → Guests t gs
  guests_later s t grows gs h = all_weaken (IsGuest p side s) (IsGuest p side t) (guest_later s t grows) gs h

  -- the running thread
  pub running_is : (s : State K E) → IsTypedState p side s → IsGuest p side s.store s.running
  running_is s h = (all_back (IsGuest p side s.store) s.earlier (s.running ∷ s.later) h.threads).0

  -- with another guest in the place of the running one, and another store and table
  swapped : (s : State K E) (g : GuestOf K E) (t : Store K) → IsTypedState p side s → Grows (world p) s.store t → IsGuest p side t g → Guests t (s.earlier ++ g ∷ s.later)
  swapped s g t h grows is =
      let old = guests_later s.store t grows (guests s) h.threads in
      all_both (IsGuest p side t) s.earlier (g ∷ s.later) (all_front (IsGuest p side t) s.earlier (s.running ∷ s.later) old)
      (is, (all_back (IsGuest p side t) s.earlier (s.running ∷ s.later) old).1)

  swapped_count : (s : State K E) (g : GuestOf K E) → length (s.earlier ++ g ∷ s.later) ≡ length (guests s)
  swapped_count s g = length_both s.earlier (g ∷ s.later) ∙ sym (length_both s.earlier (s.running ∷ s.later))

  -- the running thread's frames and the store
  pub ran : (s : State K E) (frames : List (FrameOf K E)) (t : Store K) → IsTypedState p side s → Grows (world p) s.store t → IsStored (world p) t (static_types p)
      → AreStacked p t frames
      → IsTypedState p side (with_running s frames t)
  ran s frames t h grows stored are = record {
    stored = stored;
    threads = swapped s (record s.running { frames = frames }) t h grows (are, may_later s.store t grows s.running (running_is s h).1);
    count = swapped_count s (record s.running { frames = frames }) ∙ h.count;
  }

  -- another table of as many threads
  pub tabled : (s : State K E) (table : List Thread) → IsTypedState p side s → length table ≡ length s.table → IsTypedState p side (with_table s table)
  tabled s table h same = record { stored = h.stored; threads = h.threads; count = h.count ∙ sym same }

  -- one more thread
  pub joined_by : (s : State K E) (g : GuestOf K E) → IsTypedState p side s → IsGuest p side s.store g → IsTypedState p side (with_guest s g)
  joined_by s g h is = record {
    stored = h.stored;
    threads = subst (Guests s.store) (longer s.earlier s.running s.later g) (all_both (IsGuest p side s.store) (guests s) (g ∷ []) h.threads (is, tt));
    count = ap length (sym (longer s.earlier s.running s.later g)) ∙ length_both (guests s) (g ∷ []) ∙ ap (λ n. n + 1) h.count ∙ sym (length_both s.table _);
  }
    where
      longer : (xs : List (GuestOf K E)) (x : GuestOf K E) (ys : List (GuestOf K E)) (g : GuestOf K E) → (xs ++ x ∷ ys) ++ g ∷ [] ≡ xs ++ x ∷ (ys ++ g ∷ [])
      longer [] x ys g = refl
      longer (y ∷ xs) x ys g = ap (λ zs. y ∷ zs) (longer xs x ys g)

  -- ---- turns

  given_stays : (s : State K E) (events : List Event) (t : ℕ) (o : Option (GuestOf K E)) → IsTypedState p side s → slice_get (guests s) t ≡ o → t < length s.table
      → ComesTo p side (given_to s events t o)
  given_stays s events t None h at lt =
      let same = h.count in
      let there = there_at (guests s) t (omega (arith, lt, same)) in
      absurd (nothing there.0 (sym at ∙ there.1))
    where
      nothing : (g : GuestOf K E) → None ≡ Some g → ⊥
      nothing g e = cc
  given_stays s events t (Some g) h at lt =
      let same = around (guests s) t g at in record {
        stored = h.stored;
        threads = subst (Guests s.store) (sym same) h.threads;
        count = ap length same ∙ h.count;
      }

  turn_stays : (schedule : List ℕ) (s : State K E) (events : List Event) (o : Option ℕ) → picked schedule s.turns (runnable_numbers s.table) ≡ o → IsTypedState p side s
      → ComesTo p side (turn_of s events o)
  turn_stays schedule s events None e h = h
  turn_stays schedule s events (Some t) e h = given_stays s events t (slice_get (guests s) t) h refl (picked_below schedule s.turns t s.table e)

  pub turned_stays : (schedule : List ℕ) (s : State K E) (events : List Event) → IsTypedState p side s → ComesTo p side (turned schedule s events)
  unfolding turned
  turned_stays schedule s events h = turn_stays schedule s events (picked schedule s.turns (runnable_numbers s.table)) refl h

  pub ended_stays : (schedule : List ℕ) (s : State K E) (t : Store K) (failed : Bool) (events : List Event) → IsTypedState p side s → Grows (world p) s.store t
      → IsStored (world p) t (static_types p)
      → ComesTo p side (ended schedule s t failed events)
  ended_stays schedule s t failed events h grows stored = turned_stays schedule (with_ended s t failed) events (record {
    stored = stored;
    threads = swapped s (record s.running { frames = []; failed = failed }) t h grows (tt, may_later s.store t grows s.running (running_is s h).1);
    count = swapped_count s (record s.running { frames = []; failed = failed }) ∙ h.count
        ∙ sym (length-map (slice_set s.table (thread_of s) _) (woken (thread_of s)) ∙ same_length s.table (thread_of s) _);
  })
