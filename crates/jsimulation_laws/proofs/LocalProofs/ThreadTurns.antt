-- Threads: the same one takes its turn on both sides, and a run in which none can run ends alike.
use Rattle.std.proofs.Common.{◌≡◌, ℕ, zero, suc, ◌+◌, Bool, ◌||◌, List, [], ◌∷◌, ◌++◌, length, take, drop, Option, Some, None, refl, sym, ap, ◌∙◌, subst}
use Rattle.std.specs.Prelude.{slice_get, if◌then◌else◌}
use Rattle.std.specs.List.{list_any}
use Rattle.jthreads.specs.declared.thread.Thread.{Thread as Entered}
use Rattle.jthreads.specs.Schedule.{picked}
use Rattle.jthreads.specs.ThreadTables.{have_ended, runnable_numbers}
use Rattle.joutput.specs.declared.jtrace.event.Event.{Event}
use Rattle.joutput.specs.declared.jtrace.event.End.{End}
use Rattle.joutput.specs.declared.jtrace.event.End.TheVariants.{Finished, Uncaught, Deadlock}
use Rattle.jresolution.specs.jprogram.ProgramClasses.{Program}
use Rattle.jsemantics.specs.jmachine.MachineStates.{Outcome, Went, Over, NoStep}
use Rattle.jsemantics.specs.jmachine.ThreadTurns.{end_of, given_to, guests, run_by, turn_of, turned}
use Rattle.jsimulation_laws.specs.relation.StateRelation.{Guest, GuestStands, GuestsStand, Point, Stands}

module _ (p q : Program) where
  -- an outcome of the moved program's machine stands for one of the other's
  abbrev pub Matches : Outcome Point → Outcome Point → Type 0
  Matches (Went s events) o = (t : Point) × (o ≡ Went t events) × Stands p q s t
  Matches (Over s events end) o = (t : Point) × (o ≡ Over t events end)
  Matches NoStep o = Unit {0}

  pub long_same : (xs ys : List Guest) → GuestsStand p q xs ys → length ys ≡ length xs
  long_same [] [] st = refl
  long_same [] (y ∷ ys) st = absurd st
  long_same (x ∷ xs) [] st = absurd st
  long_same (x ∷ xs) (y ∷ ys) st = ap suc (long_same xs ys st.1)

  pub joined : (xs ys us vs : List Guest) → GuestsStand p q xs ys → GuestsStand p q us vs → GuestsStand p q (xs ++ us) (ys ++ vs)
  joined [] [] us vs a b = b
  joined [] (y ∷ ys) us vs a b = absurd a
  joined (x ∷ xs) [] us vs a b = absurd a
  joined (x ∷ xs) (y ∷ ys) us vs a b = (a.0, joined xs ys us vs a.1 b)

  taken_same : (n : ℕ) (xs ys : List Guest) → GuestsStand p q xs ys → GuestsStand p q (take n xs) (take n ys)
  taken_same zero xs ys st = tt
  taken_same (suc n) [] [] st = tt
  taken_same (suc n) [] (y ∷ ys) st = absurd st
  taken_same (suc n) (x ∷ xs) [] st = absurd st
  taken_same (suc n) (x ∷ xs) (y ∷ ys) st = (st.0, taken_same n xs ys st.1)

  dropped_same : (n : ℕ) (xs ys : List Guest) → GuestsStand p q xs ys → GuestsStand p q (drop n xs) (drop n ys)
  dropped_same zero xs ys st = st
  dropped_same (suc n) [] [] st = tt
  dropped_same (suc n) [] (y ∷ ys) st = absurd st
  dropped_same (suc n) (x ∷ xs) [] st = absurd st
  dropped_same (suc n) (x ∷ xs) (y ∷ ys) st = dropped_same n xs ys st.1

  abbrev GuestThere : Option Guest → Option Guest → Type 0
  GuestThere None o = Unit {0}
  GuestThere (Some x) o = (y : Guest) × (o ≡ Some y) × GuestStands p q x y

  there_same : (n : ℕ) (xs ys : List Guest) → GuestsStand p q xs ys → GuestThere (slice_get xs n) (slice_get ys n)
  there_same n [] ys st = tt
  there_same n (x ∷ xs) [] st = absurd st
  there_same zero (x ∷ xs) (y ∷ ys) st = (y, refl, st.0)
  there_same (suc n) (x ∷ xs) (y ∷ ys) st = there_same n xs ys st.1

  failed_same : (xs ys : List Guest) → GuestsStand p q xs ys → list_any (λ g. g.failed) ys ≡ list_any (λ g. g.failed) xs
  failed_same [] [] st = refl
  failed_same [] (y ∷ ys) st = absurd st
  failed_same (x ∷ xs) [] st = absurd st
  failed_same (x ∷ xs) (y ∷ ys) st = ap (λ b. b || list_any (λ g. g.failed) ys) st.0.failed ∙ ap (λ b. x.failed || b) (failed_same xs ys st.1)

  module _ (s t : Point) (st : Stands p q s t) where
    all_stand : GuestsStand p q (guests s) (guests t)
    all_stand = joined s.earlier t.earlier (s.running ∷ s.later) (t.running ∷ t.later) st.earlier (st.running, st.later)

    abbrev end_by : List Entered → Bool → End
    end_by table failed = if have_ended table then (if failed then Uncaught else Finished) else Deadlock

    end_same : end_of t ≡ end_of s
    end_same = ap (λ table. end_by table (list_any (λ g. g.failed) (guests t))) st.table ∙ ap (end_by s.table) (failed_same (guests s) (guests t) all_stand)

    run_stands : (n : ℕ) (x y : Guest) → GuestStands p q x y → Stands p q (run_by s n x) (run_by t n y)
    run_stands n x y g = record {
      earlier = taken_same n (guests s) (guests t) all_stand;
      running = g;
      later = dropped_same (n + 1) (guests s) (guests t) all_stand;
      table = st.table;
      store = st.store;
      turns = ap (λ k. k + 1) st.turns;
    }

    given_stands : (events : List Event) (n : ℕ) (o o' : Option Guest) → GuestThere o o' → Matches (given_to s events n o) (given_to t events n o')
    given_stands events n None o' g = tt
    given_stands events n (Some x) o' g = (run_by t n g.0, ap (given_to t events n) g.1, run_stands n x g.0 g.2)

    turn_stands : (events : List Event) (o : Option ℕ) → Matches (turn_of s events o) (turn_of t events o)
    turn_stands events None = (t, ap (Over t events) end_same)
    turn_stands events (Some n) = given_stands events n (slice_get (guests s) n) (slice_get (guests t) n) (there_same n (guests s) (guests t) all_stand)

    picked_same : (schedule : List ℕ) → picked schedule t.turns (runnable_numbers t.table) ≡ picked schedule s.turns (runnable_numbers s.table)
    picked_same schedule = ap (λ n. picked schedule n (runnable_numbers t.table)) st.turns ∙ ap (λ table. picked schedule s.turns (runnable_numbers table)) st.table

    pub turned_stands : (schedule : List ℕ) (events : List Event) → Matches (turned schedule s events) (turned schedule t events)
    unfolding turned
    turned_stands schedule events =
        subst (λ (o : Option ℕ). Matches (turn_of s events (picked schedule s.turns (runnable_numbers s.table))) (turn_of t events o)) (sym (picked_same schedule))
        (turn_stands events (picked schedule s.turns (runnable_numbers s.table)))
