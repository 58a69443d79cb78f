-- None waits for a thread that has ended, whatever happens to the table.
use Rattle.std.proofs.Common.{◌≡◌, ◌∙◌, ◌⊎◌, ℕ, zero, suc, Bool, true, false, List, [], ◌∷◌, Some, None, refl, sym, ap, inl, inr}
use Rattle.std.specs.Prelude.{Result, Ok, Err, IfOk, OnOk, ◌&&◌, not, map, if◌then◌else◌, slice_set}
use Rattle.std.proofs.lemmas.Bool.{eqb-false}
use Rattle.jthreads.specs.declared.thread.Thread.{Thread}
use Rattle.jthreads.specs.ThreadTables.{added, is_alive, is_runnable, joined, lives_at, opened, table_after_end, table_after_start, thread_at, woken}
use Rattle.jthreads.specs.ProofNames.{is_at}
use Rattle.jruntime.specs.declared.jguests.turns.Turned.{Turned}
use Rattle.jruntime.specs.declared.jguests.turns.Turned.TheVariants as turns
use Rattle.jruntime.specs.jguests.GuestThreads.{AwaitLiving, IsLive}

-- ---- one thread

alive_by : (b w : Bool) → (b && w) ≡ true → b ≡ true
alive_by true w e = refl
alive_by false w e = absurd cc

-- one that is runnable was started and has not ended
pub runnable_alive : (x : Thread) → is_runnable x ≡ true → is_alive x ≡ true
runnable_alive x e = alive_by (is_alive x) _ e

started_alive : (s e : Bool) → (s && not e) ≡ true → (true && not e) ≡ true
started_alive true e h = h
started_alive false e h = absurd cc

-- ---- the table with another thread in a place

set_cases : (ts : List Thread) (t n : ℕ) (x : Thread) → ((n ≡ t) × (thread_at (slice_set ts t x) n ≡ x)) ⊎ (thread_at (slice_set ts t x) n ≡ thread_at ts n)
set_cases [] t n x = inr refl
set_cases (y ∷ ts) zero zero x = inl (refl, refl)
set_cases (y ∷ ts) zero (suc n) x = inr refl
set_cases (y ∷ ts) (suc t) zero x = inr refl
set_cases (y ∷ ts) (suc t) (suc n) x = elim (set_cases ts t n x) [ inl e ↦ inl (ap suc e.0, e.1) | inr e ↦ inr e ]

-- ---- the first thread, and one more

first_awaits : AwaitLiving opened
first_awaits zero t e = absurd cc
first_awaits (suc n) t e = absurd cc

pub first_live : IsLive opened 0
first_live = record { runs = refl; wait = first_awaits }

same_more : (ts : List Thread) (n : ℕ) → thread_at (added ts) n ≡ thread_at ts n
same_more [] zero = refl
same_more [] (suc n) = refl
same_more (y ∷ ts) zero = refl
same_more (y ∷ ts) (suc n) = same_more ts n

more_awaits : (ts : List Thread) → AwaitLiving ts → AwaitLiving (added ts)
more_awaits ts wait n t e = ap is_alive (same_more ts t) ∙ wait n t (ap (λ (x : Thread). x.waits_for) (sym (same_more ts n)) ∙ e)

pub more_live : (ts : List Thread) (at : ℕ) → IsLive ts at → IsLive (added ts) at
more_live ts at live = record { runs = ap is_runnable (same_more ts at) ∙ live.runs; wait = more_awaits ts live.wait }

-- ---- a thread is started

abbrev now_started : List Thread → ℕ → Thread
now_started ts t = record (thread_at ts t) { started = true }

start_waits : (ts : List Thread) (t n : ℕ) → (thread_at (table_after_start t ts) n).waits_for ≡ (thread_at ts n).waits_for
start_waits ts t n = elim (set_cases ts t n (now_started ts t)) [
  | inl e ↦ ap (λ (x : Thread). x.waits_for) e.1 ∙ ap (λ k. (thread_at ts k).waits_for) (sym e.0)
  | inr e ↦ ap (λ (x : Thread). x.waits_for) e
]

start_lives : (ts : List Thread) (t n : ℕ) → lives_at ts n ≡ true → lives_at (table_after_start t ts) n ≡ true
start_lives ts t n alive = elim (set_cases ts t n (now_started ts t)) [
  | inl e ↦ ap is_alive e.1 ∙ started_alive (thread_at ts t).started (thread_at ts t).ended (ap (λ k. lives_at ts k) (sym e.0) ∙ alive)
  | inr e ↦ ap is_alive e ∙ alive
]

pub start_awaits : (t : ℕ) (ts : List Thread) → AwaitLiving ts → AwaitLiving (table_after_start t ts)
start_awaits t ts wait n u e = start_lives ts t u (wait n u (sym (start_waits ts t n) ∙ e))

-- ---- a thread waits

abbrev now_waiting : List Thread → ℕ → ℕ → Thread
now_waiting ts me t = record (thread_at ts me) { waits_for = Some t }

waiting_lives : (ts : List Thread) (me t n : ℕ) → lives_at (slice_set ts me (now_waiting ts me t)) n ≡ lives_at ts n
waiting_lives ts me t n = elim (set_cases ts me n (now_waiting ts me t)) [
  | inl e ↦ ap is_alive e.1 ∙ ap (λ k. lives_at ts k) (sym e.0)
  | inr e ↦ ap is_alive e
]

waiting_awaits : (ts : List Thread) (me t : ℕ) → lives_at ts t ≡ true → AwaitLiving ts → AwaitLiving (slice_set ts me (now_waiting ts me t))
waiting_awaits ts me t alive wait n u e = waiting_lives ts me t u ∙ elim (set_cases ts me n (now_waiting ts me t)) [
  | inl is ↦
      let same : Some t ≡ Some u = ap (λ (x : Thread). x.waits_for) (sym is.1) ∙ e in
      let number : t ≡ u = cc in
      ap (λ k. lives_at ts k) (sym number) ∙ alive
  | inr is ↦ wait n u (ap (λ (x : Thread). x.waits_for) (sym is) ∙ e)
]

pub join_awaits : (me t : ℕ) (ts : List Thread) → AwaitLiving ts → AwaitLiving (joined me t ts)
join_awaits me t ts wait = by_life (lives_at ts t) refl
  where
    by_life : (b : Bool) → lives_at ts t ≡ b → AwaitLiving (if b then slice_set ts me (now_waiting ts me t) else ts)
    by_life true e = waiting_awaits ts me t e wait
    by_life false e = wait

-- ---- a thread ends

index_woken : (t : ℕ) (ts : List Thread) (n : ℕ) → thread_at (map (woken t) ts) n ≡ woken t (thread_at ts n)
index_woken t [] n = refl
index_woken t (y ∷ ts) zero = refl
index_woken t (y ∷ ts) (suc n) = index_woken t ts n

woken_alive : (t : ℕ) (x : Thread) → is_alive (woken t x) ≡ is_alive x
woken_alive t x = by_test (is_at t x.waits_for)
  where
    by_test : (b : Bool) → is_alive (if b then record x { waits_for = None } else x) ≡ is_alive x
    by_test true = refl
    by_test false = refl

-- one that waits behind it waited before, and for another
still_waits : (t u : ℕ) (x : Thread) → (woken t x).waits_for ≡ Some u → (x.waits_for ≡ Some u) × (u ≡ t → ⊥)
still_waits t u x e = by_test (is_at t x.waits_for) refl e
  where
    by_test : (b : Bool) → is_at t x.waits_for ≡ b → (if b then record x { waits_for = None } else x).waits_for ≡ Some u → (x.waits_for ≡ Some u) × (u ≡ t → ⊥)
    by_test true f e = absurd cc
    by_test false f e = (e, λ same. eqb-false u t (ap (is_at t) (sym e) ∙ f) same)

abbrev now_ended : List Thread → ℕ → Thread
now_ended ts t = record (thread_at ts t) { ended = true }

end_waits : (ts : List Thread) (t n : ℕ) → (thread_at (slice_set ts t (now_ended ts t)) n).waits_for ≡ (thread_at ts n).waits_for
end_waits ts t n = elim (set_cases ts t n (now_ended ts t)) [
  | inl e ↦ ap (λ (x : Thread). x.waits_for) e.1 ∙ ap (λ k. (thread_at ts k).waits_for) (sym e.0)
  | inr e ↦ ap (λ (x : Thread). x.waits_for) e
]

end_lives : (ts : List Thread) (t n : ℕ) → (n ≡ t → ⊥) → lives_at (slice_set ts t (now_ended ts t)) n ≡ lives_at ts n
end_lives ts t n other = elim (set_cases ts t n (now_ended ts t)) [
  | inl e ↦ absurd (other e.0)
  | inr e ↦ ap is_alive e
]

pub end_awaits : (t : ℕ) (ts : List Thread) → AwaitLiving ts → AwaitLiving (table_after_end t ts)
end_awaits t ts wait n u e =
    let set = slice_set ts t (now_ended ts t) in
    let still = still_waits t u (thread_at set n) (ap (λ (x : Thread). x.waits_for) (sym (index_woken t set n)) ∙ e) in
    ap is_alive (index_woken t set u) ∙ woken_alive t (thread_at set u) ∙ end_lives ts t u still.1 ∙ wait n u (sym (end_waits ts t n) ∙ still.0)

-- ---- another has its turn

pub turned_live : {B : Type 0} (r : Result Turned B) (before table : List Thread) (at : ℕ) → AwaitLiving before
    → IfOk r (λ done. done ≡ turns.Goes → is_runnable (thread_at table at) ≡ true) → OnOk r (AwaitLiving before → AwaitLiving table)
    → IfOk r (λ done. done ≡ turns.Goes → IsLive table at)
turned_live (Ok done) before table at wait runs waits = λ goes. record { runs = runs goes; wait = waits wait }
turned_live (Err e) before table at wait runs waits = tt
