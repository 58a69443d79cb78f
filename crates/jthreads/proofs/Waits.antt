-- After the end of a thread nobody waits for it, and who waited for it is runnable.
use Rattle.std.proofs.Common.{◌≡◌, ◌≢◌, ◌<◌, ℕ, List, Option, Some, None, Bool, true, false, length, refl, ap, ◌∙◌, arith, rules}
use Rattle.std.specs.Prelude.{IfSome, if◌then◌else◌, slice_set}
use Rattle.std.specs.Option.{option_map}
use Rattle.std.proofs.lemmas.Bool.{eq-eqb, eqb-false}
use Rattle.std.proofs.lemmas.List.{get_or-map, get_or-set_other, length-set}
use Rattle.jthreads.specs.declared.thread.Thread.{Thread}
use Rattle.jthreads.specs.ThreadTables.{is_alive, is_runnable, lives_at, table_after_end, thread_at, unstarted, woken}
use Rattle.jthreads.specs.ProofNames.{is_at}

by_test : (t : ℕ) (x : Thread) (b : Bool) → is_at t x.waits_for ≡ b → (if b then record x { waits_for = None } else x).waits_for ≡ Some t → ⊥
by_test t x true f e = search rules
by_test t x false f e = eqb-false t t (rw e at f) refl

woken_waits : (t : ℕ) (x : Thread) → (woken t x).waits_for ≡ Some t → ⊥
woken_waits t x e = by_test t x (is_at t x.waits_for) refl e

pub from_woken : (t : ℕ) (o : Option Thread) (x : Thread) → option_map (woken t) o ≡ Some x → x.waits_for ≡ Some t → ⊥
from_woken t None x e w = search rules
from_woken t (Some y) x e w = woken_waits t y (ap (λ o. elim o [ None ↦ None | Some z ↦ z.waits_for ]) e ∙ w)

woken_runs : (t : ℕ) (x : Thread) → is_alive x ≡ true → x.waits_for ≡ Some t → is_runnable (woken t x) ≡ true
woken_runs t x lives waits =
    let at : is_at t x.waits_for ≡ true = ap (is_at t) waits ∙ eq-eqb t t refl in
    rw (at, lives) refl

pub runs_again : (threads : List Thread) (t n : ℕ) → n < length threads → n ≢ t → lives_at threads n ≡ true → (thread_at threads n).waits_for ≡ Some t → is_runnable (thread_at (table_after_end t threads) n) ≡ true
runs_again threads t n lt other lives waits =
    let set = slice_set threads t (record (thread_at threads t) { ended = true }) in
    let inside : n < length set = omega (arith, lt, length-set threads t (record (thread_at threads t) { ended = true })) in
    let is : thread_at (table_after_end t threads) n ≡ woken t (thread_at threads n) = get_or-map (woken t) set n unstarted unstarted inside ∙ ap (woken t) (get_or-set_other threads t n (record (thread_at threads t) { ended = true }) unstarted other) in
    rw is (woken_runs t (thread_at threads n) lives waits)

-- ---- waking

twice_by : (t : ℕ) (x : Thread) (b : Bool) → is_at t x.waits_for ≡ b → woken t (if b then record x { waits_for = None } else x) ≡ (if b then record x { waits_for = None } else x)
twice_by t x true f = refl
twice_by t x false f = ap (λ b. if b then record x { waits_for = None } else x) f

pub woken_twice : (t : ℕ) (x : Thread) → woken t (woken t x) ≡ woken t x
woken_twice t x = twice_by t x (is_at t x.waits_for) refl

pub woken_named : (P : ℕ → Type 0) (t : ℕ) (x : Thread) → IfSome x.waits_for P → IfSome (woken t x).waits_for P
woken_named P t x h = by (is_at t x.waits_for)
  where
    by : (b : Bool) → IfSome (if b then record x { waits_for = None } else x).waits_for P
    by true = tt
    by false = h
