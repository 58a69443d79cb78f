-- How threads lie in a list, one of them beside it.
use Rattle.std.proofs.Common.{◌≡◌, ◌∙◌, ℕ, zero, suc, ◌+◌, ◌<◌, ◌≤◌, Bool, true, false, ◌||◌, List, [], ◌∷◌, ◌++◌, map, length, take, drop, Some, refl, sym, ap, ap₂, arith}
use Rattle.std.specs.Prelude.{if◌then◌else◌, not, option_map, slice_get, slice_index_or, slice_set}
use Rattle.std.specs.List.{list_any}
use Rattle.jthreads.specs.declared.thread.Thread.{Thread}
use Rattle.jthreads.specs.declared.table.Joined.TheVariants.{AtOnce, Waits}
use Rattle.jthreads.specs.ThreadTables.{is_alive, is_started, join_answer, joined, table_after_start, thread_at, unstarted}
use Rattle.jsemantics.specs.jmachine.MachineStates.{GuestOf, State}
use Rattle.jsemantics.specs.jmachine.Store.{Store}
use Rattle.jruntime.specs.declared.jguests.guests.Guest.{Guest}
use Rattle.jruntime.specs.declared.jguests.guests.Guests.{Guests}
use Rattle.std.proofs.lemmas.List.{length-map, length-take-le, map-append}
use Rattle.joutput.specs.declared.jtrace.event.End.TheVariants as ends
use Rattle.jruntime.specs.jguests.GuestThreads.{AreGuests, guest_by, guests_of, have_failed, state_by, with_running}

-- ---- lists with another item in a place

pub map_set : {A B : Type 0} (f : A → B) (xs : List A) (i : ℕ) (x : A) → map f (slice_set xs i x) ≡ slice_set (map f xs) i (f x)
map_set f [] i x = refl
map_set f (y ∷ xs) zero x = refl
map_set f (y ∷ xs) (suc i) x = ap (λ ys. f y ∷ ys) (map_set f xs i x)

pub set_set : {A : Type 0} (xs : List A) (i : ℕ) (x y : A) → slice_set (slice_set xs i x) i y ≡ slice_set xs i y
set_set [] i x y = refl
set_set (z ∷ xs) zero x y = refl
set_set (z ∷ xs) (suc i) x y = ap (λ ys. z ∷ ys) (set_set xs i x y)

pub set_same : {A : Type 0} (xs : List A) (i : ℕ) (x : A) → slice_get xs i ≡ Some x → slice_set xs i x ≡ xs
set_same [] i x at = refl
set_same (y ∷ xs) zero x at = ap (λ z. z ∷ xs) (let e = at in cc)
set_same (y ∷ xs) (suc i) x at = ap (λ ys. y ∷ ys) (set_same xs i x at)

pub get_set : {A : Type 0} (xs : List A) (i : ℕ) (x : A) → i < length xs → slice_get (slice_set xs i x) i ≡ Some x
get_set [] i x lt = absurd (omega (arith, lt))
get_set (y ∷ xs) zero x lt = refl
get_set (y ∷ xs) (suc i) x lt = get_set xs i x (omega (arith, lt))

pub get_map : {A B : Type 0} (f : A → B) (xs : List A) (i : ℕ) → slice_get (map f xs) i ≡ option_map f (slice_get xs i)
get_map f [] i = refl
get_map f (x ∷ xs) zero = refl
get_map f (x ∷ xs) (suc i) = get_map f xs i

suc_more : (i : ℕ) → suc (i + 1) ≡ suc i + 1
suc_more i = omega arith

-- what stands in front of an item, it, and what stands behind it
pub whole : {A : Type 0} (xs : List A) (i : ℕ) (x : A) → slice_get xs i ≡ Some x → take i xs ++ x ∷ drop (i + 1) xs ≡ xs
whole [] i x at = absurd cc
whole (y ∷ xs) zero x at = ap (λ z. z ∷ xs) (let e = at in cc)
whole (y ∷ xs) (suc i) x at = ap (λ ys. y ∷ ys) (ap (λ n. take i xs ++ x ∷ drop n (y ∷ xs)) (sym (suc_more i)) ∙ whole xs i x at)

pub index_get : {A : Type 0} (xs : List A) (i : ℕ) (d : A) → i < length xs → slice_get xs i ≡ Some (slice_index_or xs i d)
index_get [] i d lt = absurd (omega (arith, lt))
index_get (x ∷ xs) zero d lt = refl
index_get (x ∷ xs) (suc i) d lt = index_get xs i d (omega (arith, lt))

pub length_set : {A : Type 0} (xs : List A) (i : ℕ) (x : A) → length (slice_set xs i x) ≡ length xs
length_set [] i x = refl
length_set (y ∷ xs) zero x = refl
length_set (y ∷ xs) (suc i) x = ap suc (length_set xs i x)

pub set_more : {A : Type 0} (xs : List A) (i : ℕ) (x y : A) → i < length xs → slice_set (xs ++ y ∷ []) i x ≡ slice_set xs i x ++ y ∷ []
set_more [] i x y lt = absurd (omega (arith, lt))
set_more (z ∷ xs) zero x y lt = refl
set_more (z ∷ xs) (suc i) x y lt = ap (λ zs. z ∷ zs) (set_more xs i x y (omega (arith, lt)))

pub take_set : {A : Type 0} (xs : List A) (i : ℕ) (x : A) → take i (slice_set xs i x) ≡ take i xs
take_set [] i x = refl
take_set (y ∷ xs) zero x = refl
take_set (y ∷ xs) (suc i) x = ap (λ ys. y ∷ ys) (take_set xs i x)

drop_set : {A : Type 0} (xs : List A) (i : ℕ) (x : A) → drop (suc i) (slice_set xs i x) ≡ drop (suc i) xs
drop_set [] i x = refl
drop_set (y ∷ xs) zero x = refl
drop_set (y ∷ xs) (suc i) x = drop_set xs i x

pub drop_set_more : {A : Type 0} (xs : List A) (i : ℕ) (x : A) → drop (i + 1) (slice_set xs i x) ≡ drop (i + 1) xs
drop_set_more xs i x = let n : i + 1 ≡ suc i = omega arith in ap (λ k. drop k (slice_set xs i x)) n ∙ drop_set xs i x ∙ ap (λ k. drop k xs) (sym n)

-- ---- threads

module _ {E : Type 0} where
  abbrev failed : GuestOf ℕ E → Bool
  failed g = g.failed

  any_set : (gs : List (GuestOf ℕ E)) (i : ℕ) (g : GuestOf ℕ E) → i < length gs → option_map failed (slice_get gs i) ≡ Some false
      → list_any failed (slice_set gs i g) ≡ (g.failed || list_any failed gs)
  any_set [] i g lt none = absurd (omega (arith, lt))
  any_set (x ∷ gs) zero g lt none = first x.failed (let e = none in cc)
    where
      first : (b : Bool) → b ≡ false → (g.failed || list_any failed gs) ≡ (g.failed || (b || list_any failed gs))
      first true is = cc
      first false is = refl
  any_set (x ∷ gs) (suc i) g lt none = ap (λ b. x.failed || b) (any_set gs i g (omega (arith, lt)) none) ∙ swapped x.failed g.failed (list_any failed gs)
    where
      swapped : (a b c : Bool) → (a || (b || c)) ≡ (b || (a || c))
      swapped true true c = refl
      swapped true false c = refl
      swapped false true c = refl
      swapped false false c = refl

  any_map : (gs : List (Guest E)) → list_any failed (map guest_by gs) ≡ have_failed gs
  any_map [] = refl
  any_map (g ∷ gs) = ap (λ b. g.failed || b) (any_map gs)

  -- the one that runs is at its place
  pub own : (g : Guests E) → AreGuests g → slice_get (guests_of g) g.at ≡ Some (guest_by g.running)
  own g are = get_set (map guest_by g.others.items) g.at (guest_by g.running) (let e = length-map g.others.items guest_by in omega (arith, are.at, e))

  pub failed_is : (g : Guests E) → AreGuests g → list_any failed (take g.at (guests_of g) ++ guest_by g.running ∷ drop (g.at + 1) (guests_of g)) ≡ (g.running.failed || have_failed g.others.items)
  failed_is g are =
      let e = length-map g.others.items guest_by in
      let none : option_map failed (slice_get (map guest_by g.others.items) g.at) ≡ Some false = husk_of g.others.items g.at are.husk in
      ap (list_any failed) (whole (guests_of g) g.at (guest_by g.running) (own g are))
      ∙ any_set (map guest_by g.others.items) g.at (guest_by g.running) (omega (arith, are.at, e)) none
      ∙ ap (λ b. g.running.failed || b) (any_map g.others.items)
    where
      husk_of : (gs : List (Guest E)) (i : ℕ) → option_map (λ (x : Guest E). x.failed) (slice_get gs i) ≡ Some false → option_map failed (slice_get (map guest_by gs) i) ≡ Some false
      husk_of [] i is = is
      husk_of (x ∷ gs) zero is = is
      husk_of (x ∷ gs) (suc i) is = husk_of gs i is

  -- ---- turns

  -- the one whose turn it is
  pub found : (gs : List (Guest E)) (at t : ℕ) (mine next d : Guest E) → next ≡ slice_index_or (slice_set gs at mine) t d → t < length gs
      → slice_get (slice_set (map guest_by gs) at (guest_by mine)) t ≡ Some (guest_by next)
  found gs at t mine next d is lt =
      ap (λ xs. slice_get xs t) (sym (map_set guest_by gs at mine))
      ∙ get_map guest_by (slice_set gs at mine) t
      ∙ ap (option_map guest_by) (index_get (slice_set gs at mine) t d (let e = length_set gs at mine in omega (arith, lt, e)) ∙ ap Some (sym is))

  -- all threads stay
  pub switched : (gs : List (Guest E)) (at t : ℕ) (mine next husk d : Guest E) → next ≡ slice_index_or (slice_set gs at mine) t d → t < length gs
      → slice_set (map guest_by (slice_set (slice_set gs at mine) t husk)) t (guest_by next) ≡ slice_set (map guest_by gs) at (guest_by mine)
  switched gs at t mine next husk d is lt =
      ap (λ xs. slice_set xs t (guest_by next)) (map_set guest_by (slice_set gs at mine) t husk)
      ∙ set_set (map guest_by (slice_set gs at mine)) t (guest_by husk) (guest_by next)
      ∙ ap (λ xs. slice_set xs t (guest_by next)) (map_set guest_by gs at mine)
      ∙ set_same (slice_set (map guest_by gs) at (guest_by mine)) t (guest_by next) (found gs at t mine next d is lt)

  -- one more, behind the others
  pub one_more : (gs : List (Guest E)) (at : ℕ) (mine new : Guest E) → at < length gs
      → slice_set (map guest_by (gs ++ new ∷ [])) at (guest_by mine) ≡ slice_set (map guest_by gs) at (guest_by mine) ++ guest_by new ∷ []
  one_more gs at mine new lt =
      ap (λ xs. slice_set xs at (guest_by mine)) (map-append guest_by gs (new ∷ []))
      ∙ set_more (map guest_by gs) at (guest_by mine) (guest_by new) (let e = length-map gs guest_by in omega (arith, lt, e))

  abbrev beside : Guests E → Guest E → Store ℕ → List (GuestOf ℕ E) → List (GuestOf ℕ E) → State ℕ E
  beside g x store earlier later = record { earlier = earlier; running = guest_by x; later = later; table = g.table; store = store; turns = g.turns }

  pub runs_as : (g : Guests E) (x : Guest E) (store : Store ℕ) → state_by (with_running x g) store ≡ record (state_by g store) { running = guest_by x }
  runs_as g x store =
      let all = map guest_by g.others.items in
      ap₂ (beside g x store) (take_set all g.at (guest_by x) ∙ sym (take_set all g.at (guest_by g.running)))
      (drop_set_more all g.at (guest_by x) ∙ sym (drop_set_more all g.at (guest_by g.running)))

-- the number of the thread that runs
pub at_is : {E : Type 0} (g : Guests E) (store : Store ℕ) → AreGuests g → length (take g.at (guests_of g)) ≡ g.at
at_is g store are =
    let some = length-map g.others.items guest_by in
    let all = length_set (map guest_by g.others.items) g.at (guest_by g.running) in
    length-take-le g.at (guests_of g) (omega (arith, are.at, some, all))

-- ---- ends

pub ended : (all some : Bool) → all ≡ true → some ≡ true → ends.Uncaught ≡ (if all then (if some then ends.Uncaught else ends.Finished) else ends.Deadlock)
ended true true a b = refl
ended true false a b = cc
ended false some a b = cc

pub finished : (all some : Bool) → all ≡ true → some ≡ false → ends.Finished ≡ (if all then (if some then ends.Uncaught else ends.Finished) else ends.Deadlock)
finished true false a b = refl
finished true true a b = cc
finished false some a b = cc

-- ---- the table

past : {A : Type 0} (xs : List A) (i : ℕ) (d : A) → length xs ≤ i → slice_index_or xs i d ≡ d
past [] i d le = refl
past (x ∷ xs) zero d le = absurd (omega (arith, le))
past (x ∷ xs) (suc i) d le = past xs i d (omega (arith, le))

set_past : {A : Type 0} (xs : List A) (i : ℕ) (x : A) → length xs ≤ i → slice_set xs i x ≡ xs
set_past [] i x le = refl
set_past (y ∷ xs) zero x le = absurd (omega (arith, le))
set_past (y ∷ xs) (suc i) x le = ap (λ ys. y ∷ ys) (set_past xs i x (omega (arith, le)))

-- a thread that isn't there isn't started, and nothing changes where it is
pub not_there : (threads : List Thread) (t : ℕ) → length threads ≤ t → true ≡ not (is_started threads t)
not_there threads t le = ap (λ (x : Thread). not x.started) (sym (past threads t unstarted le))

pub start_none : (threads : List Thread) (t : ℕ) → length threads ≤ t → threads ≡ table_after_start t threads
start_none threads t le = sym (set_past threads t (record (thread_at threads t) { started = true }) le)

pub join_none : (threads : List Thread) (t : ℕ) → length threads ≤ t → AtOnce ≡ join_answer t threads
join_none threads t le = ap (λ (x : Thread). if is_alive x then Waits else AtOnce) (sym (past threads t unstarted le))

pub joined_none : (threads : List Thread) (me t : ℕ) → length threads ≤ t → threads ≡ joined me t threads
joined_none threads me t le =
    ap (λ (x : Thread). if is_alive x then slice_set threads me (record (thread_at threads me) { waits_for = Some t }) else threads) (sym (past threads t unstarted le))
