-- New texts and pieces: units written into the cells of an object.
use Rattle.std.proofs.Common.{◌≡◌, ◌∙◌, ℕ, zero, suc, ◌+◌, ◌-◌, ◌<◌, List, [], ◌∷◌, ◌++◌, length, drop, replicate, get_or, Some, None, refl, sym, ap, arith, add-one, append_assoc, length-append}
use Rattle.std.specs.Prelude.{option_map, slice_get, slice_set, unwrap_or}
use Rattle.std.proofs.Math.Seq.{drop-cons, set-append_seam}
use Rattle.std.proofs.lemmas.List.{length-set}
use Rattle.jmemory.specs.declared.jheap.cell.Kind.{Kind}
use Rattle.jmemory.specs.declared.jheap.cell.Kind.TheVariants as kinds
use Rattle.jmemory.specs.jheap.Heaps as heaps
use Rattle.jmemory.specs.jheap.Heaps.{Heaped, Makes, cells_at, changed, charge, made, with_cell}
use Rattle.jruntime.specs.jstate.ObjectCells.{MoreStayCelled, StayCelled}
use Rattle.jruntime.specs.jstate.HeapMeanings.{AreBuilt}
use Rattle.jruntime.specs.jstate.HeapMeaningLaws.{MoreStaysBuilt}
use Rattle.jrows.specs.jtexts.HeapTexts.{HoldsUnits, Puts, with_units, written}

abbrev with_number : ℕ → ℕ → heaps.Object → heaps.Object
with_number i n x = record x { cells = slice_set x.cells i n }

length_at : (xs : List heaps.Object) (o i n : ℕ)
    → length (unwrap_or (option_map (λ (x : heaps.Object). x.cells) (slice_get (changed (with_number i n) o xs) o)) []) ≡ length
    (unwrap_or (option_map (λ (x : heaps.Object). x.cells) (slice_get xs o)) [])
length_at [] o i n = refl
length_at (x ∷ xs) zero i n = length-set x.cells i n
length_at (x ∷ xs) (suc o) i n = length_at xs o i n

-- a cell that is written leaves the object as many
pub as_many : (h : Heaped) (o i n : ℕ) → length (cells_at (with_cell h o i n) o) ≡ length (cells_at h o)
as_many h zero i n = refl
as_many h (suc o) i n = length_at h.objects o i n

pub written_next : (h : Heaped) (o i j d : ℕ) (us : List ℕ) → j < length us
    → written h o i (drop j us) ≡ written (with_cell h o i (get_or us j d)) o (i + 1) (drop (j + 1) us)
unfolding written
written_next h o i j d us le = rw (add-one i, add-one j, drop-cons us j d le) refl

-- ---- the last object

abbrev ending : Heaped → Kind → List ℕ → ℕ → Heaped
ending h kind cells left = record h { objects = h.objects ++ record { kind = kind; cells = cells; before = 0 } ∷ []; left = left }

pub changed_last : (f : heaps.Object → heaps.Object) (xs : List heaps.Object) (x : heaps.Object) → changed f (length xs) (xs ++ x ∷ []) ≡ xs ++ f x ∷ []
changed_last f [] x = refl
changed_last f (y ∷ xs) x = ap (λ ys. y ∷ ys) (changed_last f xs x)

cell_last : (h : Heaped) (kind : Kind) (cells : List ℕ) (left i n : ℕ)
    → with_cell (ending h kind cells left) (suc (length h.objects)) i n ≡ ending h kind (slice_set cells i n) left
cell_last h kind cells left i n =
    ap (λ (os : List heaps.Object). record h { objects = os; left = left })
    (changed_last (with_number i n) h.objects (record { kind = kind; cells = cells; before = 0 }))

all_written : (h : Heaped) (kind : Kind) (left : ℕ) (front us : List ℕ)
    → written (ending h kind (front ++ replicate (length us) 0) left) (suc (length h.objects)) (length front) us ≡ ending h kind (front ++ us) left
unfolding written
all_written h kind left front [] = refl
all_written h kind left front (u ∷ us) =
    let here : slice_set (front ++ 0 ∷ replicate (length us) 0) (length front) u ≡ (front ++ u ∷ []) ++ replicate (length us) 0 =
    set-append_seam front 0 (replicate (length us) 0) u ∙ sym (append_assoc front (u ∷ []) (replicate (length us) 0)) in
    let one = cell_last h kind (front ++ 0 ∷ replicate (length us) 0) left (length front) u ∙ ap (λ cells. ending h kind cells left) here in
    let long : suc (length front) ≡ length (front ++ u ∷ []) = omega (arith, length-append front (u ∷ [])) in
    let more = all_written h kind left (front ++ u ∷ []) us in
    ap (λ (g : Heaped). written g (suc (length h.objects)) (suc (length front)) us) one
    ∙ ap (λ n. written (ending h kind ((front ++ u ∷ []) ++ replicate (length us) 0) left) (suc (length h.objects)) n us) long
    ∙ more ∙ ap (λ cells. ending h kind cells left) (append_assoc front (u ∷ []) us)

two_more : (kind : Kind) (n : ℕ) → HoldsUnits kind → charge kind n ≡ 2 + n
two_more (kinds.Object c) n holds = absurd holds
two_more (kinds.Array a) n holds = refl
two_more kinds.Text n holds = refl
two_more kinds.Piece n holds = refl

pub put_done : (kind : Kind) (us : List ℕ) (old mid new : Heaped) (o : ℕ) → HoldsUnits kind → Makes kind (length us) old mid (Some o)
    → new ≡ written mid o 0 us
    → Puts kind us old new (Some o)
put_done kind us old mid new o holds (few, number, is) done =
    let cost = two_more kind (length us) holds in
    let at : o ≡ suc (length old.objects) = number ∙ add-one (length old.objects) in
    let all = all_written old kind (old.left - charge kind (length us)) [] us in
    let paid : ending old kind us (old.left - charge kind (length us)) ≡ with_units kind us old = ap (λ c. ending old kind us (old.left - c)) cost in
    (omega (arith, few, cost), number, done ∙ ap (λ (g : Heaped). written g o 0 us) is ∙ ap (λ n. written (made old kind (length us)) n 0 us) at ∙ all ∙ paid)

pub put_none : (kind : Kind) (us : List ℕ) (old new : Heaped) → HoldsUnits kind → Makes kind (length us) old new None → Puts kind us old new None
put_none kind us old new holds (few, is) = let cost = two_more kind (length us) holds in (omega (arith, few, cost), is)

-- what is put names no piece
pub units_stay : MoreStaysBuilt → (kind : Kind) (us : List ℕ) (old new : Heaped) (o : ℕ) → HoldsUnits kind → AreBuilt old.objects → Puts kind us old new (Some o)
    → AreBuilt new.objects
units_stay law (kinds.Object c) us old new o holds all puts = absurd holds
units_stay law (kinds.Array a) us old new o holds all puts = absurd holds
units_stay law kinds.Text us old new o holds all (few, number, is) =
    rw is (law old.objects (record { kind = kinds.Text; cells = us; before = 0 }) all (omega arith) (omega arith))
units_stay law kinds.Piece us old new o holds all (few, number, is) =
    rw is (law old.objects (record { kind = kinds.Piece; cells = us; before = 0 }) all (omega arith) (omega arith))

-- and texts and pieces may have as many cells as they like
pub units_celled : MoreStayCelled → (kind : Kind) (us : List ℕ) (old new : Heaped) (o : ℕ) → HoldsUnits kind → Puts kind us old new (Some o) → StayCelled old.objects new.objects
units_celled law (kinds.Object c) us old new o holds puts shapes all = absurd holds
units_celled law (kinds.Array a) us old new o holds puts shapes all = absurd holds
units_celled law kinds.Text us old new o holds (few, number, is) shapes all =
    rw is (law shapes old.objects (record { kind = kinds.Text; cells = us; before = 0 }) (λ n wants. cc) all)
units_celled law kinds.Piece us old new o holds (few, number, is) shapes all =
    rw is (law shapes old.objects (record { kind = kinds.Piece; cells = us; before = 0 }) (λ n wants. cc) all)
