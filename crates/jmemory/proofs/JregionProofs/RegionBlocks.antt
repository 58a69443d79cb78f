-- Blocks as pieces of a list of cells.
use Rattle.std.proofs.Common.{◌≡◌, ◌∙◌, ℕ, zero, suc, ◌+◌, ◌-◌, ◌<◌, ◌≤◌, List, [], ◌∷◌, ◌++◌, length, take, drop, map, replicate, Some, refl, sym, ap, ap₂, arith}
use Rattle.std.specs.Prelude.{slice_get, slice_set, sum_by, unwrap_or}
use Rattle.std.proofs.lemmas.List.{drop-set-lt, drop-set-add, take-set-le, take-append-le, drop-append-le, take_all, length-append, length-replicate, length-drop, length-set, length-take-le}
use Rattle.std.proofs.lemmas.List.Sums.{sum_by-cons}
use Rattle.std.proofs.Math.Seq.{take-set-lt, drop-append_seam}
use Rattle.jmemory.specs.declared.jregion.region.Block.{Block}
use Rattle.jmemory.specs.jregion.Regions.{Regioned, HasCell, placed, next_block, with_cell, cells_of, size}
use Rattle.jmemory.specs.jregion.Blocks.{Lie}
use Rattle.jmemory.specs.jregion.RegionLaws.{BeginsEmpty, AddsZeros, AreLong, WritesOne, ReadsTheWrite, AddsUp, KeepsSize}

abbrev piece : List ℕ → Block → List ℕ
piece xs b = take b.len (drop b.first xs)

-- ---- one cell

get_front : (n i : ℕ) (xs : List ℕ) → i < length (take n xs) → (slice_get (take n xs) i ≡ slice_get xs i) × (i < length xs) × (i < n)
get_front zero i xs lt = absurd (omega (arith, lt))
get_front (suc n) i [] lt = absurd (omega (arith, lt))
get_front (suc n) zero (x ∷ xs) lt = (refl, omega arith, omega arith)
get_front (suc n) (suc i) (x ∷ xs) lt =
    let more = get_front n i xs (omega (arith, lt)) in
    (more.0, omega (arith, more.1), omega (arith, more.2))

get_behind : (f i : ℕ) (xs : List ℕ) → slice_get (drop f xs) i ≡ slice_get xs (f + i)
get_behind zero i xs = ap (slice_get xs) (omega arith)
get_behind (suc f) i [] = refl
get_behind (suc f) i (x ∷ xs) =
    let more : suc (f + i) ≡ suc f + i = omega arith in
    get_behind f i xs ∙ ap (slice_get (x ∷ xs)) more

-- a block's cell lies among all cells
pub inside : (xs : List ℕ) (b : Block) (i : ℕ) → i < length (piece xs b) → b.first + i < length xs
inside xs b i lt =
    let cut = get_front b.len i (drop b.first xs) lt in
    omega (arith, cut.1, length-drop b.first xs)

-- what it holds
pub cell_is : (xs : List ℕ) (b : Block) (i : ℕ) → i < length (piece xs b) → slice_get (piece xs b) i ≡ slice_get xs (b.first + i)
cell_is xs b i lt = (get_front b.len i (drop b.first xs) lt).0 ∙ get_behind b.first i xs

set_here : (xs : List ℕ) (i x : ℕ) → i < length xs → slice_get (slice_set xs i x) i ≡ Some x
set_here [] i x lt = absurd (omega (arith, lt))
set_here (y ∷ xs) zero x lt = refl
set_here (y ∷ xs) (suc i) x lt = set_here xs i x (omega (arith, lt))

own : (xs : List ℕ) (b : Block) (i v : ℕ) → i < b.len → piece (slice_set xs (b.first + i) v) b ≡ slice_set (piece xs b) i v
own xs b i v lt = ap (take b.len) (drop-set-add b.first xs i v) ∙ take-set-lt b.len (drop b.first xs) i v lt

pub reads_the_write : ReadsTheWrite
reads_the_write r b i v lt =
    ap (λ xs. slice_get xs i) (own r.cells b i v (get_front b.len i (drop b.first r.cells) lt).2)
    ∙ set_here (cells_of r b) i v lt

-- ---- blocks one behind the other

up_to : (at end : ℕ) (bs : List Block) → Lie at bs end → at ≤ end
up_to at end [] lie = omega (arith, lie)
up_to at end (b ∷ bs) lie = omega (arith, up_to (at + b.len) end bs lie.1)

same_item : (c b : Block) → Some c ≡ Some b → c ≡ b
same_item c b is = ap (λ o. unwrap_or o c) is

-- where a block lies
between : (at end n : ℕ) (bs : List Block) (b : Block) → Lie at bs end → slice_get bs n ≡ Some b → (at ≤ b.first) × (b.first + b.len ≤ end)
between at end n [] b lie is = cc
between at end zero (c ∷ bs) b lie is = rw (← same_item c b is) (omega (arith, lie.0), omega (arith, lie.0, up_to (at + c.len) end bs lie.1))
between at end (suc n) (c ∷ bs) b lie is =
    let more = between (at + c.len) end n bs b lie.1 is in
    (omega (arith, more.0), more.1)

pub long_at : (xs : List ℕ) (b : Block) → b.first + b.len ≤ length xs → length (piece xs b) ≡ b.len
long_at xs b le = length-take-le b.len (drop b.first xs) (omega (arith, le, length-drop b.first xs))

pub are_long : AreLong
are_long r bs n b lie is = long_at r.cells b (between 0 (length r.cells) n bs b lie is).1

-- ---- a write

-- to a cell behind a block
earlier : (xs : List ℕ) (b : Block) (j v : ℕ) → b.first + b.len ≤ j → piece (slice_set xs j v) b ≡ piece xs b
earlier xs b j v le =
    let at : j ≡ b.first + (j - b.first) = omega (arith, le) in
    ap (λ k. piece (slice_set xs k v) b) at
    ∙ ap (take b.len) (drop-set-add b.first xs (j - b.first) v)
    ∙ take-set-le b.len (drop b.first xs) (j - b.first) v (omega (arith, le))

-- to a cell in front of blocks
all_later : (xs : List ℕ) (at end j v : ℕ) (bs : List Block) → Lie at bs end → j < at → map (piece (slice_set xs j v)) bs ≡ map (piece xs) bs
all_later xs at end j v [] lie lt = refl
all_later xs at end j v (b ∷ bs) lie lt =
    ap₂ (λ c cs. c ∷ cs)
    (ap (take b.len) (drop-set-lt b.first xs j v (omega (arith, lie.0, lt))))
    (all_later xs (at + b.len) end j v bs lie.1 (omega (arith, lt)))

written : (xs : List ℕ) (at end n : ℕ) (bs : List Block) (b : Block) (i v : ℕ) → Lie at bs end → slice_get bs n ≡ Some b → i < b.len
    → map (piece (slice_set xs (b.first + i) v)) bs ≡ slice_set (map (piece xs) bs) n (slice_set (piece xs b) i v)
written xs at end n [] b i v lie is lt = cc
written xs at end zero (c ∷ bs) b i v lie is lt =
    let same : c ≡ b = same_item c b is in
    let len : c.len ≡ b.len = ap (λ (d : Block). d.len) same in
    let first : c.first ≡ b.first = ap (λ (d : Block). d.first) same in
    ap₂ (λ d ds. d ∷ ds)
    (ap (piece (slice_set xs (b.first + i) v)) same ∙ own xs b i v lt)
    (all_later xs (at + c.len) end (b.first + i) v bs lie.1 (omega (arith, lie.0, len, first, lt)))
written xs at end (suc n) (c ∷ bs) b i v lie is lt =
    let there = between (at + c.len) end n bs b lie.1 is in
    ap₂ (λ d ds. d ∷ ds)
    (earlier xs c (b.first + i) v (omega (arith, lie.0, there.0)))
    (written xs (at + c.len) end n bs b i v lie.1 is lt)

pub writes_one : WritesOne
writes_one r bs n b i v lie is lt =
    let all : length r.cells ≡ length (slice_set r.cells (b.first + i) v) = sym (length-set r.cells (b.first + i) v) in
    (rw (← all) lie, written r.cells 0 (length r.cells) n bs b i v lie is lt)

-- ---- one more block

lie_more : (at end : ℕ) (bs : List Block) (b : Block) → Lie at bs end → b.first ≡ end → Lie at (bs ++ b ∷ []) (end + b.len)
lie_more at end [] b lie first = (first ∙ sym lie, ap (λ k. k + b.len) lie)
lie_more at end (c ∷ bs) b lie first = (lie.0, lie_more (at + c.len) end bs b lie.1 first)

all_stay : (xs ys : List ℕ) (at end : ℕ) (bs : List Block) → Lie at bs end → end ≤ length xs → map (piece (xs ++ ys)) bs ≡ map (piece xs) bs
all_stay xs ys at end [] lie le = refl
all_stay xs ys at end (b ∷ bs) lie le =
    let up = up_to (at + b.len) end bs lie.1 in
    let first : b.first ≤ length xs = omega (arith, up, lie.0, le) in
    let whole : b.len ≤ length (drop b.first xs) = omega (arith, length-drop b.first xs, up, lie.0, le) in
    ap₂ (λ c cs. c ∷ cs)
    (ap (take b.len) (drop-append-le b.first xs ys first) ∙ take-append-le b.len (drop b.first xs) ys whole)
    (all_stay xs ys (at + b.len) end bs lie.1 le)

pub zeros : (xs : List ℕ) (len : ℕ) → piece (xs ++ replicate len 0) (record { first = length xs; len = len }) ≡ replicate len 0
zeros xs len =
    let long : length (replicate len 0) ≡ len = length-replicate {A = ℕ} len 0 in
    ap (take len) (drop-append_seam xs (replicate len 0)) ∙ take_all len (replicate len 0) (omega (arith, long))

last_of : (f : Block → List ℕ) (bs : List Block) (b : Block) → map f (bs ++ b ∷ []) ≡ map f bs ++ f b ∷ []
last_of f [] b = refl
last_of f (c ∷ bs) b = ap (λ ds. f c ∷ ds) (last_of f bs b)

pub adds_zeros : AddsZeros
adds_zeros r bs len lie =
    let b = next_block r len in
    let ys : List ℕ = replicate {A = ℕ} len 0 in
    let whole : length r.cells ≤ length r.cells = omega arith in
    let long : length (r.cells ++ ys) ≡ length r.cells + len = length-append r.cells ys ∙ ap (λ n. length r.cells + n) (length-replicate {A = ℕ} len 0) in (
      rw long (lie_more 0 (length r.cells) bs b lie refl),
      last_of (piece (r.cells ++ ys)) bs b
          ∙ ap₂ (λ ds d. ds ++ d ∷ []) (all_stay r.cells ys 0 (length r.cells) bs lie whole) (zeros r.cells len),
    )

-- ---- how many cells

summed : (xs : List ℕ) (at end : ℕ) (bs : List Block) → Lie at bs end → end ≤ length xs → at + sum_by length (map (piece xs) bs) ≡ end
summed xs at end [] lie le = omega (arith, lie)
summed xs at end (b ∷ bs) lie le =
    let up = up_to (at + b.len) end bs lie.1 in
    let own = long_at xs b (omega (arith, up, lie.0, le)) in
    let first = sum_by-cons (λ (c : List ℕ). length c) (piece xs b) (map (piece xs) bs) in
    let others = summed xs (at + b.len) end bs lie.1 le in
    omega (arith, first, own, others)

pub adds_up : AddsUp
adds_up r bs lie = omega (arith, summed r.cells 0 (length r.cells) bs lie (omega arith))

pub begins_empty : BeginsEmpty
begins_empty n = refl

pub keeps_size : KeepsSize
keeps_size = (λ n. omega arith, more, same)
  where
    more : (r : Regioned) (len : ℕ) → len ≤ r.room → size (placed r len) ≡ size r
    more r len le = omega (arith, le, length-append r.cells (replicate len 0), length-replicate {A = ℕ} len 0)

    same : (r : Regioned) (b : Block) (i v : ℕ) → size (with_cell r b i v) ≡ size r
    same r b i v = ap (λ n. n + r.room) (length-set r.cells (b.first + i) v)

-- ---- what a call leaves

has : (n i : ℕ) (xs : List ℕ) → i < length xs → i < n → i < length (take n xs)
has zero i xs there lt = absurd (omega (arith, lt))
has (suc n) i [] there lt = absurd (omega (arith, there))
has (suc n) zero (x ∷ xs) there lt = omega arith
has (suc n) (suc i) (x ∷ xs) there lt = omega (arith, has n i xs (omega (arith, there)) (omega (arith, lt)))

-- a cell is there in a list that is no shorter
has_more : (xs ys : List ℕ) (b : Block) (i : ℕ) → length xs ≤ length ys → i < length (piece xs b) → i < length (piece ys b)
has_more xs ys b i le lt =
    let cut = get_front b.len i (drop b.first xs) lt in
    has b.len i (drop b.first ys) (omega (arith, le, cut.1, length-drop b.first xs, length-drop b.first ys)) cut.2

front_stays : (i : ℕ) (xs ys : List ℕ) → i < length xs → slice_get (xs ++ ys) i ≡ slice_get xs i
front_stays i [] ys lt = absurd (omega (arith, lt))
front_stays zero (x ∷ xs) ys lt = refl
front_stays (suc i) (x ∷ xs) ys lt = front_stays i xs ys (omega (arith, lt))

pub stays : (r : Regioned) (len : ℕ) (b : Block) (i : ℕ) → HasCell r b i
    → HasCell (placed r len) b i × (slice_get (cells_of (placed r len) b) i ≡ slice_get (cells_of r b) i)
stays r len b i lt =
    let ys : List ℕ = replicate {A = ℕ} len 0 in
    let more = has_more r.cells (r.cells ++ ys) b i (omega (arith, length-append r.cells ys)) lt in
    (more, cell_is (r.cells ++ ys) b i more ∙ front_stays (b.first + i) r.cells ys (inside r.cells b i lt) ∙ sym (cell_is r.cells b i lt))

pub keeps_cells : (r : Regioned) (b : Block) (i v : ℕ) (c : Block) (j : ℕ) → HasCell r c j → HasCell (with_cell r b i v) c j
keeps_cells r b i v c j lt =
    let same = length-set r.cells (b.first + i) v in
    has_more r.cells (slice_set r.cells (b.first + i) v) c j (omega (arith, same)) lt
