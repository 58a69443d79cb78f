-- Objects in the blocks of a region.
use Rattle.std.proofs.Common.{◌≡◌, ◌∙◌, ℕ, zero, suc, ◌+◌, ◌-◌, ◌<◌, ◌≤◌, List, [], ◌∷◌, ◌++◌, length, replicate, take, drop, map, Option, Some, None, refl, sym, ap, ap₂, subst, arith}
use Rattle.std.specs.Prelude.{◌^◌, ◌%◌, get_or, slice_get, slice_set, unwrap_or, is_some, true}
use Rattle.std.specs.Option.{option_map}
use Rattle.std.proofs.lemmas.Option.{get_or_from_slice_get, slice_get-map, slice_get_read}
use Rattle.std.proofs.lemmas.List.{length-set, length-map, length-replicate, length-append, length-drop, length-take-le, map-append, take_all, take-set-le, get_or-set_other, get_or-set_same}
use Rattle.std.proofs.Math.Seq.{take-set-lt}
use Rattle.std.proofs.Math.Nat.{mod-eq_of_lt}
use Rattle.jmemory.specs.declared.jheap.cell.Kind.{Kind}
use Rattle.jmemory.specs.declared.jheap.cell.Kind.TheVariants as kinds
use Rattle.jmemory.specs.jheap.Heaps.{AreSmall, Object, Heaped, HasCell, object_at, kind_at, cells_at, cell_at, before_at, with_object, fresh, changed, charge}
use Rattle.jmemory.specs.jheap.ObjectLayout.{IsWhole, AreWhole, behind, before_in, header, headed, kind_of, object_by, object_in, objects_of}
use Rattle.jmemory.specs.declared.jregion.region.Block.{Block}
use Rattle.jmemory.specs.jregion.Regions.{Regioned, cells_of, next_block, placed, with_cell as region_with}
use Rattle.jmemory.specs.jregion.Blocks.{AreBlocks, blocks_of}
use Rattle.jmemory.specs.jregion.RegionLaws.{AddsZeros, AreLong, WritesOne}

-- ---- lists

cut : (n i : ℕ) (xs : List ℕ) → i < length (take n xs) → (slice_get (take n xs) i ≡ slice_get xs i) × (i < length xs) × (i < n)
cut zero i xs lt = absurd (omega (arith, lt))
cut (suc n) i [] lt = absurd (omega (arith, lt))
cut (suc n) zero (x ∷ xs) lt = (refl, omega arith, omega arith)
cut (suc n) (suc i) (x ∷ xs) lt =
    let more = cut n i xs (omega (arith, lt)) in
    (more.0, omega (arith, more.1), omega (arith, more.2))

fewer : (k : ℕ) (xs : List ℕ) → length (take k xs) ≤ length xs
fewer zero xs = omega arith
fewer (suc k) [] = omega arith
fewer (suc k) (x ∷ xs) = let le = fewer k xs in omega (arith, le)

abbrev zeros : ℕ → List ℕ
zeros n = replicate n 0

long : (n : ℕ) → length (zeros n) ≡ n
long n = length-replicate {A = ℕ} n 0

get_zero : (n j : ℕ) → get_or (zeros n) j 0 ≡ 0
get_zero zero j = refl
get_zero (suc n) zero = refl
get_zero (suc n) (suc j) = get_zero n j

front_zeros : (n : ℕ) → take n (zeros (suc n)) ≡ zeros n
front_zeros zero = refl
front_zeros (suc n) = ap (λ xs. 0 ∷ xs) (front_zeros n)

last_at : {A : Type 0} (xs : List A) (x : A) (n : ℕ) → n ≡ length xs → slice_get (xs ++ x ∷ []) n ≡ Some x
last_at [] x zero e = refl
last_at [] x (suc n) e = absurd (omega (arith, e))
last_at (y ∷ xs) x zero e = absurd (omega (arith, e))
last_at (y ∷ xs) x (suc n) e = last_at xs x n (omega (arith, e))

last_set : {A : Type 0} (xs : List A) (x y : A) (n : ℕ) → n ≡ length xs → slice_set (xs ++ x ∷ []) n y ≡ xs ++ y ∷ []
last_set [] x y zero e = refl
last_set [] x y (suc n) e = absurd (omega (arith, e))
last_set (z ∷ xs) x y zero e = absurd (omega (arith, e))
last_set (z ∷ xs) x y (suc n) e = ap (λ zs. z ∷ zs) (last_set xs x y n (omega (arith, e)))

pub same : {A : Type 0} (x y : A) → Some x ≡ Some y → x ≡ y
same x y e = ap (λ o. unwrap_or o x) e

-- ---- one object's cells

-- a cell of an object lies one behind its number
pub cell_in : (cs : List ℕ) (i : ℕ) → i < length (object_in cs).cells → (slice_get (object_in cs).cells i ≡ slice_get cs (suc i)) × (suc i < length cs)
cell_in [] i lt = absurd (omega (arith, lt))
cell_in (n ∷ cells) i lt = let c = cut (length cells - behind (kind_of n)) i cells lt in (c.0, omega (arith, c.1))

few_in : (cs : List ℕ) → length (object_in cs).cells ≤ length cs
few_in [] = omega arith
few_in (n ∷ cells) = let le = fewer (length cells - behind (kind_of n)) cells in omega (arith, le)

pub has_first : (cs : List ℕ) → IsWhole cs → 0 < length cs
has_first [] whole = absurd whole
has_first (n ∷ cells) whole = omega arith

-- what its first cell says
pub kind_in : (cs : List ℕ) (n : ℕ) → IsWhole cs → Some n ≡ slice_get cs 0 → (object_in cs).kind ≡ kind_of n
kind_in [] n whole e = absurd whole
kind_in (m ∷ cells) n whole e = ap kind_of (sym (same n m e))

len_by : (kind : Kind) (cells : List ℕ) → behind kind ≤ length cells → length (object_by kind cells).cells + behind kind ≡ length cells
len_by kind cells le =
    let e : length (take (length cells - behind kind) cells) ≡ length cells - behind kind = length-take-le (length cells - behind kind) cells (omega (arith, le)) in
    omega (arith, e, le)

-- how many cells it has
pub len_in : (cs : List ℕ) → IsWhole cs → length (object_in cs).cells + behind (object_in cs).kind + 1 ≡ length cs
len_in [] whole = absurd whole
len_in (n ∷ cells) whole = let e = len_by (kind_of n) cells whole in omega (arith, e)

no_piece_in : (cs : List ℕ) (k : Kind) → (object_in cs).kind ≡ k → ((cells : List ℕ) → before_in k cells ≡ 0) → (object_in cs).before ≡ 0
no_piece_in [] k is none = refl
no_piece_in (n ∷ cells) k is none = ap (λ m. before_in m cells) is ∙ none cells

-- a piece's last cell
pub piece_in : (cs : List ℕ) (j v : ℕ) → IsWhole cs → (object_in cs).kind ≡ kinds.Piece → j + 1 ≡ length cs → Some v ≡ slice_get cs j → (object_in cs).before ≡ v % 2 ^ 32
piece_in [] j v whole is at e = absurd whole
piece_in (n ∷ cells) j v whole is at e = go (kind_of n) j is whole at e
  where
    go : (kind : Kind) (j : ℕ) → kind ≡ kinds.Piece → behind kind ≤ length cells → j + 1 ≡ suc (length cells) → Some v ≡ slice_get (n ∷ cells) j → before_in kind cells ≡ v % 2 ^ 32
    go (kinds.Object m) j is le at e = cc
    go (kinds.Array m) j is le at e = cc
    go kinds.Text j is le at e = cc
    go kinds.Piece zero is le at e = absurd (omega (arith, at, le))
    go kinds.Piece (suc j) is le at e =
        let here : length cells - 1 ≡ j = omega (arith, at) in
        ap (λ x. x % 2 ^ 32) (ap (λ k. get_or cells k 0) here ∙ get_or_from_slice_get cells j v 0 (sym e))

-- ---- a write into one object

abbrev put : ℕ → ℕ → Object → Object
put i v x = record x { cells = slice_set x.cells i v }

abbrev fronted : ℕ → Object → Object
fronted b x = record x { before = b }

same_before : (kind : Kind) (cells : List ℕ) (i v : ℕ) → i < length cells - behind kind → before_in kind (slice_set cells i v) ≡ before_in kind cells
same_before (kinds.Object n) cells i v lt = refl
same_before (kinds.Array n) cells i v lt = refl
same_before kinds.Text cells i v lt = refl
same_before kinds.Piece cells i v lt =
    ap (λ x. x % 2 ^ 32) (ap (λ k. get_or (slice_set cells i v) (k - 1) 0) (length-set cells i v) ∙ get_or-set_other cells i (length cells - 1) v 0 (λ e. omega (arith, e, lt)))

pub cell_put : (cs : List ℕ) (i v : ℕ) → i < length (object_in cs).cells → object_in (slice_set cs (suc i) v) ≡ put i v (object_in cs)
cell_put [] i v lt = absurd (omega (arith, lt))
cell_put (n ∷ cells) i v lt =
    let inside : i < length cells - behind (kind_of n) = (cut (length cells - behind (kind_of n)) i cells lt).2 in
    ap₂ (λ (xs : List ℕ) (b : ℕ). record { kind = kind_of n; cells = xs; before = b })
    (ap (λ k. take (k - behind (kind_of n)) (slice_set cells i v)) (length-set cells i v) ∙ take-set-lt (length cells - behind (kind_of n)) cells i v inside)
    (same_before (kind_of n) cells i v inside)

pub still_whole : (cs : List ℕ) (j v : ℕ) → IsWhole cs → 0 < j → IsWhole (slice_set cs j v)
still_whole [] j v whole lt = absurd whole
still_whole (n ∷ cells) zero v whole lt = absurd (omega (arith, lt))
still_whole (n ∷ cells) (suc j) v whole lt = let e = length-set cells j v in omega (arith, e, whole)

pub front_put : (cs : List ℕ) (j b : ℕ) → IsWhole cs → (object_in cs).kind ≡ kinds.Piece → j + 1 ≡ length cs → b < 2 ^ 32 → object_in (slice_set cs j b) ≡ fronted b (object_in cs)
front_put [] j b whole is at fits = absurd whole
front_put (n ∷ cells) zero b whole is at fits =
    let one : behind (kind_of n) ≡ 1 = ap behind is in
    absurd (omega (arith, at, whole, one))
front_put (n ∷ cells) (suc j) b whole is at fits = go (kind_of n) is whole
  where
    go : (kind : Kind) → kind ≡ kinds.Piece → behind kind ≤ length cells → object_by kind (slice_set cells j b) ≡ fronted b (object_by kind cells)
    go (kinds.Object m) is le = cc
    go (kinds.Array m) is le = cc
    go kinds.Text is le = cc
    go kinds.Piece is le =
        let long = length-set cells j b in
        let last : length (slice_set cells j b) - 1 ≡ j = omega (arith, long, at) in
        let here : length cells - 1 ≡ j = omega (arith, at) in
        ap₂ (λ (xs : List ℕ) (k : ℕ). record { kind = kinds.Piece; cells = xs; before = k })
        (ap (λ k. take k (slice_set cells j b)) last ∙ take-set-le j cells j b (omega arith) ∙ sym (ap (λ k. take k cells) here))
        (ap (λ k. get_or (slice_set cells j b) k 0 % 2 ^ 32) last ∙ ap (λ k. k % 2 ^ 32) (get_or-set_same cells j b 0 (omega (arith, at))) ∙ mod-eq_of_lt fits)

-- ---- the object of a number

abbrev pub held : Regioned → List Block → List ℕ → Heaped
held r bs kept = record { objects = objects_of r bs; statics = kept; left = r.room }

-- the block in which it lies
pub record Lies (r : Regioned) (bs : List Block) (kept : List ℕ) (o : ℕ) : Type 0 where
  pub place : ℕ
  pub block : Block
  pub number : o ≡ suc place
  pub listed : place < length bs
  pub at : slice_get bs place ≡ Some block
  pub object : object_at (held r bs kept) o ≡ Some (object_in (cells_of r block))

pub lies : (r : Regioned) (bs : List Block) (kept : List ℕ) (o : ℕ) → is_some (object_at (held r bs kept) o) ≡ true → Lies r bs kept o
lies r bs kept zero is = cc
lies r bs kept (suc n) is = go bs n is
  where
    go : (bs : List Block) (n : ℕ) → is_some (slice_get (objects_of r bs) n) ≡ true → Lies r bs kept (suc n)
    go [] n is = cc
    go (b ∷ bs) zero is = record { place = 0; block = b; number = refl; listed = omega arith; at = refl; object = refl }
    go (b ∷ bs) (suc n) is =
        let more = go bs n is in
        record { place = suc more.place; block = more.block; number = ap suc more.number; listed = omega (arith, more.listed); at = more.at; object = more.object }

pub has_object : (h : Heaped) (o i : ℕ) → HasCell h o i → is_some (object_at h o) ≡ true
has_object h o i lt = go (object_at h o) lt
  where
    go : (x : Option Object) → i < length (unwrap_or (option_map (λ (y : Object). y.cells) x) []) → is_some x ≡ true
    go None lt = absurd (omega (arith, lt))
    go (Some x) lt = refl

pub is_there : (h : Heaped) (o : ℕ) (k : Kind) → kind_at h o ≡ Some k → is_some (object_at h o) ≡ true
is_there h o k is = go (object_at h o) is
  where
    go : (x : Option Object) → option_map (λ (y : Object). y.kind) x ≡ Some k → is_some x ≡ true
    go None is = cc
    go (Some x) is = refl

-- what is read at its place is its block
pub block_is : (r : Regioned) (bs : List Block) (kept : List ℕ) (o : ℕ) (l : Lies r bs kept o) (b : Block) → b ≡ get_or bs (o - 1) b → b ≡ l.block
block_is r bs kept o l b read =
    let place : o - 1 ≡ l.place = omega (arith, l.number) in
    same b l.block (sym (slice_get_read bs (length bs) l.place b refl l.listed (read ∙ ap (λ k. get_or bs k b) place)) ∙ l.at)

pub whole_at : (xs : List (List ℕ)) (n : ℕ) (c : List ℕ) → AreWhole xs → slice_get xs n ≡ Some c → IsWhole c
whole_at [] n c all at = cc
whole_at (x ∷ xs) zero c all at = subst IsWhole (same x c at) all.0
whole_at (x ∷ xs) (suc n) c all at = whole_at xs n c all.1 at

cells_there : (r : Regioned) (bs : List Block) (kept : List ℕ) (o : ℕ) (l : Lies r bs kept o) → slice_get (blocks_of r bs) l.place ≡ Some (cells_of r l.block)
cells_there r bs kept o l = slice_get-map (cells_of r) bs l.place ∙ ap (option_map (cells_of r)) l.at

-- its cells are whole
pub is_whole : (r : Regioned) (bs : List Block) (kept : List ℕ) (o : ℕ) (l : Lies r bs kept o) → AreWhole (blocks_of r bs) → IsWhole (cells_of r l.block)
is_whole r bs kept o l all = whole_at (blocks_of r bs) l.place (cells_of r l.block) all (cells_there r bs kept o l)

-- ---- no object has more cells than there are

pub cells_fit : (r : Regioned) (b : Block) → length (cells_of r b) ≤ length r.cells
cells_fit r b = let less = fewer b.len (drop b.first r.cells) in omega (arith, less, length-drop b.first r.cells)

within : (r : Regioned) (bs : List Block) (n : ℕ) → length (unwrap_or (option_map (λ (x : Object). x.cells) (slice_get (objects_of r bs) n)) []) ≤ length r.cells
within r [] n = omega arith
within r (b ∷ bs) zero =
    let few = few_in (cells_of r b) in
    omega (arith, few, cells_fit r b)
within r (b ∷ bs) (suc n) = within r bs n

pub small : (r : Regioned) (bs : List Block) (kept : List ℕ) → length r.cells < 2 ^ 31 → AreSmall (held r bs kept)
small r bs kept few zero = omega arith
small r bs kept few (suc o) = let le = within r bs o in omega (arith, le, few)

-- ---- an object is changed

map_set : (f : Object → Object) (xs : List (List ℕ)) (n : ℕ) (c d : List ℕ) → slice_get xs n ≡ Some c → object_in d ≡ f (object_in c) → map object_in (slice_set xs n d) ≡ changed f n (map object_in xs)
map_set f [] n c d at is = cc
map_set f (x ∷ xs) zero c d at is = ap (λ o. o ∷ map object_in xs) (is ∙ ap (λ y. f (object_in y)) (sym (same x c at)))
map_set f (x ∷ xs) (suc n) c d at is = ap (λ os. object_in x ∷ os) (map_set f xs n c d at is)

whole_set : (xs : List (List ℕ)) (n : ℕ) (d : List ℕ) → AreWhole xs → IsWhole d → AreWhole (slice_set xs n d)
whole_set [] n d all one = tt
whole_set (x ∷ xs) zero d all one = (one, all.1)
whole_set (x ∷ xs) (suc n) d all one = (all.0, whole_set xs n d all.1 one)

-- what a write into a block leaves
pub record Changes (r : Regioned) (bs : List Block) (kept : List ℕ) (o : ℕ) (b : Block) (j v : ℕ) (f : Object → Object) : Type 0 where
  pub blocks : AreBlocks bs (region_with r b j v)
  pub whole : AreWhole (blocks_of (region_with r b j v) bs)
  pub many : length (region_with r b j v).cells ≡ length r.cells
  pub all : held (region_with r b j v) bs kept ≡ with_object f (held r bs kept) o

pub changes : AreLong → WritesOne → (r : Regioned) (bs : List Block) (kept : List ℕ) (o j v : ℕ) (f : Object → Object) (l : Lies r bs kept o)
    → AreBlocks bs r → AreWhole (blocks_of r bs) → 0 < j → j < length (cells_of r l.block)
    → object_in (slice_set (cells_of r l.block) j v) ≡ f (object_in (cells_of r l.block)) → Changes r bs kept o l.block j v f
changes long writes r bs kept o j v f l lie all some lt is =
    let many : length (cells_of r l.block) ≡ l.block.len = long r bs l.place l.block lie l.at in
    let w = writes r bs l.place l.block j v lie l.at (omega (arith, lt, many)) in
    let there = cells_there r bs kept o l in
    let one : objects_of (region_with r l.block j v) bs ≡ changed f l.place (objects_of r bs) =
    ap (map object_in) w.1 ∙ map_set f (blocks_of r bs) l.place (cells_of r l.block) (slice_set (cells_of r l.block) j v) there is in
    record {
      blocks = w.0;
      whole = subst AreWhole (sym w.1) (whole_set (blocks_of r bs) l.place (slice_set (cells_of r l.block) j v) all (still_whole (cells_of r l.block) j v (is_whole r bs kept o l all) some));
      many = length-set r.cells (l.block.first + j) v;
      all = ap (λ (os : List Object). record { objects = os; statics = kept; left = r.room }) one ∙ ap (λ k. with_object f (held r bs kept) k) (sym l.number);
    }

-- its first cell is there
pub first_there : (r : Regioned) (bs : List Block) (kept : List ℕ) (o : ℕ) (b : Block) → is_some (object_at (held r bs kept) o) ≡ true → AreWhole (blocks_of r bs) → b ≡ get_or bs (o - 1) b → 0 < length (cells_of r b)
first_there r bs kept o b there all read =
    let l = lies r bs kept o there in
    subst (λ (x : Block). 0 < length (cells_of r x)) (sym (block_is r bs kept o l b read)) (has_first (cells_of r l.block) (is_whole r bs kept o l all))

-- and says its kind
pub kind_is : (r : Regioned) (bs : List Block) (kept : List ℕ) (o : ℕ) (b : Block) (n : ℕ) → is_some (object_at (held r bs kept) o) ≡ true → AreWhole (blocks_of r bs) → b ≡ get_or bs (o - 1) b
    → Some n ≡ slice_get (cells_of r b) 0 → Some (kind_of n) ≡ kind_at (held r bs kept) o
kind_is r bs kept o b n there all read first =
    let l = lies r bs kept o there in
    let at : Some n ≡ slice_get (cells_of r l.block) 0 = subst (λ (x : Block). Some n ≡ slice_get (cells_of r x) 0) (block_is r bs kept o l b read) first in
    ap (λ k. Some k) (sym (kind_in (cells_of r l.block) n (is_whole r bs kept o l all) at)) ∙ sym (ap (option_map (λ (x : Object). x.kind)) l.object)

-- its length
pub len_is : AreLong → (r : Regioned) (bs : List Block) (kept : List ℕ) (o : ℕ) (b : Block) (n : ℕ) → is_some (object_at (held r bs kept) o) ≡ true → AreBlocks bs r → AreWhole (blocks_of r bs) → b ≡ get_or bs (o - 1) b
    → Some n ≡ slice_get (cells_of r b) 0 → length (cells_at (held r bs kept) o) + behind (kind_of n) + 1 ≡ b.len
len_is longs r bs kept o b n there lie all read first =
    let l = lies r bs kept o there in
    let is = block_is r bs kept o l b read in
    let whole = is_whole r bs kept o l all in
    let at : Some n ≡ slice_get (cells_of r l.block) 0 = subst (λ (x : Block). Some n ≡ slice_get (cells_of r x) 0) is first in
    let own : length (cells_at (held r bs kept) o) ≡ length (object_in (cells_of r l.block)).cells = ap (λ (x : Option Object). length (unwrap_or (option_map (λ (y : Object). y.cells) x) [])) l.object in
    let kind : behind (object_in (cells_of r l.block)).kind ≡ behind (kind_of n) = ap behind (kind_in (cells_of r l.block) n whole at) in
    let len : b.len ≡ l.block.len = ap (λ (x : Block). x.len) is in
    omega (arith, own, kind, len, len_in (cells_of r l.block) whole, longs r bs l.place l.block lie l.at)

inside : (r : Regioned) (bs : List Block) (kept : List ℕ) (o i : ℕ) (l : Lies r bs kept o) → HasCell (held r bs kept) o i → i < length (object_in (cells_of r l.block)).cells
inside r bs kept o i l has = subst (λ (x : Option Object). i < length (unwrap_or (option_map (λ (y : Object). y.cells) x) [])) l.object has

-- where its cells are
pub cell_there : (r : Regioned) (bs : List Block) (kept : List ℕ) (o i : ℕ) (b : Block) → HasCell (held r bs kept) o i → b ≡ get_or bs (o - 1) b → i + 1 < length (cells_of r b)
cell_there r bs kept o i b has read =
    let l = lies r bs kept o (has_object (held r bs kept) o i has) in
    let at = (cell_in (cells_of r l.block) i (inside r bs kept o i l has)).1 in
    let here : i + 1 < length (cells_of r l.block) = omega (arith, at) in
    subst (λ (x : Block). i + 1 < length (cells_of r x)) (sym (block_is r bs kept o l b read)) here

next : (i : ℕ) → i + 1 ≡ suc i
next i = omega arith

pub cell_is : (r : Regioned) (bs : List Block) (kept : List ℕ) (o i : ℕ) (b : Block) (n : ℕ) → HasCell (held r bs kept) o i → b ≡ get_or bs (o - 1) b → Some n ≡ slice_get (cells_of r b) (i + 1) → n ≡ cell_at (held r bs kept) o i
cell_is r bs kept o i b n has read at =
    let l = lies r bs kept o (has_object (held r bs kept) o i has) in
    let one : Some n ≡ slice_get (cells_of r l.block) (i + 1) = subst (λ (x : Block). Some n ≡ slice_get (cells_of r x) (i + 1)) (block_is r bs kept o l b read) at in
    let here : Some n ≡ slice_get (cells_of r l.block) (suc i) = subst (λ k. Some n ≡ slice_get (cells_of r l.block) k) (next i) one in
    ap (λ x. unwrap_or x 0) (here ∙ sym (cell_in (cells_of r l.block) i (inside r bs kept o i l has)).0)
    ∙ sym (ap (λ (x : Option Object). unwrap_or (slice_get (unwrap_or (option_map (λ (y : Object). y.cells) x) []) i) 0) l.object)

-- what stands in front of it
pub no_piece_is : (r : Regioned) (bs : List Block) (kept : List ℕ) (o : ℕ) (b : Block) (n : ℕ) (k : Kind) → is_some (object_at (held r bs kept) o) ≡ true → AreWhole (blocks_of r bs) → b ≡ get_or bs (o - 1) b
    → Some n ≡ slice_get (cells_of r b) 0 → kind_of n ≡ k → ((cells : List ℕ) → before_in k cells ≡ 0) → Some 0 ≡ before_at (held r bs kept) o
no_piece_is r bs kept o b n k there all read first is none =
    let l = lies r bs kept o there in
    let at : Some n ≡ slice_get (cells_of r l.block) 0 = subst (λ (x : Block). Some n ≡ slice_get (cells_of r x) 0) (block_is r bs kept o l b read) first in
    let kind = kind_in (cells_of r l.block) n (is_whole r bs kept o l all) at in
    ap (λ m. Some m) (sym (no_piece_in (cells_of r l.block) k (kind ∙ is) none)) ∙ sym (ap (option_map (λ (x : Object). x.before)) l.object)

pub piece_is : AreLong → (r : Regioned) (bs : List Block) (kept : List ℕ) (o : ℕ) (b : Block) (n j v : ℕ) → is_some (object_at (held r bs kept) o) ≡ true → AreBlocks bs r → AreWhole (blocks_of r bs) → b ≡ get_or bs (o - 1) b
    → Some n ≡ slice_get (cells_of r b) 0 → kind_of n ≡ kinds.Piece → j + 1 ≡ b.len → Some v ≡ slice_get (cells_of r b) j → Some (v % 2 ^ 32) ≡ before_at (held r bs kept) o
piece_is longs r bs kept o b n j v there lie all read first piece last e =
    let l = lies r bs kept o there in
    let is = block_is r bs kept o l b read in
    let whole = is_whole r bs kept o l all in
    let at : Some n ≡ slice_get (cells_of r l.block) 0 = subst (λ (x : Block). Some n ≡ slice_get (cells_of r x) 0) is first in
    let here : Some v ≡ slice_get (cells_of r l.block) j = subst (λ (x : Block). Some v ≡ slice_get (cells_of r x) j) is e in
    let len : b.len ≡ l.block.len = ap (λ (x : Block). x.len) is in
    let kind = kind_in (cells_of r l.block) n whole at ∙ piece in
    ap (λ k. Some k) (sym (piece_in (cells_of r l.block) j v whole kind (omega (arith, last, len, longs r bs l.place l.block lie l.at)) here)) ∙ sym (ap (option_map (λ (x : Object). x.before)) l.object)

-- the last cell of its block is there, and isn't the first one of a piece's
pub last_there : AreLong → (r : Regioned) (bs : List Block) (kept : List ℕ) (o : ℕ) (b : Block) → is_some (object_at (held r bs kept) o) ≡ true → AreBlocks bs r → AreWhole (blocks_of r bs) → b ≡ get_or bs (o - 1) b
    → (0 < b.len) × (b.len ≡ length (cells_of r b))
last_there longs r bs kept o b there lie all read =
    let l = lies r bs kept o there in
    let is = block_is r bs kept o l b read in
    let len : length (cells_of r b) ≡ b.len = subst (λ (x : Block). length (cells_of r x) ≡ x.len) (sym is) (longs r bs l.place l.block lie l.at) in
    let some = first_there r bs kept o b there all read in
    (omega (arith, some, len), sym len)

-- ---- what writes leave

pub puts : AreLong → WritesOne → (r : Regioned) (bs : List Block) (kept : List ℕ) (o i v : ℕ) (b : Block) → HasCell (held r bs kept) o i → AreBlocks bs r → AreWhole (blocks_of r bs) → b ≡ get_or bs (o - 1) b
    → Changes r bs kept o b (i + 1) v (put i v)
puts longs writes r bs kept o i v b has lie all read =
    let l = lies r bs kept o (has_object (held r bs kept) o i has) in
    let own = inside r bs kept o i l has in
    let cell = cell_in (cells_of r l.block) i own in
    let one : Changes r bs kept o l.block (suc i) v (put i v) = changes longs writes r bs kept o (suc i) v (put i v) l lie all (omega arith) cell.1 (cell_put (cells_of r l.block) i v own) in
    subst (λ (x : Block). Changes r bs kept o x (i + 1) v (put i v)) (sym (block_is r bs kept o l b read)) (subst (λ k. Changes r bs kept o l.block k v (put i v)) (sym (next i)) one)

pub fronts : AreLong → WritesOne → (r : Regioned) (bs : List Block) (kept : List ℕ) (o before j : ℕ) (b : Block) → kind_at (held r bs kept) o ≡ Some kinds.Piece → AreBlocks bs r → AreWhole (blocks_of r bs)
    → b ≡ get_or bs (o - 1) b → j + 1 ≡ b.len → before < 2 ^ 32 → Changes r bs kept o b j before (fronted before)
fronts longs writes r bs kept o before j b piece lie all read last fits =
    let l = lies r bs kept o (is_there (held r bs kept) o kinds.Piece piece) in
    let is = block_is r bs kept o l b read in
    let whole = is_whole r bs kept o l all in
    let len : b.len ≡ l.block.len = ap (λ (x : Block). x.len) is in
    let long = longs r bs l.place l.block lie l.at in
    let kind : (object_in (cells_of r l.block)).kind ≡ kinds.Piece = same (object_in (cells_of r l.block)).kind kinds.Piece (sym (ap (option_map (λ (x : Object). x.kind)) l.object) ∙ piece) in
    let all_of = len_in (cells_of r l.block) whole in
    let one : behind (object_in (cells_of r l.block)).kind ≡ 1 = ap behind kind in
    let one : Changes r bs kept o l.block j before (fronted before) =
    changes longs writes r bs kept o j before (fronted before) l lie all (omega (arith, one, all_of, long, len, last)) (omega (arith, long, len, last))
    (front_put (cells_of r l.block) j before whole kind (omega (arith, long, len, last)) fits) in
    subst (λ (x : Block). Changes r bs kept o x j before (fronted before)) (sym is) one

-- ---- one more object

-- these cells are those of a new object
abbrev AreFresh : Kind → ℕ → List ℕ → Type 0
AreFresh kind len cs = (object_in cs ≡ fresh kind len) × IsWhole cs

bare : (kind : Kind) (len h : ℕ) → kind_of h ≡ kind → behind kind ≡ 0 → before_in kind (zeros len) ≡ 0 → AreFresh kind len (h ∷ zeros len)
bare kind len h is none first =
    let few : behind (kind_of h) ≡ 0 = ap behind is ∙ none in (
      ap (λ x. object_by x (zeros len)) is
          ∙ ap₂ (λ (xs : List ℕ) (b : ℕ). record { kind = kind; cells = xs; before = b }) (take_all (length (zeros len) - behind kind) (zeros len) (omega (arith, none))) first,
      omega (arith, few),
    )

backed : (kind : Kind) (len h : ℕ) → kind_of h ≡ kind → behind kind ≡ 1 → before_in kind (zeros (suc len)) ≡ 0 → AreFresh kind len (h ∷ zeros (suc len))
backed kind len h is one first =
    let few : behind (kind_of h) ≡ 1 = ap behind is ∙ one in
    let many = long (suc len) in
    let own : length (zeros (suc len)) - behind kind ≡ len = omega (arith, one, many) in (
      ap (λ x. object_by x (zeros (suc len))) is
          ∙ ap₂ (λ (xs : List ℕ) (b : ℕ). record { kind = kind; cells = xs; before = b }) (ap (λ n. take n (zeros (suc len))) own ∙ front_zeros len) first,
      omega (arith, few, many),
    )

fresh_in : (kind : Kind) (len h : ℕ) → kind_of h ≡ kind → AreFresh kind len (slice_set (zeros (charge kind len)) 0 h)
fresh_in kind len h is = go kind is
  where
    one : 1 + len ≡ suc len
    one = omega arith

    two : 2 + len ≡ suc (suc len)
    two = omega arith

    go : (k : Kind) → kind_of h ≡ k → AreFresh k len (slice_set (zeros (charge k len)) 0 h)
    go (kinds.Object n) is = subst (λ m. AreFresh (kinds.Object n) len (slice_set (zeros m) 0 h)) (sym one) (bare (kinds.Object n) len h is refl refl)
    go (kinds.Array n) is = subst (λ m. AreFresh (kinds.Array n) len (slice_set (zeros m) 0 h)) (sym two) (backed (kinds.Array n) len h is refl refl)
    go kinds.Text is = subst (λ m. AreFresh kinds.Text len (slice_set (zeros m) 0 h)) (sym two) (backed kinds.Text len h is refl refl)
    go kinds.Piece is =
        let first : get_or (zeros (suc len)) (length (zeros (suc len)) - 1) 0 % 2 ^ 32 ≡ 0 = ap (λ x. x % 2 ^ 32) (get_zero (suc len) (length (zeros (suc len)) - 1)) in
        subst (λ m. AreFresh kinds.Piece len (slice_set (zeros m) 0 h)) (sym two) (backed kinds.Piece len h is refl first)

pub costs : (kind : Kind) (len : ℕ) → 0 < charge kind len
costs (kinds.Object n) len = omega arith
costs (kinds.Array n) len = omega arith
costs kinds.Text len = omega arith
costs kinds.Piece len = omega arith

all_whole : (xs : List (List ℕ)) (c : List ℕ) → AreWhole xs → IsWhole c → AreWhole (xs ++ c ∷ [])
all_whole [] c all one = (one, tt)
all_whole (x ∷ xs) c all one = (all.0, all_whole xs c all.1 one)

pub record OneMore (r : Regioned) (bs : List Block) (kind : Kind) (len : ℕ) (s : Regioned) (more : List Block) : Type 0 where
  pub blocks : AreBlocks more s
  pub whole : AreWhole (blocks_of s more)
  pub objects : objects_of s more ≡ objects_of r bs ++ fresh kind len ∷ []
  pub cells : length s.cells ≡ length r.cells + charge kind len

pub one_more : AddsZeros → WritesOne → (r : Regioned) (bs : List Block) (kind : Kind) (len : ℕ) → kind_of (header kind) ≡ kind → AreBlocks bs r → AreWhole (blocks_of r bs)
    → OneMore r bs kind len (headed r (charge kind len) (header kind)) (bs ++ next_block r (charge kind len) ∷ [])
one_more adds writes r bs kind len is lie all =
    let c = charge kind len in
    let b = next_block r c in
    let p = placed r c in
    let none : List ℕ = zeros c in
    let more = bs ++ b ∷ [] in
    let a = adds r bs c lie in
    let at : slice_get more (length bs) ≡ Some b = last_at bs b (length bs) refl in
    let count : length bs ≡ length (blocks_of r bs) = sym (length-map bs (cells_of r)) in
    let cells : cells_of p b ≡ none =
    same (cells_of p b) none
    (sym (slice_get-map (cells_of p) more (length bs) ∙ ap (option_map (cells_of p)) at) ∙ ap (λ (xs : List (List ℕ)). slice_get xs (length bs)) a.1 ∙ last_at (blocks_of r bs) none (length bs) count) in
    let w = writes p more (length bs) b 0 (header kind) a.0 at (costs kind len) in
    let blocks : blocks_of (headed r c (header kind)) more ≡ blocks_of r bs ++ slice_set none 0 (header kind) ∷ [] =
    w.1
    ∙ ap₂ (λ (xs : List (List ℕ)) (ys : List ℕ). slice_set xs (length bs) (slice_set ys 0 (header kind))) a.1 cells
    ∙ last_set (blocks_of r bs) none (slice_set none 0 (header kind)) (length bs) count in
    let new = fresh_in kind len (header kind) is in
    record {
      blocks = w.0;
      whole = subst AreWhole (sym blocks) (all_whole (blocks_of r bs) (slice_set none 0 (header kind)) all new.1);
      objects = ap (map object_in) blocks ∙ map-append object_in (blocks_of r bs) (slice_set none 0 (header kind) ∷ []) ∙ ap (λ (x : Object). objects_of r bs ++ x ∷ []) new.0;
      cells = length-set (r.cells ++ none) (b.first + 0) (header kind) ∙ length-append r.cells none ∙ ap (λ n. length r.cells + n) (long c);
    }
