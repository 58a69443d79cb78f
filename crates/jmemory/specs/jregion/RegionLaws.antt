-- The laws of a region as the list of its blocks.
use Rattle.std.specs.Prelude.{◌≡◌, ℕ, ◌+◌, ◌<◌, ◌≤◌, List, [], ◌∷◌, ◌++◌, length, replicate, Some, slice_get, slice_set, sum_by}
use Rattle.jmemory.specs.declared.jregion.region.Block.{Block}
use Rattle.jmemory.specs.jregion.Regions.{Regioned, opened, size, next_block, placed, cells_of, with_cell}
use Rattle.jmemory.specs.jregion.Blocks.{AreBlocks, blocks_of}

-- A region that was opened has no block.
abbrev pub BeginsEmpty : Type 0
BeginsEmpty = (n : ℕ) → AreBlocks [] (opened n)

-- Placing adds a block of zeros at the end, and the others stay.
abbrev pub AddsZeros : Type 0
AddsZeros = (r : Regioned) (bs : List Block) (len : ℕ) → AreBlocks bs r
    → AreBlocks (bs ++ next_block r len ∷ []) (placed r len)
    × (blocks_of (placed r len) (bs ++ next_block r len ∷ []) ≡ blocks_of r bs ++ replicate len 0 ∷ [])

-- A block has as many cells as it says.
abbrev pub AreLong : Type 0
AreLong = (r : Regioned) (bs : List Block) (n : ℕ) (b : Block) → AreBlocks bs r → slice_get bs n ≡ Some b → length (cells_of r b) ≡ b.len

-- A write changes one cell of one block.
abbrev pub WritesOne : Type 0
WritesOne = (r : Regioned) (bs : List Block) (n : ℕ) (b : Block) (i v : ℕ) → AreBlocks bs r → slice_get bs n ≡ Some b → i < b.len
    → AreBlocks bs (with_cell r b i v)
    × (blocks_of (with_cell r b i v) bs ≡ slice_set (blocks_of r bs) n (slice_set (cells_of r b) i v))

-- What was written is read.
abbrev pub ReadsTheWrite : Type 0
ReadsTheWrite = (r : Regioned) (b : Block) (i v : ℕ) → i < length (cells_of r b) → slice_get (cells_of (with_cell r b i v) b) i ≡ Some v

-- The lengths of the blocks and the room add up to what was opened,
abbrev pub AddsUp : Type 0
AddsUp = (r : Regioned) (bs : List Block) → AreBlocks bs r → sum_by length (blocks_of r bs) + r.room ≡ size r

-- which stays.
abbrev pub KeepsSize : Type 0
KeepsSize = ((n : ℕ) → size (opened n) ≡ n)
    × ((r : Regioned) (len : ℕ) → len ≤ r.room → size (placed r len) ≡ size r)
    × ((r : Regioned) (b : Block) (i v : ℕ) → size (with_cell r b i v) ≡ size r)
