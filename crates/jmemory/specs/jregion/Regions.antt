-- A region: the cells of its blocks, one block behind the other, and how many cells are left.
use Rattle.std.specs.Prelude.{◌≡◌, ℕ, ◌+◌, ◌-◌, ◌<◌, ◌≤◌, List, [], ◌++◌, length, take, drop, replicate, Option, Some, None, slice_get, slice_set}
use Rattle.jmemory.specs.declared.jregion.region.Block.{Block}

pub record Regioned : Type 0 where
  pub cells : List ℕ
  pub room : ℕ

abbrev pub opened : ℕ → Regioned
opened cells = record { cells = []; room = cells }

-- how many cells were opened
abbrev pub size : Regioned → ℕ
size r = length r.cells + r.room

-- ---- placing

-- the block that comes next
abbrev pub next_block : Regioned → ℕ → Block
next_block r len = record { first = length r.cells; len = len }

-- one more block, its cells cleared
abbrev pub placed : Regioned → ℕ → Regioned
placed r len = record { cells = r.cells ++ replicate len 0; room = r.room - len }

-- The call answers a new block, or none where its length is above the room, and then nothing changes.
abbrev pub Places : ℕ → Regioned → Regioned → Option Block → Type 0
Places len old new None = (old.room < len) × (new ≡ old)
Places len old new (Some b) = (len ≤ old.room) × (b ≡ next_block old len) × (new ≡ placed old len)

-- ---- cells

-- the cells of a block
abbrev pub cells_of : Regioned → Block → List ℕ
cells_of r b = take b.len (drop b.first r.cells)

-- the block is there and has so many cells
abbrev pub HasCell : Regioned → Block → ℕ → Type 0
HasCell r b i = i < length (cells_of r b)

-- a cell of a block holds another number
abbrev pub with_cell : Regioned → Block → ℕ → ℕ → Regioned
with_cell r b i n = record r { cells = slice_set r.cells (b.first + i) n }

-- No block loses a cell,
abbrev pub KeepCells : Regioned → Regioned → Type 0
KeepCells old new = (b : Block) (i : ℕ) → HasCell old b i → HasCell new b i

-- and each holds what it held.
abbrev pub StayCells : Regioned → Regioned → Type 0
StayCells old new = (b : Block) (i : ℕ) → HasCell old b i → HasCell new b i × (slice_get (cells_of new b) i ≡ slice_get (cells_of old b) i)
