-- The blocks of a region, in the order in which they were placed.
use Rattle.std.specs.Prelude.{◌≡◌, ℕ, ◌+◌, List, [], ◌∷◌, length, map}
use Rattle.jmemory.specs.declared.jregion.region.Block.{Block}
use Rattle.jmemory.specs.jregion.Regions.{Regioned, cells_of}

-- Blocks lie one behind the other, from a place up to another.
abbrev pub Lie : ℕ → List Block → ℕ → Type 0
Lie at [] end = at ≡ end
Lie at (b ∷ bs) end = (b.first ≡ at) × Lie (at + b.len) bs end

-- These are the region's blocks.
abbrev pub AreBlocks : List Block → Regioned → Type 0
AreBlocks bs r = Lie 0 bs (length r.cells)

-- the cells of each of these blocks
abbrev pub blocks_of : Regioned → List Block → List (List ℕ)
blocks_of r bs = map (cells_of r) bs
