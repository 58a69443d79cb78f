-- How an object lies in a block of a region: a number first that says its kind, then its cells. An object of a class has no more; an
-- array, a text and a piece have one more cell at the end, which holds the number of the piece in front of a piece.
use Rattle.std.specs.Prelude.{ℕ, zero, suc, ◌+◌, ◌-◌, ◌*◌, ◌/◌, ◌%◌, ◌^◌, ◌≤◌, List, [], ◌∷◌, get_or, length, take, map, ⊤}
use Rattle.jmemory.specs.declared.jheap.cell.Kind.{Kind}
use Rattle.jmemory.specs.declared.jheap.cell.Kind.TheVariants.{Object as ObjectKind, Array as ArrayKind, Text as TextKind, Piece as PieceKind}
use Rattle.jmemory.specs.jheap.Heaps.{Object}
use Rattle.jmemory.specs.declared.jregion.region.Block.{Block}
use Rattle.jmemory.specs.jregion.Regions.{Regioned, next_block, placed, with_cell}
use Rattle.jmemory.specs.jregion.Blocks.{blocks_of}

-- the number that an object's first cell holds
unfoldable pub header : Kind → ℕ
header (ObjectKind n) = 4 * n
header (ArrayKind n) = 4 * n + 1
header TextKind = 2
header PieceKind = 3

abbrev pub kind_by : ℕ → ℕ → Kind
kind_by zero n = ObjectKind n
kind_by (suc zero) n = ArrayKind n
kind_by (suc (suc zero)) n = TextKind
kind_by _ n = PieceKind

-- the kind that it says
unfoldable pub kind_of : ℕ → Kind
kind_of n = kind_by (n % 4) (n / 4 % 2 ^ 32)

-- how many cells stand behind an object's own
abbrev pub behind : Kind → ℕ
behind (ObjectKind n) = 0
behind _ = 1

-- of a piece the number of the one in front, by the cells behind the first one
abbrev pub before_in : Kind → List ℕ → ℕ
before_in PieceKind cells = get_or cells (length cells - 1) 0 % 2 ^ 32
before_in _ cells = 0

-- the object of a kind, by the cells behind the first one
abbrev pub object_by : Kind → List ℕ → Object
object_by kind cells = record { kind = kind; cells = take (length cells - behind kind) cells; before = before_in kind cells }

-- the object that lies in these cells
abbrev pub object_in : List ℕ → Object
object_in [] = object_by TextKind []
object_in (n ∷ cells) = object_by (kind_of n) cells

abbrev pub objects_of : Regioned → List Block → List Object
objects_of r bs = map object_in (blocks_of r bs)

-- These cells have a first one, and the one behind the others where their kind wants it;
abbrev pub IsWhole : List ℕ → Type 0
IsWhole [] = ⊥
IsWhole (n ∷ cells) = behind (kind_of n) ≤ length cells

-- so have all these.
abbrev pub AreWhole : List (List ℕ) → Type 0
AreWhole [] = ⊤
AreWhole (c ∷ cs) = IsWhole c × AreWhole cs

-- one more block, whose first cell holds a number
abbrev pub headed : Regioned → ℕ → ℕ → Regioned
headed r len n = with_cell (placed r len) (next_block r len) 0 n
