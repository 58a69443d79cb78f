-- Builders of the heap, and their pieces.
use Rattle.std.specs.Prelude.{◌≡◌, ◌+◌, ◌-◌, ◌++◌, ℕ, List, [], ◌∷◌, length, Option, Some, None, is_some, true, nat_eq, if◌then◌else◌}
use Rattle.std.specs.List.{AllByRecursion}
use Rattle.jvalues.specs.declared.jops.value.Value.{Value}
use Rattle.jvalues.specs.declared.jops.value.Value.TheVariants.{Ref}
use Rattle.jmemory.specs.declared.jheap.cell.Kind.{Kind}
use Rattle.jmemory.specs.declared.jheap.cell.Kind.TheVariants as kinds
use Rattle.jmemory.specs.jheap.Heaps.{Heaped, HasCell, cells_at, kind_at, object_at}
use Rattle.jlib.specs.declared.classes.LibClass.TheVariants as lib
use Rattle.jlib.specs.declared.classes.Thrown.TheVariants as thrown
use Rattle.jruntime.specs.declared.jstate.shapes.Shapes.{Shapes}
use Rattle.jruntime.specs.jstate.ObjectCells.{AreCelled}
use Rattle.jruntime.specs.jstate.ClassNumbers.{library_number}
use Rattle.jruntime.specs.jstate.HeapMeanings.{first, named_by, units_of}
use Rattle.jrows.specs.declared.jtexts.ran.Ran.{Ran}
use Rattle.jrows.specs.declared.jtexts.ran.Ran.TheVariants as rans

abbrev pub builder_found : ℕ → Option Kind → Option ℕ
builder_found o (Some (kinds.Object n)) = if nat_eq n (library_number lib.StringBuilder) then Some o else None
builder_found o kind = None

-- the number of the builder that a value names
abbrev pub builder_number : Heaped → Value ℕ → Option ℕ
builder_number h (Ref o) = builder_found o (kind_at h o)
builder_number h v = None

-- What a value names has the cell for its last piece, if it is a builder.
abbrev pub HasLast : Heaped → Value ℕ → Type 0
HasLast h v = (b : ℕ) → Some b ≡ builder_number h v → HasCell h b 0

-- It has it where objects have the cells that their classes want.
abbrev pub LastFollows : Type 0
LastFollows = (shapes : Shapes) (h : Heaped) (v : Value ℕ) → AreCelled shapes h.objects → HasLast h v

-- the last piece of a builder
abbrev pub last_piece : Heaped → ℕ → ℕ
last_piece h b = named_by (first (cells_at h b))

-- with one more piece, behind another
abbrev pub with_piece : List ℕ → ℕ → Heaped → Heaped
with_piece us last h =
    record h { objects = h.objects ++ record { kind = kinds.Piece; cells = us; before = last } ∷ []; left = h.left - (2 + length us) }

-- what the constructor of a text comes to where that is null
abbrev pub without_text : Value ℕ → Ran
without_text (Ref n) = rans.Raises (lib.Thrown thrown.NullPointerException)
without_text v = rans.Stuck

-- ---- the pieces of a builder

-- the units of pieces behind others, the oldest first
abbrev pub behind : Heaped → List ℕ → List ℕ → List ℕ
behind h front [] = front
behind h front (o ∷ newer) = behind h (front ++ units_of (cells_at h o)) newer

-- there are objects of these numbers
abbrev pub AreThere : Heaped → List ℕ → Type 0
AreThere h numbers = AllByRecursion (λ o. is_some (object_at h o) ≡ true) numbers

abbrev pub piece_found : ℕ → Option Kind → Option ℕ
piece_found o (Some kinds.Piece) = Some o
piece_found o kind = None

-- the piece of a number
abbrev pub piece_number : Heaped → ℕ → Option ℕ
piece_number h o = piece_found o (kind_at h o)
