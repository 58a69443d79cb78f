-- What `new` makes.
use Rattle.std.specs.Prelude.{◌≡◌, ◌+◌, ◌<◌, ◌⊎◌, ℕ, [], ◌∷◌, Some, length, map, slice_get}
use Rattle.jmemory.specs.declared.jheap.cell.CellType.{CellType}
use Rattle.jmemory.specs.declared.jheap.cell.CellType.TheVariants as cells
use Rattle.jmemory.specs.declared.jheap.cell.Kind.{Kind}
use Rattle.jmemory.specs.jheap.Heaps.{Heaped, charge, made}
use Rattle.jvalues.specs.declared.jops.value.Value.TheVariants.{Ref}
use Rattle.jtypes.specs.declared.vtype.VType.{VType}
use Rattle.jtypes.specs.declared.vtype.VType.TheVariants as types
use Rattle.jsemantics.specs.jmachine.FrameOperations.{onward}
use Rattle.jsemantics.specs.jmachine.World.{World, can_be_thrown}
use Rattle.jruntime.specs.declared.jstate.shapes.Shape.{Shape}
use Rattle.jruntime.specs.declared.jstate.shapes.Shapes.{Shapes}
use Rattle.jruntime.specs.jstate.FrameLists.{Framed, with_newest}
use Rattle.jrows.specs.declared.jacts.way.Way.{Way}
use Rattle.jrows.specs.declared.jacts.way.Way.TheVariants as ways

-- The cells for an object of so many cells were there, and its reference is one more operand; or they weren't, and nothing has changed.
abbrev pub HasNew : {E : Type 0} → Kind → ℕ → Framed E → Heaped → Way → Framed E → Heaped → Type 0
HasNew kind count s h way t g =
    ((h.left < charge kind count) × (way ≡ ways.Full) × (t ≡ s) × (g ≡ h))
    ⊎ ((charge kind count < h.left + 1) × (way ≡ ways.Went) × (g ≡ made h kind count)
    × (t ≡ with_newest (onward s.newest (Ref (length h.objects + 1) ∷ [])) s))

-- ---- objects of users' classes

-- the type of the cell of a field
abbrev pub cell_of : VType → CellType
cell_of types.Int = cells.Int
cell_of types.Long = cells.Long
cell_of t = cells.Ref

-- The class of a place has a shape: its fields are those of its objects, and it has a message where these can be thrown.
pub record HasShape (w : World) (shapes : Shapes) (class : ℕ) : Type 0 where
  pub shape : Shape
  pub there : slice_get shapes.users class ≡ Some shape
  pub fields : shape.cells ≡ map cell_of (w.layout class)
  pub message : shape.message ≡ can_be_thrown w (w.named class)
