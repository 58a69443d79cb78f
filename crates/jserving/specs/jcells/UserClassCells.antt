-- The cells of the objects of users' classes, by the places of these classes: those of the classes above first.
use Rattle.std.specs.Prelude.{◌≡◌, ◌+◌, ◌<◌, ◌^◌, ℕ, List, [], length, map, Option, Some, None, slice_get}
use Rattle.std.specs.List.{filter}
use Rattle.jmemory.specs.declared.jheap.cell.CellType.{CellType}
use Rattle.jmemory.specs.declared.jheap.cell.CellType.TheVariants as cells
use Rattle.jclass.specs.declared.class.MemberInfo.{MemberInfo}
use Rattle.jresolution.specs.declared.jprogram.part.CodePart.{CodePart}
use Rattle.jresolution.specs.jprogram.ClassFileParts.{this_name}
use Rattle.jresolution.specs.jprogram.ProgramClasses.{Program}
use Rattle.jresolution.specs.jlayout.FieldCounts.{above_at}
use Rattle.jresolution.specs.jlayout.FieldLayout.{field_type, is_instance, layout}
use Rattle.jsemantics.specs.jmachine.World.{can_be_thrown, world}
use Rattle.jruntime.specs.declared.jstate.shapes.Shape.{Shape}
use Rattle.jrows.specs.jobjs.NewObjects.{cell_of}
use Rattle.jserving.specs.declared.jcells.lines.Line.{Line}

-- the cell of a field
abbrev pub field_cell : Program → CodePart → MemberInfo → CellType
field_cell p part m = cell_of (field_type p part.class m)

-- those of the fields that a class declares itself
abbrev pub own_in : Program → Option CodePart → List CellType
own_in p None = []
own_in p (Some part) = map (field_cell p part) (filter is_instance part.class.fields)

abbrev pub own_at : Program → ℕ → List CellType
own_at p i = own_in p (slice_get p.parts i)

-- those of an object
abbrev pub cells_in : Program → Option CodePart → List CellType
cells_in p None = []
cells_in p (Some part) = map cell_of (layout p (this_name part.class))

abbrev pub cells_at : Program → ℕ → List CellType
cells_at p i = cells_in p (slice_get p.parts i)

-- those that stand above, if there is a user's class
abbrev pub cells_from : Program → Option ℕ → List CellType
cells_from p None = []
cells_from p (Some i) = cells_at p i

-- ---- what is kept of a class

-- The class above it, and its own cells.
pub record IsLine (p : Program) (i : ℕ) (x : Line) : Type 0 where
  pub above : x.above ≡ above_at p i
  pub own : x.own ≡ own_at p i

-- of the first classes
pub record AreLinesTo (p : Program) (lines : List Line) (n : ℕ) : Type 0 where
  pub count : length lines ≡ n
  pub each : (i : ℕ) (x : Line) → slice_get lines i ≡ Some x → IsLine p i x

abbrev pub AreLines : Program → List Line → Type 0
AreLines p lines = AreLinesTo p lines (length p.parts)

-- ---- shapes

-- The shape of the objects of a class. Their cells, and one for a message, can be counted.
pub record IsShape (p : Program) (i : ℕ) (s : Shape) : Type 0 where
  pub fields : s.cells ≡ map cell_of ((world p).layout i)
  pub message : s.message ≡ can_be_thrown (world p) ((world p).named i)
  pub few : length s.cells + 1 < 2 ^ 32

pub record AreShapesTo (p : Program) (shapes : List Shape) (n : ℕ) : Type 0 where
  pub count : length shapes ≡ n
  pub each : (i : ℕ) (s : Shape) → slice_get shapes i ≡ Some s → IsShape p i s

-- ---- statics

-- A cell of a field holds references where it isn't that of a number; of contexts no field is.
abbrev pub plain_cell : CellType → CellType
plain_cell cells.Ctx = cells.Ref
plain_cell c = c
