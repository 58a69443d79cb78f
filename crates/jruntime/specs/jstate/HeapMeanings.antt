-- What the numbers of the heap stand for: its objects as the machine's definition has them.
use Rattle.std.specs.Prelude.{◌≡◌, ◌≤◌, ℕ, zero, suc, ◌%◌, ◌^◌, ◌++◌, Bool, true, false, List, [], ◌∷◌, length, drop, map, Option, Some, None, nat_lt, slice_get, unwrap_or, if◌then◌else◌}
use Rattle.std.specs.List.{AllByRecursion}
use Rattle.jperm.specs.declared.permission.Permission as perms
use Rattle.jvalues.specs.declared.jops.value.Value.{Value}
use Rattle.jparts.specs.declared.jcode.names.ArrayType.{ArrayType}
use Rattle.jmemory.specs.declared.jheap.cell.CellType.{CellType}
use Rattle.jmemory.specs.declared.jheap.cell.CellType.TheVariants as cells
use Rattle.jmemory.specs.declared.jheap.cell.Kind.{Kind}
use Rattle.jmemory.specs.declared.jheap.cell.Kind.TheVariants as kinds
use Rattle.jmemory.specs.jheap.Heaps as heaps
use Rattle.jmemory.specs.jheap.Heaps.{Heaped}
use Rattle.jmemory.specs.jheap.RawValues.{of_raw}
use Rattle.jlib.specs.declared.classes.LibClass.{LibClass}
use Rattle.jlib.specs.declared.classes.LibClass.TheVariants as lib
use Rattle.jresolution.specs.declared.jprogram.part.ClassRef.{ClassRef}
use Rattle.jresolution.specs.declared.jprogram.part.ClassRef.TheVariants as refs
use Rattle.jresolution.specs.jprogram.ProgramClasses.{Program}
use Rattle.jresolution.specs.declared.juses.types.ArrayRef.{ArrayRef}
use Rattle.jresolution.specs.declared.juses.types.ElementRef.{ElementRef}
use Rattle.jresolution.specs.declared.juses.types.ElementRef.TheVariants as elements
use Rattle.jresolution.specs.juses.InternedTypes.{array_named}
use Rattle.jsemantics.specs.jmachine.HeapObjects.{Object, Instance, Thrown, Text, Builder, Piece, Permission, Context, Thread, Bare, Array}
use Rattle.jsemantics.specs.jmachine.Store.{Store}
use Rattle.jruntime.specs.declared.jstate.shapes.Shape.{Shape}
use Rattle.jruntime.specs.declared.jstate.shapes.Shapes.{Shapes}
use Rattle.jruntime.specs.jstate.ArrayNumbers.{array_of, element_of, numbers_at}
use Rattle.jruntime.specs.jstate.ClassNumbers.{class_numbered}

-- ---- cells

-- what cells of these types hold
unfoldable pub values_of : List CellType → List ℕ → List (Value ℕ)
values_of (t ∷ types) (n ∷ cells) = of_raw t n ∷ values_of types cells
values_of types cells = []

-- a number of an object, as a cell holds it
abbrev pub named_by : ℕ → ℕ
named_by n = n % 2 ^ 32

-- the first cell of those that there are
abbrev pub first : List ℕ → ℕ
first [] = 0
first (n ∷ cells) = n

-- the units of a text
abbrev pub units_of : List ℕ → List ℕ
units_of cells = map (λ n. n % 2 ^ 16) cells

-- what a cell names among these, which holds 0 for none of them
abbrev pub place_in : {A : Type 0} → List A → ℕ → Option A
place_in things zero = None
place_in things (suc n) = slice_get things n

abbrev pub number_in : ℕ → Option ℕ
number_in zero = None
number_in (suc n) = Some n

-- ---- builders

-- What a builder holds whose last piece has a number: what stands in front of that piece, and its units. A piece stands in front of those
-- with greater numbers alone, so that as many steps as its number lead to the first.
abbrev pub piece_units : Kind → List ℕ → List ℕ → List ℕ
piece_units kinds.Piece front cells = front ++ units_of cells
piece_units kind front cells = []

abbrev pub built_at : Option heaps.Object → (ℕ → List ℕ) → List ℕ
built_at None front = []
built_at (Some x) front = piece_units x.kind (front x.before) x.cells

unfoldable pub built_by : ℕ → List heaps.Object → ℕ → List ℕ
built_by zero objects o = []
built_by (suc most) objects zero = []
built_by (suc most) objects (suc o) = built_at (slice_get objects o) (λ before. built_by most objects before)

abbrev pub built : List heaps.Object → ℕ → List ℕ
built objects o = built_by o objects o

-- ---- objects

-- what else the machine keeps by number
pub record Things : Type 0 where
  pub permissions : List perms.Permission
  -- what is kept of contexts
  pub kept : List ℕ

-- the message, in a cell behind the fields
abbrev pub message_by : Bool → List ℕ → ℕ
message_by true cells = named_by (first cells)
message_by false cells = 0

abbrev pub user_by : ℕ → Option Shape → List ℕ → Object ℕ
user_by i None cells = Instance i 0 []
user_by i (Some shape) cells = Instance i (message_by shape.message (drop (length shape.cells) cells)) (values_of shape.cells cells)

abbrev pub library_by : List heaps.Object → Things → LibClass → List ℕ → Object ℕ
library_by objects things (lib.Thrown c) cells = Thrown (lib.Thrown c) (named_by (first cells))
library_by objects things lib.AccessControlException cells = Thrown lib.AccessControlException (named_by (first cells))
library_by objects things lib.String cells = Text None
library_by objects things lib.StringBuilder cells = Builder (built objects (named_by (first cells)))
library_by objects things (lib.Permission c) cells = Permission c (place_in things.permissions (first cells))
library_by objects things lib.AccessControlContext cells = Context (place_in things.kept (first cells))
library_by objects things lib.Thread cells = Thread (number_in (first cells))
library_by objects things c cells = Bare c

abbrev pub class_by : Shapes → List heaps.Object → Things → ClassRef → List ℕ → Object ℕ
class_by shapes objects things (refs.User i) cells = user_by i (slice_get shapes.users i) cells
class_by shapes objects things (refs.Lib c) cells = library_by objects things c cells

-- the type of an array's cells
abbrev pub element_type : ElementRef → CellType
element_type elements.Long = cells.Long
element_type (elements.Class c) = cells.Ref
element_type x = cells.Int

abbrev pub item_type : ArrayRef → CellType
item_type a = if nat_lt 1 a.depth then cells.Ref else element_type a.element

-- the type of a row of the table; other rows than those of the table are never used, and stand for arrays of ints
abbrev pub row_at : Shapes → ℕ → ArrayRef
row_at shapes n = unwrap_or (slice_get shapes.arrays n) (array_of elements.Int)

-- the type of the arrays of a number: of the numbers that it says, or that of a row
abbrev pub typed_by : ArrayRef → Option ArrayType → ArrayRef
typed_by row None = row
typed_by row (Some kind) = array_of (element_of kind)

unfoldable pub array_at : Shapes → ℕ → ArrayRef
array_at shapes n = typed_by (row_at shapes n) (numbers_at n)

abbrev pub array_by : Program → ArrayRef → List ℕ → Object ℕ
array_by p a cells = Array (array_named p a) (map (of_raw (item_type a)) cells)

abbrev pub kind_by : Program → Shapes → List heaps.Object → Things → Kind → List ℕ → Object ℕ
kind_by p shapes objects things (kinds.Object n) cells = class_by shapes objects things (class_numbered n) cells
kind_by p shapes objects things (kinds.Array n) cells = array_by p (array_at shapes n) cells
kind_by p shapes objects things kinds.Text cells = Text (Some (units_of cells))
kind_by p shapes objects things kinds.Piece cells = Piece (units_of cells)

-- an object of the heap as the definition has it
abbrev pub object_by : Program → Shapes → List heaps.Object → Things → heaps.Object → Object ℕ
object_by p shapes objects things x = kind_by p shapes objects things x.kind x.cells

abbrev pub objects_by : Program → Shapes → Things → List heaps.Object → List (Object ℕ)
objects_by p shapes things objects = map (object_by p shapes objects things) objects

-- ---- what holds of the pieces

-- the last piece that an object names, where it is a builder, else 0
abbrev pub is_builder : ClassRef → Bool
is_builder (refs.Lib lib.StringBuilder) = true
is_builder c = false

abbrev pub last_by : ClassRef → List ℕ → ℕ
last_by c cells = if is_builder c then named_by (first cells) else 0

abbrev pub last_of : Kind → List ℕ → ℕ
last_of (kinds.Object n) cells = last_by (class_numbered n) cells
last_of kind cells = 0

-- An object's last piece is among so many.
abbrev pub NamesWithin : ℕ → heaps.Object → Type 0
NamesWithin count x = last_of x.kind x.cells ≤ count

-- What stands in front of an object has a smaller number, and builders name objects that are there.
pub record AreBuilt (objects : List heaps.Object) : Type 0 where
  pub backward : (i : ℕ) (x : heaps.Object) → slice_get objects i ≡ Some x → x.before ≤ i
  pub within : AllByRecursion (NamesWithin (length objects)) objects

-- ---- the store

-- the store that a heap stands for, where these string constants were made
abbrev pub store_by : Program → Shapes → Things → List (List ℕ × ℕ) → Heaped → Store ℕ
store_by p shapes things constants h = record {
  objects = objects_by p shapes things h.objects;
  statics = values_of shapes.statics h.statics;
  constants = constants;
  left = h.left;
}
