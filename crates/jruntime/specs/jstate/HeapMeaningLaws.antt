-- Laws of what the heap stands for.
use Rattle.std.specs.Prelude.{◌≡◌, ◌⊎◌, ◌≤◌, ⊤, ℕ, ◌+◌, ◌-◌, List, [], ◌∷◌, ◌++◌, None, Some, drop, length, map, option_map, replicate, slice_get, slice_set}
use Rattle.jmemory.specs.declared.jheap.cell.CellType.{CellType}
use Rattle.jmemory.specs.declared.jheap.cell.Kind.{Kind}
use Rattle.jmemory.specs.declared.jheap.cell.Kind.TheVariants as kinds
use Rattle.jmemory.specs.jheap.Heaps as heaps
use Rattle.jmemory.specs.jheap.Heaps.{Heaped}
use Rattle.jmemory.specs.jheap.RawValues.{of_raw}
use Rattle.jresolution.specs.jprogram.ProgramClasses.{Program}
use Rattle.jresolution.specs.declared.juses.types.ArrayRef.{ArrayRef}
use Rattle.jresolution.specs.juses.InternedTypes.{array_named}
use Rattle.jsemantics.specs.jmachine.HeapObjects.{Instance, Array}
use Rattle.jsemantics.specs.jmachine.Store.{object_at, paid, with_made, with_object, with_statics}
use Rattle.jruntime.specs.declared.jstate.shapes.Shape.{Shape}
use Rattle.jruntime.specs.declared.jstate.shapes.Shapes.{Shapes}
use Rattle.jruntime.specs.jstate.HeapMeanings.{AreBuilt, NamesWithin, Things, array_by, built, built_by, item_type, kind_by, last_of, message_by, object_by, store_by, user_by, values_of}

-- The object of a number is what the heap holds there.
abbrev pub SeesEach : Type 0
SeesEach = (p : Program) (shapes : Shapes) (things : Things) (constants : List (List ℕ × ℕ)) (h : Heaped) (o : ℕ)
    → object_at (store_by p shapes things constants h) o ≡ option_map (object_by p shapes h.objects things) (heaps.object_at h o)

-- What is made is one more object, of cells that are 0, and is paid; the others stay as they are.
abbrev pub MakesOne : Program → Shapes → Things → Type 0
MakesOne p shapes things = (constants : List (List ℕ × ℕ)) (h : Heaped) (kind : Kind) (len : ℕ) → AreBuilt h.objects
    → store_by p shapes things constants (heaps.made h kind len)
    ≡ paid (heaps.charge kind len) (with_made (store_by p shapes things constants h) (kind_by p shapes h.objects things kind (replicate len 0)))

abbrev pub Makes : Type 0
Makes = (p : Program) (shapes : Shapes) (things : Things) → MakesOne p shapes things

-- no text
abbrev pub IsNoPiece : Kind → Type 0
IsNoPiece kinds.Piece = ⊥
IsNoPiece kind = ⊤

-- with another number in a cell
abbrev pub with_number : ℕ → ℕ → heaps.Object → heaps.Object
with_number i n x = record x { cells = slice_set x.cells i n }

-- A cell of an object that is no piece changes that object alone.
abbrev pub Writes : Type 0
Writes = (p : Program) (shapes : Shapes) (things : Things) (constants : List (List ℕ × ℕ)) (h : Heaped) (o i n : ℕ) (x : heaps.Object)
    → heaps.object_at h o ≡ Some x → IsNoPiece x.kind
    → store_by p shapes things constants (heaps.with_cell h o i n)
    ≡ with_object (store_by p shapes things constants h) o (object_by p shapes h.objects things (with_number i n x))

-- A cell of a user's object is a field.
abbrev pub WritesField : Type 0
WritesField = (c i n : ℕ) (t : CellType) (shape : Shape) (cells : List ℕ) → slice_get shape.cells i ≡ Some t
    → user_by c (Some shape) (slice_set cells i n)
    ≡ Instance c (message_by shape.message (drop (length shape.cells) cells)) (slice_set (values_of shape.cells cells) i (of_raw t n))

-- A cell of an array is an item.
abbrev pub WritesItem : Type 0
WritesItem = (p : Program) (a : ArrayRef) (cells : List ℕ) (i n : ℕ)
    → array_by p a (slice_set cells i n) ≡ Array (array_named p a) (slice_set (map (of_raw (item_type a)) cells) i (of_raw (item_type a) n))

-- ---- what cells hold

-- What a cell of a type holds is the value that it stands for.
abbrev pub Reads : Type 0
Reads = (types : List CellType) (cells : List ℕ) (i n : ℕ) (t : CellType) → slice_get types i ≡ Some t → slice_get cells i ≡ Some n
    → slice_get (values_of types cells) i ≡ Some (of_raw t n)

-- There are no values where there are no cells, nor where there are no types.
abbrev pub ReadsNone : Type 0
ReadsNone = (types : List CellType) (cells : List ℕ) (i : ℕ) → (slice_get types i ≡ None) ⊎ (slice_get cells i ≡ None)
    → slice_get (values_of types cells) i ≡ None

-- A static that is written changes that static alone.
abbrev pub WritesStatic : Type 0
WritesStatic = (p : Program) (shapes : Shapes) (things : Things) (constants : List (List ℕ × ℕ)) (h : Heaped) (i n : ℕ) (t : CellType)
    → slice_get shapes.statics i ≡ Some t
    → store_by p shapes things constants (heaps.with_statics h (slice_set h.statics i n))
    ≡ with_statics (store_by p shapes things constants h) (slice_set (values_of shapes.statics h.statics) i (of_raw t n))

-- ---- what holds of the pieces, behind a change

-- What is made names no piece.
abbrev pub MadeStaysBuilt : Type 0
MadeStaysBuilt = (h : Heaped) (kind : Kind) (len : ℕ) → AreBuilt h.objects → AreBuilt (heaps.made h kind len).objects

-- an object that names no piece, whatever its cells are
abbrev pub NamesNone : Kind → Type 0
NamesNone kind = (cells : List ℕ) → last_of kind cells ≡ 0

-- A cell of what names no piece changes nothing of that.
abbrev pub WrittenStaysBuilt : Type 0
WrittenStaysBuilt = (h : Heaped) (o i n : ℕ) (x : heaps.Object) → heaps.object_at h o ≡ Some x → NamesNone x.kind → AreBuilt h.objects
    → AreBuilt (heaps.with_cell h o i n).objects

-- ---- objects with pieces

-- One more object, whatever its cells hold, is one more, and is paid; the others stay as they are.
abbrev pub AddsOne : Type 0
AddsOne = (p : Program) (shapes : Shapes) (things : Things) (constants : List (List ℕ × ℕ)) (h : Heaped) (x : heaps.Object) (cost : ℕ)
    → AreBuilt h.objects
    → store_by p shapes things constants (record h { objects = h.objects ++ x ∷ []; left = h.left - cost })
    ≡ paid cost (with_made (store_by p shapes things constants h) (object_by p shapes (h.objects ++ x ∷ []) things x))

-- It keeps what holds of the pieces, where those are there that it names.
abbrev pub MoreStaysBuilt : Type 0
MoreStaysBuilt = (objects : List heaps.Object) (x : heaps.Object) → AreBuilt objects → x.before ≤ length objects
    → last_of x.kind x.cells ≤ length objects + 1
    → AreBuilt (objects ++ x ∷ [])

-- So does a cell that is written, where the piece is there that its object names then.
abbrev pub NamedStaysBuilt : Type 0
NamedStaysBuilt = (h : Heaped) (o i n : ℕ) (x : heaps.Object) → heaps.object_at h o ≡ Some x → NamesWithin (length h.objects) (with_number i n x)
    → AreBuilt h.objects
    → AreBuilt (heaps.with_cell h o i n).objects

-- What a piece and those in front of it hold stays where there are more objects.
abbrev pub KeepsPieces : Type 0
KeepsPieces = (objects more : List heaps.Object) → AreBuilt objects → (k o : ℕ) → o ≤ k → o ≤ length objects
    → built_by k (objects ++ more) o ≡ built objects o

-- As many steps as its number are enough to the first piece.
abbrev pub IsEnough : Type 0
IsEnough = (objects : List heaps.Object) → AreBuilt objects → (k o : ℕ) → o ≤ k → built_by k objects o ≡ built objects o
