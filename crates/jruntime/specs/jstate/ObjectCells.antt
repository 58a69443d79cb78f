-- How many cells objects of the heap have, which their classes want.
use Rattle.std.specs.Prelude.{◌≡◌, ℕ, ◌+◌, ◌<◌, List, [], ◌∷◌, ◌++◌, length, Option, Some, None, slice_get}
use Rattle.std.specs.Option.{option_map}
use Rattle.jmemory.specs.declared.jheap.cell.Kind.{Kind}
use Rattle.jmemory.specs.declared.jheap.cell.Kind.TheVariants as kinds
use Rattle.jmemory.specs.jheap.Heaps as heaps
use Rattle.jmemory.specs.jheap.Heaps.{Heaped}
use Rattle.jlib.specs.declared.classes.LibClass.{LibClass}
use Rattle.jlib.specs.declared.classes.LibClass.TheVariants as lib
use Rattle.jresolution.specs.declared.jprogram.part.ClassRef.{ClassRef}
use Rattle.jresolution.specs.declared.jprogram.part.ClassRef.TheVariants as refs
use Rattle.jsemantics.specs.jmachine.ObjectInstructions.{message_cell}
use Rattle.jruntime.specs.declared.jstate.shapes.Shape.{Shape}
use Rattle.jruntime.specs.declared.jstate.shapes.Shapes.{Shapes}
use Rattle.jruntime.specs.jstate.ClassNumbers.{class_numbered, number_of}

-- ---- how many a class wants

-- the cells of an object of the library's: one for a message, a last piece, a permission's number, a context's or a thread's
abbrev pub cells_of : LibClass → ℕ
cells_of (lib.Thrown c) = 1
cells_of lib.AccessControlException = 1
cells_of lib.StringBuilder = 1
cells_of (lib.Permission c) = 1
cells_of lib.AccessControlContext = 1
cells_of lib.Thread = 1
cells_of c = 0

-- the cells of an object of a shape: its fields, and behind them its message
abbrev pub cells_in : Shape → ℕ
cells_in shape = length shape.cells + message_cell shape.message

-- the cells of an object of a class, where this is of the library or has a shape
abbrev pub class_cells : Shapes → ClassRef → Option ℕ
class_cells shapes (refs.Lib c) = Some (cells_of c)
class_cells shapes (refs.User i) = option_map cells_in (slice_get shapes.users i)

-- those of an object of a kind, where this says how many: texts, pieces and arrays have as many as they like
abbrev pub kind_cells : Shapes → Kind → Option ℕ
kind_cells shapes (kinds.Object n) = class_cells shapes (class_numbered n)
kind_cells shapes kind = None

-- ---- objects that have them

-- An object of a kind may have so many cells.
abbrev pub Suits : Shapes → Kind → ℕ → Type 0
Suits shapes kind count = (n : ℕ) → kind_cells shapes kind ≡ Some n → count ≡ n

-- Each object has as many cells as its class wants.
pub record AreCelled (shapes : Shapes) (objects : List heaps.Object) : Type 0 where
  pub each : (i : ℕ) (x : heaps.Object) → slice_get objects i ≡ Some x → Suits shapes x.kind (length x.cells)

-- Where each object had as many, each has as many.
abbrev pub StayCelled : List heaps.Object → List heaps.Object → Type 0
StayCelled before after = (shapes : Shapes) → AreCelled shapes before → AreCelled shapes after

-- ---- laws

-- No object is one too many.
abbrev pub NoneAreCelled : Type 0
NoneAreCelled = (shapes : Shapes) → AreCelled shapes []

-- One more object may have as many as its kind wants,
abbrev pub MoreStayCelled : Type 0
MoreStayCelled = (shapes : Shapes) (objects : List heaps.Object) (x : heaps.Object) → Suits shapes x.kind (length x.cells) → AreCelled shapes objects
    → AreCelled shapes (objects ++ x ∷ [])

-- and so may one that is made;
abbrev pub MadeStaysCelled : Type 0
MadeStaysCelled = (shapes : Shapes) (h : Heaped) (kind : Kind) (len : ℕ) → Suits shapes kind len → AreCelled shapes h.objects
    → AreCelled shapes (heaps.made h kind len).objects

-- a cell that is written changes nothing of that,
abbrev pub WrittenStaysCelled : Type 0
WrittenStaysCelled = (h : Heaped) (o i n : ℕ) → StayCelled h.objects (heaps.with_cell h o i n).objects

-- nor does a piece that is put in front.
abbrev pub BehindStaysCelled : Type 0
BehindStaysCelled = (h : Heaped) (o before : ℕ) → StayCelled h.objects (heaps.with_before h o before).objects

-- The kind of a class wants what the class wants.
abbrev pub WantsAsClass : Type 0
WantsAsClass = (shapes : Shapes) (c : ClassRef) → kind_cells shapes (kinds.Object (number_of c)) ≡ class_cells shapes c

-- The object of a number has a cell, where its kind wants more than so many.
abbrev pub HasWanted : Type 0
HasWanted = (shapes : Shapes) (h : Heaped) (o i n : ℕ) (kind : Kind) → AreCelled shapes h.objects → heaps.kind_at h o ≡ Some kind
    → kind_cells shapes kind ≡ Some n → i < n
    → heaps.HasCell h o i
