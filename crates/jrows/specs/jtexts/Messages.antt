-- The messages of objects of the heap that can be thrown.
use Rattle.std.specs.Prelude.{◌≡◌, ⊤, ℕ, Bool, true, false, List, drop, length, Option, Some, None, slice_get, if◌then◌else◌}
use Rattle.jvalues.specs.declared.jops.value.Value.{Value}
use Rattle.jvalues.specs.declared.jops.value.Value.TheVariants.{Ref}
use Rattle.jmemory.specs.declared.jheap.cell.Kind.{Kind}
use Rattle.jmemory.specs.declared.jheap.cell.Kind.TheVariants as kinds
use Rattle.jmemory.specs.jheap.Heaps as heaps
use Rattle.jmemory.specs.jheap.Heaps.{HasCell, Heaped, kind_at, object_at}
use Rattle.jlib.specs.declared.classes.LibClass.{LibClass}
use Rattle.jlib.specs.declared.classes.LibClass.TheVariants as lib
use Rattle.jresolution.specs.declared.jprogram.part.ClassRef.{ClassRef}
use Rattle.jresolution.specs.declared.jprogram.part.ClassRef.TheVariants as refs
use Rattle.jruntime.specs.declared.jstate.shapes.Shape.{Shape}
use Rattle.jruntime.specs.declared.jstate.shapes.Shapes.{Shapes}
use Rattle.jruntime.specs.jstate.ObjectCells.{AreCelled}
use Rattle.jruntime.specs.jstate.ClassNumbers.{class_numbered}
use Rattle.jruntime.specs.jstate.HeapMeanings.{first, message_by, named_by}

-- objects of a class of the library that can be thrown have one
abbrev pub has_message : LibClass → Bool
has_message (lib.Thrown c) = true
has_message lib.AccessControlException = true
has_message c = false

-- those of a user's class have it in a cell behind their fields
abbrev pub message_by_shape : Option Shape → List ℕ → ℕ
message_by_shape None cells = 0
message_by_shape (Some shape) cells = message_by shape.message (drop (length shape.cells) cells)

abbrev pub told_by : Shapes → ClassRef → List ℕ → Option ℕ
told_by shapes (refs.User i) cells = Some (message_by_shape (slice_get shapes.users i) cells)
told_by shapes (refs.Lib c) cells = if has_message c then Some (named_by (first cells)) else None

abbrev pub kind_told : Shapes → Kind → List ℕ → Option ℕ
kind_told shapes (kinds.Object n) cells = told_by shapes (class_numbered n) cells
kind_told shapes kind cells = None

abbrev pub object_told : Shapes → Option heaps.Object → Option ℕ
object_told shapes None = None
object_told shapes (Some x) = kind_told shapes x.kind x.cells

-- the message of the object that a value names
abbrev pub message_named : Shapes → Heaped → Value ℕ → Option ℕ
message_named shapes h (Ref o) = object_told shapes (object_at h o)
message_named shapes h v = None

-- ---- where messages stand

abbrev pub shape_place : Option Shape → Option ℕ
shape_place None = None
shape_place (Some shape) = if shape.message then Some (length shape.cells) else None

-- the place of the message among the cells of an object of a class
abbrev pub place_by : Shapes → ClassRef → Option ℕ
place_by shapes (refs.User i) = shape_place (slice_get shapes.users i)
place_by shapes (refs.Lib c) = if has_message c then Some 0 else None

abbrev pub kind_place : Shapes → Option Kind → Option ℕ
kind_place shapes (Some (kinds.Object n)) = place_by shapes (class_numbered n)
kind_place shapes kind = None

-- that of the object of a number
abbrev pub message_place : Shapes → Heaped → ℕ → Option ℕ
message_place shapes h o = kind_place shapes (kind_at h o)

abbrev pub IsCell : Heaped → ℕ → Option ℕ → Type 0
IsCell h o None = ⊥
IsCell h o (Some i) = HasCell h o i

-- The object of a number has the cell for its message, if it can have one.
abbrev pub CanTell : Shapes → Heaped → ℕ → Type 0
CanTell shapes h o = (m : ℕ) → object_told shapes (object_at h o) ≡ Some m → IsCell h o (message_place shapes h o)

-- So has the one that a value names.
abbrev pub CanBeTold : Shapes → Heaped → Value ℕ → Type 0
CanBeTold shapes h (Ref o) = CanTell shapes h o
CanBeTold shapes h v = ⊤

-- whether objects of a user's class have one, by its shape
abbrev pub may_tell : Option Shape → Bool
may_tell None = false
may_tell (Some shape) = shape.message

-- If the object of a number is of a user's class, objects of this can have a message.
abbrev pub MayTell : Shapes → Heaped → ℕ → Type 0
MayTell shapes h o = (n i : ℕ) → kind_at h o ≡ Some (kinds.Object n) → class_numbered n ≡ refs.User i → may_tell (slice_get shapes.users i) ≡ true

abbrev pub MayBeTold : Shapes → Heaped → Value ℕ → Type 0
MayBeTold shapes h (Ref o) = MayTell shapes h o
MayBeTold shapes h v = ⊤

-- The cells for messages are there where objects have the cells that their classes want.
abbrev pub TellFollows : Type 0
TellFollows = (shapes : Shapes) (h : Heaped) (o : ℕ) → AreCelled shapes h.objects → MayTell shapes h o → CanTell shapes h o

abbrev pub ToldFollows : Type 0
ToldFollows = (shapes : Shapes) (h : Heaped) (v : Value ℕ) → AreCelled shapes h.objects → MayBeTold shapes h v → CanBeTold shapes h v

-- the object that a value names
abbrev pub named_as : Value ℕ → Option ℕ
named_as (Ref o) = Some o
named_as v = None
