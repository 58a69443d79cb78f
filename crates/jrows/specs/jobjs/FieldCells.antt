-- Fields by their slots, and the types of their cells.
use Rattle.std.specs.Prelude.{◌≡◌, ◌-◌, ℕ, Bool, true, false, Option, Some, None, option_and_then, slice_get, nat_lt, if◌then◌else◌}
use Rattle.jmemory.specs.declared.jheap.cell.CellType.{CellType}
use Rattle.jmemory.specs.jheap.Heaps.{Heaped}
use Rattle.jmemory.specs.jheap.RawValues as numbers
use Rattle.jvalues.specs.declared.jops.value.Value.{Value}
use Rattle.jresolution.specs.declared.jprogram.member.Member.{Member}
use Rattle.jresolution.specs.declared.jprogram.member.Member.TheVariants.{LibField, LibMethod}
use Rattle.jresolution.specs.jprogram.ProgramClasses.{Program}
use Rattle.jtyping.specs.jrule.StackEffects.{Fits}
use Rattle.jtypes.specs.declared.vtype.VType.{VType}
use Rattle.jresolution.specs.declared.juses.types.ElementRef.{ElementRef}
use Rattle.jresolution.specs.juses.InternedTypes.{element_named}
use Rattle.jsemantics.specs.jmachine.Narrowing.{narrowed}
use Rattle.jsemantics.specs.jmachine.TakenOperands.{serves}
use Rattle.jsemantics.specs.jmachine.Store.{Store}
use Rattle.jsemantics.specs.jmachine.World.{World}
use Rattle.jruntime.specs.declared.jstate.shapes.Shape.{Shape}
use Rattle.jruntime.specs.declared.jstate.shapes.Shapes.{Shapes}
use Rattle.jruntime.specs.jstate.ClassNumbers.{library_count}
use Rattle.jrows.specs.jobjs.EntryOperands.{target_seen}
use Rattle.jrows.specs.declared.jobjs.target.Target.TheVariants as targets

-- the shape of the objects of a class, by the heap's number for it, where it is a user's
abbrev pub shape_at : Shapes → ℕ → Option Shape
shape_at shapes n = if nat_lt n library_count then None else slice_get shapes.users (n - library_count)

-- the type of the cell of a slot
abbrev pub cell_type : Shapes → ℕ → ℕ → Option CellType
cell_type shapes n slot = option_and_then (λ shape. slice_get shape.cells slot) (shape_at shapes n)

-- A field stands at a slot, in a cell of a type: in the object that is an operand, where there is one.
pub record StandsAt (w : World) (shapes : Shapes) (h : Heaped) (m : Member) (operand : Option (Value ℕ)) (slot : ℕ) (of : CellType) : Type 0 where
  pub stands : w.slot m ≡ Some slot
  pub cell : (o n : ℕ) → target_seen h operand ≡ targets.Object o n → cell_type shapes n slot ≡ Some of

-- a member of a user's class
abbrev pub is_users : Member → Bool
is_users LibField = false
is_users (LibMethod call) = false
is_users m = true

-- A static of a user's class stands at a slot, in a cell of a type.
abbrev pub StandsStatic : World → Shapes → Member → ℕ → CellType → Type 0
StandsStatic w shapes m slot of = (is_users m ≡ true) × (w.slot m ≡ Some slot) × (slice_get shapes.statics slot ≡ Some of)

-- A field keeps of a value what an array of such elements keeps,
abbrev pub KeepsAs : Program → World → Member → ElementRef → Type 0
KeepsAs p w m narrow = (v : Value ℕ) → narrowed (w.element m) v ≡ narrowed (Some (element_named p narrow)) v

-- and what may be put there is of the cell's type.
abbrev pub HoldsOnly : World → Store ℕ → VType → CellType → Type 0
HoldsOnly w s held of = (v : Value ℕ) → serves w s (Fits held) v ≡ true → numbers.type_of v ≡ of
