-- References that are stored in arrays.
use Rattle.std.specs.Prelude.{◌≡◌, ℕ, ℤ, zero, suc, Bool, true, false, List, length, Option, Some, None, is_some, slice_get}
use Rattle.jparts.specs.declared.jcode.names.Element.TheVariants as items
use Rattle.jparts.specs.declared.jcode.op_form.ArrayForm.TheVariants as forms
use Rattle.jmemory.specs.declared.jheap.cell.Kind.{Kind}
use Rattle.jmemory.specs.declared.jheap.cell.Kind.TheVariants as kinds
use Rattle.jmemory.specs.jheap.Heaps.{Heaped, cells_at, kind_at}
use Rattle.jlib.specs.declared.classes.LibClass.TheVariants as lib
use Rattle.jlib.specs.declared.classes.Thrown.TheVariants as thrown
use Rattle.jvalues.specs.declared.jops.value.Value.{Value}
use Rattle.jvalues.specs.declared.jops.value.Value.TheVariants.{Ref}
use Rattle.jresolution.specs.jprogram.ProgramClasses.{Program}
use Rattle.jtyping.specs.jrule.ArrayRule.{operands, component}
use Rattle.jresolution.specs.juses.InternedTypes.{array_named}
use Rattle.jsemantics.specs.jmachine.ArrayInstructions.{within}
use Rattle.jsemantics.specs.jmachine.Narrowing.{place}
use Rattle.jsemantics.specs.jmachine.TakenOperands.{taken, type_of}
use Rattle.jsemantics.specs.jmachine.InstructionSites.{Site}
use Rattle.jsemantics.specs.jmachine.Store.{Store}
use Rattle.jsemantics.specs.jmachine.World.{World}
use Rattle.jruntime.specs.declared.jstate.shapes.Shapes.{Shapes}
use Rattle.jruntime.specs.jstate.FrameLists.{Framed}
use Rattle.jruntime.specs.jstate.HeapMeanings.{array_at}
use Rattle.jrows.specs.jacts.ArrayAccesses.{HasPut}
use Rattle.jrows.specs.jacts.RowOutcomes.{int_in}
use Rattle.jrows.specs.declared.jacts.way.Way.{Way}
use Rattle.jrows.specs.declared.jacts.way.Way.TheVariants as ways
use Rattle.jrows.specs.declared.jobjs.storing.Held.{Held}
use Rattle.jrows.specs.declared.jobjs.storing.Held.TheVariants as helds
use Rattle.jsemantics.specs.jmachine.ObjectInstructions.{is_one}

-- what an operand is that is wanted to be an array
abbrev pub held_found : ℕ → Option Kind → Held
held_found o (Some (kinds.Array a)) = helds.Array o a
held_found o kind = helds.Other

abbrev pub held_seen : Heaped → Option (Value ℕ) → Held
held_seen h (Some (Ref zero)) = helds.Null
held_seen h (Some (Ref (suc o))) = held_found (suc o) (kind_at h (suc o))
held_seen h v = helds.Other

-- The operands serve for a store of a reference, or they don't.
abbrev pub ServeStore : Site → Store ℕ → List (Value ℕ) → Bool → Type 0
ServeStore at s values serve = is_some (taken at.world s (operands items.Ref (forms.Store items.Ref)) values) ≡ serve

-- Whether an array that is there holds what is stored: this is asked where the index is that of an item.
abbrev pub MayStore : World → Program → Shapes → Store ℕ → Heaped → List (Value ℕ) → Bool → Type 0
MayStore w p shapes s h values answer =
    (o a k : ℕ) (i : ℤ) (v : Value ℕ) → slice_get values 0 ≡ Some v → Some i ≡ int_in (slice_get values 1)
    → helds.Array o a ≡ held_seen h (slice_get values 2)
    → within (length (cells_at h o)) (place i) ≡ Some k → is_one w (component (array_named p (array_at shapes a))) (type_of w s v) ≡ answer

-- What a store at a place that is there left, where it may be written or not,
abbrev pub HasKept : {E : Type 0} → Bool → ℕ → Value ℕ → Framed E → Heaped → Way → Framed E → Heaped → ℕ → Type 0
HasKept true o v s h way t g k = HasPut o v s h way t g (Some k)
HasKept false o v s h way t g k = (way ≡ ways.Raises (lib.Thrown thrown.ArrayStoreException)) × (t ≡ s) × (g ≡ h)

-- and at any place.
abbrev pub HasStored : {E : Type 0} → Bool → ℕ → Value ℕ → Framed E → Heaped → Way → Framed E → Heaped → Option ℕ → Type 0
HasStored is o v s h way t g None = HasPut o v s h way t g None
HasStored is o v s h way t g (Some k) = HasKept is o v s h way t g k
