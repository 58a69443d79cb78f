-- What an operand is that is wanted to be an array.
use Rattle.std.specs.Prelude.{◌≡◌, ◌+◌, ◌<◌, ◌⊎◌, ℕ, zero, suc, ◌∷◌, drop, length, Option, Some}
use Rattle.jparts.specs.declared.jcode.names.ArrayType.{ArrayType as ArrayKind}
use Rattle.jvalues.specs.declared.jops.value.Value.{Value}
use Rattle.jvalues.specs.declared.jops.value.Value.TheVariants.{Ref}
use Rattle.jmemory.specs.declared.jheap.cell.Kind.{Kind}
use Rattle.jmemory.specs.declared.jheap.cell.Kind.TheVariants as kinds
use Rattle.jmemory.specs.jheap.Heaps.{Heaped, charge, kind_at, made}
use Rattle.jtyping.specs.jrule.ArrayRule.{of_numbers}
use Rattle.jtypes.specs.declared.vtype.ArrayType.{ArrayType}
use Rattle.jsemantics.specs.jmachine.FrameOperations.{standing}
use Rattle.jruntime.specs.jstate.FrameLists.{Framed, with_newest}
use Rattle.jrows.specs.declared.jacts.way.Way.{Way}
use Rattle.jrows.specs.declared.jacts.way.Way.TheVariants as ways
use Rattle.jrows.specs.declared.jacts.arrays.ArrayOperand.{ArrayOperand}
use Rattle.jrows.specs.declared.jacts.arrays.ArrayOperand.TheVariants as found

abbrev pub array_found : ℕ → Option Kind → ArrayOperand
array_found o (Some (kinds.Array a)) = found.Array o a
array_found o kind = found.Other

abbrev pub array_seen : Heaped → Option (Value ℕ) → ArrayOperand
array_seen h (Some (Ref zero)) = found.Null
array_seen h (Some (Ref (suc o))) = array_found (suc o) (kind_at h (suc o))
array_seen h v = found.Other

-- the type of an array of such numbers
abbrev pub row_of : ArrayKind → ArrayType
row_of kind = record { depth = 1; element = of_numbers kind }

-- The cells for an object of so many cells were there, and its reference is in the place of its length; or they weren't, and nothing has
-- changed.
abbrev pub HasMade : {E : Type 0} → Kind → ℕ → Framed E → Heaped → Way → Framed E → Heaped → Type 0
HasMade kind count s h way t g =
    ((h.left < charge kind count) × (way ≡ ways.Full) × (t ≡ s) × (g ≡ h))
    ⊎ ((charge kind count < h.left + 1) × (way ≡ ways.Went) × (g ≡ made h kind count)
    × (t ≡ with_newest (standing s.newest (s.newest.place + 1) (Ref (length h.objects + 1) ∷ drop 1 s.newest.operands)) s))
