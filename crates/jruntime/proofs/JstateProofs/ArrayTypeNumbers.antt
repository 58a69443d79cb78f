-- The heap's numbers for types of arrays.
use Rattle.std.proofs.Common.{◌≡◌, ◌∙◌, ℕ, ◌<◌, ◌≤◌, ◌^◌, ◌%◌, length, Option, None, Some, refl, sym, ap, arith, lt-ltb}
use Rattle.std.specs.Prelude.{slice_get, unwrap_or, if◌then◌else◌}
use Rattle.std.proofs.lemmas.Option.{slice_get_within}
use Rattle.jparts.specs.declared.jcode.names.ArrayType.{ArrayType}
use Rattle.jparts.specs.declared.jcode.names.ArrayType.TheVariants as numbers
use Rattle.jresolution.specs.declared.juses.types.ArrayRef.{ArrayRef}
use Rattle.jresolution.specs.declared.juses.types.ElementRef.TheVariants as elements
use Rattle.jruntime.specs.declared.jstate.shapes.Shapes.{Shapes}
use Rattle.jruntime.specs.jstate.ArrayNumbers.{SaysNumbers, array_number, array_of, element_of, numbers_at, numbers_by, rows_end}
use Rattle.jruntime.specs.jstate.HeapMeanings.{array_at, row_at, typed_by}

pub says_numbers : SaysNumbers
unfolding numbers_at
says_numbers numbers.Boolean = refl
says_numbers numbers.Char = refl
says_numbers numbers.Byte = refl
says_numbers numbers.Short = refl
says_numbers numbers.Int = refl
says_numbers numbers.Long = refl

-- so the type of its arrays
pub typed_numbers : (shapes : Shapes) (kind : ArrayType) → array_at shapes (array_number kind) ≡ array_of (element_of kind)
unfolding array_at
typed_numbers shapes kind = ap (typed_by (row_at shapes (array_number kind))) (says_numbers kind)

-- and of those of a number that says some numbers
pub typed_said : (shapes : Shapes) (n : ℕ) (kind : ArrayType) → Some kind ≡ numbers_at n → array_at shapes n ≡ array_of (element_of kind)
unfolding array_at
typed_said shapes n kind says = ap (typed_by (row_at shapes n)) (sym says)

-- a row has that of the table
pub typed_row : (shapes : Shapes) (n : ℕ) → None ≡ numbers_at n → array_at shapes n ≡ row_at shapes n
unfolding array_at
typed_row shapes n none = ap (typed_by (row_at shapes n)) (sym none)

pub typed_below : (shapes : Shapes) (n : ℕ) → n < 2 ^ 31 → array_at shapes n ≡ row_at shapes n
unfolding numbers_at
typed_below shapes n few =
    typed_row shapes n (sym (ap (λ b. if b then None else Some (numbers_by (n % 8))) (lt-ltb n rows_end few)))

-- so what stands in the table, where it has no more rows
pub typed_there : (shapes : Shapes) (n : ℕ) (a : ArrayRef) → length shapes.arrays ≤ 2 ^ 31 → slice_get shapes.arrays n ≡ Some a → array_at shapes n ≡ a
typed_there shapes n a few at =
    typed_below shapes n (omega (arith, slice_get_within shapes.arrays n a at, few)) ∙ ap (λ (o : Option ArrayRef). unwrap_or o (array_of elements.Int)) at
