-- What values are printed as, by the texts of the heap.
use Rattle.std.specs.Prelude.{ℕ, zero, ◌%◌, ◌^◌, ℤ, pos, List, [], ◌∷◌, Option, Some, None, option_and_then, option_map, codes}
use Rattle.std.specs.Fmt.{signed_decimal}
use Rattle.std.specs.Int.{w32, cast_unsigned}
use Rattle.std.specs.Ordering.{int_eq}
use Rattle.jvalues.specs.declared.jops.value.Value.{Value}
use Rattle.jvalues.specs.declared.jops.value.Value.TheVariants.{Int, Long, Ref}
use Rattle.jmemory.specs.jheap.Heaps.{Heaped}
use Rattle.jlib.specs.declared.calls.PrintedType.{PrintedType}
use Rattle.jlib.specs.declared.calls.PrintedType.TheVariants as pieces
use Rattle.jsemantics.specs.ProofNames.{zero_text}
use Rattle.jrows.specs.jtexts.HeapTexts.{text_in}

abbrev pub int_in : Value ℕ → Option ℤ
int_in (Int x) = Some x
int_in v = None

abbrev pub long_in : Value ℕ → Option ℤ
long_in (Long x) = Some x
long_in v = None

-- an int that stands for such a piece
abbrev pub shown_int : PrintedType → ℤ → Option (List ℕ)
shown_int pieces.Int x = Some (signed_decimal x)
shown_int pieces.Char x = Some ((cast_unsigned w32 x % 2 ^ 16) ∷ [])
shown_int pieces.Bool x = Some (zero_text (int_eq x (pos 0)))
shown_int piece x = None

abbrev pub text_or_null : Heaped → Value ℕ → Option (List ℕ)
text_or_null h (Ref zero) = Some (codes "null")
text_or_null h v = text_in h v

abbrev pub shown : Heaped → PrintedType → Value ℕ → Option (List ℕ)
shown h pieces.Text v = text_or_null h v
shown h pieces.Long v = option_map signed_decimal (long_in v)
shown h piece v = option_and_then (shown_int piece) (int_in v)
