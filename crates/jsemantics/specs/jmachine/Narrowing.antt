-- Values as fields and arrays hold them: what they hold at first, and what is left of an int in a narrower place (JVMS 2.3, 2.11.1).
use Rattle.std.specs.Prelude.{ℕ, ◌^◌, ℤ, pos, negsuc, Option, Some, None, nat_lt, if◌then◌else◌}
use Rattle.std.specs.Int.{w8, w16, int_wrap, int_rem_euclid}
use Rattle.jvalues.specs.declared.jops.value.Value.{Value}
use Rattle.jvalues.specs.declared.jops.value.Value.TheVariants.{Int, Long, Ref}
use Rattle.jtypes.specs.declared.vtype.Element.{Element}
use Rattle.jtypes.specs.declared.vtype.Element.TheVariants as elements
use Rattle.jtypes.specs.declared.vtype.ArrayType.{ArrayType}
use Rattle.jtypes.specs.declared.vtype.VType.{VType}
use Rattle.jtypes.specs.declared.vtype.VType.TheVariants as types

-- what a place of a type holds before anything is put there: 0 or null
abbrev pub default : {K : Type 0} → VType → Value K
default x = elim x [ types.Int ↦ Int (pos 0) | types.Long ↦ Long (pos 0) | _ ↦ Ref 0 ]

-- a boolean keeps the lowest bit, a byte 8, and a char and a short 16, of which a char has no sign
abbrev pub narrowed_int : Element → ℤ → ℤ
narrowed_int elements.Boolean x = int_rem_euclid x (pos 2)
narrowed_int elements.Byte x = int_wrap w8 x
narrowed_int elements.Char x = int_rem_euclid x (pos (2 ^ 16))
narrowed_int elements.Short x = int_wrap w16 x
narrowed_int e x = x

-- a value as what holds such elements keeps it, where it holds no arrays
abbrev pub narrowed : {K : Type 0} → Option Element → Value K → Value K
narrowed (Some e) (Int x) = Int (narrowed_int e x)
narrowed e v = v

-- what an array holds, where it holds no arrays
abbrev pub held_by : ArrayType → Option Element
held_by a = if nat_lt 1 a.depth then None else Some a.element

-- an int as a place in a list, where it isn't negative
abbrev pub place : ℤ → Option ℕ
place (pos n) = Some n
place (negsuc n) = None
