-- How many slots of the stack operands take (JVMS 2.6.2), types by number.
use Rattle.std.specs.Prelude.{ℕ, ◌+◌, List, [], ◌∷◌}
use Rattle.jresolution.specs.declared.juses.types.TypeRef.{TypeRef}
use Rattle.jresolution.specs.declared.juses.types.TypeRef.TheVariants as refs

abbrev pub size : TypeRef → ℕ
size refs.Long = 2
size k = 1

abbrev pub longs_in : TypeRef → ℕ
longs_in refs.Long = 1
longs_in k = 0

unfoldable pub long_count : List TypeRef → ℕ
long_count [] = 0
long_count (k ∷ stack) = longs_in k + long_count stack

unfoldable pub slot_count : List TypeRef → ℕ
slot_count [] = 0
slot_count (k ∷ stack) = size k + slot_count stack
