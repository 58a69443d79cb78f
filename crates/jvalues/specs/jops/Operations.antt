-- What the instructions that compute make of their operands (JVMS 6.5). An int is a number of 32 bits in two's complement, a
-- long one of 64. The older operand stands first. Each of these is None exactly where the operands aren't of the kinds that the
-- instruction takes. `K` is what stands for a security context.
use Rattle.std.specs.Prelude.{ℕ, ◌/◌, ◌%◌, ◌^◌, ◌==◌, ℤ, pos, negsuc, ◌+ℤ◌, ◌-ℤ◌, ◌*ℤ◌, neg_ℤ, int_lt, int_le, int_div, int_rem}
use Rattle.std.specs.Prelude.{Bool, false, not, if◌then◌else◌, Option, Some, None, option_map, Result, Ok, Err, ⊤}
use Rattle.std.specs.Int.{w8, w16, w32, w64, cast_unsigned, cast_signed, int_wrap, int_rem_euclid, int_shr, int_bit_and, int_bit_or, int_bit_xor}
use Rattle.std.specs.Ordering.{int_eq}
use Rattle.jvalues.specs.declared.jops.value.Value.{Value}
use Rattle.jvalues.specs.declared.jops.value.Value.TheVariants.{Int, Long, Ref}
use Rattle.jvalues.specs.declared.jops.value.DivideByZero.{DivideByZero}
use Rattle.jvalues.specs.declared.jnames.names.Division.{Division}
use Rattle.jvalues.specs.declared.jnames.names.Division.TheVariants.{Idiv, Irem, Ldiv, Lrem}
use Rattle.jvalues.specs.declared.jnames.names.OpTwo.{OpTwo}
use Rattle.jvalues.specs.declared.jnames.names.OpTwo.TheVariants.{Iadd, Ladd, Isub, Lsub, Imul, Lmul, Ishl, Lshl, Ishr, Lshr, Iushr, Lushr, Iand, Land, Ior, Lor, Ixor, Lxor, Lcmp}
use Rattle.jvalues.specs.declared.jnames.names.OpOne.{OpOne}
use Rattle.jvalues.specs.declared.jnames.names.OpOne.TheVariants.{Ineg, Lneg, I2l, L2i, I2b, I2c, I2s}
use Rattle.jvalues.specs.declared.jnames.names.Compare.{Compare}
use Rattle.jvalues.specs.declared.jnames.names.Compare.TheVariants as compares

-- ---- kinds

abbrev pub IsInt : {K : Type 0} → Value K → Type 0
IsInt (Int x) = ⊤
IsInt _ = ⊥

abbrev pub IsLong : {K : Type 0} → Value K → Type 0
IsLong (Long x) = ⊤
IsLong _ = ⊥

abbrev pub on_int : {K R : Type 0} → (ℤ → R) → Value K → Option R
on_int f y = elim y [ Int x ↦ Some (f x) | _ ↦ None ]

abbrev pub on_long : {K R : Type 0} → (ℤ → R) → Value K → Option R
on_long f y = elim y [ Long x ↦ Some (f x) | _ ↦ None ]

abbrev pub on_ints : {K R : Type 0} → (ℤ → ℤ → R) → Value K → Value K → Option R
on_ints f (Int x) (Int y) = Some (f x y)
on_ints f _ _ = None

abbrev pub on_longs : {K R : Type 0} → (ℤ → ℤ → R) → Value K → Value K → Option R
on_longs f (Long x) (Long y) = Some (f x y)
on_longs f _ _ = None

abbrev pub on_long_and_int : {K R : Type 0} → (ℤ → ℤ → R) → Value K → Value K → Option R
on_long_and_int f (Long x) (Int y) = Some (f x y)
on_long_and_int f _ _ = None

-- ---- results

-- the int or long that differs from z by a multiple of 2 ^ 32 or 2 ^ 64
abbrev pub int : {K : Type 0} → ℤ → Value K
int z = Int (int_wrap w32 z)

abbrev pub long : {K : Type 0} → ℤ → Value K
long z = Long (int_wrap w64 z)

-- the lowest 5 or 6 bits of an int
abbrev pub low_5 : ℤ → ℕ
low_5 y = cast_unsigned w32 y % 32

abbrev pub low_6 : ℤ → ℕ
low_6 y = cast_unsigned w32 y % 64

-- -1, 0 or 1, as x is less than y, equal or greater
abbrev pub order : ℤ → ℤ → ℤ
order x y = if int_lt x y then negsuc 0 else (if int_lt y x then pos 1 else pos 0)

-- ---- instructions

-- `int_shr x k` is x divided by 2 ^ k and rounded down, and `/` does the same to the number without sign that has the same bits; the bits of
-- two numbers are joined place by place
unfoldable pub two : {K : Type 0} → OpTwo → Value K → Value K → Option (Value K)
two Iadd = on_ints (λ x y. int (x +ℤ y))
two Ladd = on_longs (λ x y. long (x +ℤ y))
two Isub = on_ints (λ x y. int (x -ℤ y))
two Lsub = on_longs (λ x y. long (x -ℤ y))
two Imul = on_ints (λ x y. int (x *ℤ y))
two Lmul = on_longs (λ x y. long (x *ℤ y))
two Ishl = on_ints (λ x y. int (x *ℤ pos (2 ^ low_5 y)))
two Lshl = on_long_and_int (λ x y. long (x *ℤ pos (2 ^ low_6 y)))
two Ishr = on_ints (λ x y. Int (int_shr x (low_5 y)))
two Lshr = on_long_and_int (λ x y. Long (int_shr x (low_6 y)))
two Iushr = on_ints (λ x y. Int (cast_signed w32 (cast_unsigned w32 x / 2 ^ low_5 y)))
two Lushr = on_long_and_int (λ x y. Long (cast_signed w64 (cast_unsigned w64 x / 2 ^ low_6 y)))
two Iand = on_ints (λ x y. Int (int_bit_and w32 x y))
two Land = on_longs (λ x y. Long (int_bit_and w64 x y))
two Ior = on_ints (λ x y. Int (int_bit_or w32 x y))
two Lor = on_longs (λ x y. Long (int_bit_or w64 x y))
two Ixor = on_ints (λ x y. Int (int_bit_xor w32 x y))
two Lxor = on_longs (λ x y. Long (int_bit_xor w64 x y))
two Lcmp = on_longs (λ x y. Int (order x y))

-- a narrower number is widened again, i2c without sign
unfoldable pub one : {K : Type 0} → OpOne → Value K → Option (Value K)
one Ineg = on_int (λ x. int (neg_ℤ x))
one Lneg = on_long (λ x. long (neg_ℤ x))
one I2l = on_int (λ x. Long x)
one L2i = on_long (λ x. int x)
one I2b = on_int (λ x. Int (int_wrap w8 x))
one I2c = on_int (λ x. Int (int_rem_euclid x (pos (2 ^ 16))))
one I2s = on_int (λ x. Int (int_wrap w16 x))

abbrev pub is_zero : {K : Type 0} → Value K → Bool
is_zero (Int y) = int_eq y (pos 0)
is_zero (Long y) = int_eq y (pos 0)
is_zero _ = false

-- a division by y, which has no value where y is 0
abbrev pub unless_zero : {K : Type 0} → ℤ → Value K → Result (Value K) DivideByZero
unless_zero y v = if int_eq y (pos 0) then Err (record {}) else Ok v

unfoldable pub divide : {K : Type 0} → Division → Value K → Value K → Option (Result (Value K) DivideByZero)
divide Idiv = on_ints (λ x y. unless_zero y (int (int_div x y)))
divide Irem = on_ints (λ x y. unless_zero y (Int (int_rem x y)))
divide Ldiv = on_longs (λ x y. unless_zero y (long (int_div x y)))
divide Lrem = on_longs (λ x y. unless_zero y (Long (int_rem x y)))

-- two ints or two references are one
abbrev pub same : {K : Type 0} → Value K → Value K → Option Bool
same (Int x) (Int y) = Some (int_eq x y)
same (Ref x) (Ref y) = Some (x == y)
same _ _ = None

abbrev pub test : {K : Type 0} → Compare → Value K → Value K → Option Bool
test compares.Eq = same
test compares.Ne = λ a b. option_map not (same a b)
test compares.Lt = on_ints int_lt
test compares.Ge = on_ints (λ x y. int_le y x)
test compares.Gt = on_ints (λ x y. int_lt y x)
test compares.Le = on_ints int_le
