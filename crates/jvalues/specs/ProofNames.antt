-- Names by which proofs and the contracts of inner functions call what the definitions say in place. What `javasec` and `dispatch` promise
-- reaches none of them.
use Rattle.std.specs.Prelude.{Result, ℤ, int_div, int_rem}
use Rattle.jvalues.specs.declared.jops.value.Value.{Value}
use Rattle.jvalues.specs.declared.jops.value.DivideByZero.{DivideByZero}
use Rattle.jvalues.specs.jops.Operations.{unless_zero, int, long}
use Rattle.jvalues.specs.declared.jops.value.Value.TheVariants.{Int, Long}

-- ---- of jops.Operations

-- `int_div` rounds toward zero, and `int_rem` is what it leaves, with the sign of x
abbrev pub int_quotient : {K : Type 0} → ℤ → ℤ → Result (Value K) DivideByZero
int_quotient x y = unless_zero y (int (int_div x y))

abbrev pub int_remainder : {K : Type 0} → ℤ → ℤ → Result (Value K) DivideByZero
int_remainder x y = unless_zero y (Int (int_rem x y))

abbrev pub long_quotient : {K : Type 0} → ℤ → ℤ → Result (Value K) DivideByZero
long_quotient x y = unless_zero y (long (int_div x y))

abbrev pub long_remainder : {K : Type 0} → ℤ → ℤ → Result (Value K) DivideByZero
long_remainder x y = unless_zero y (Long (int_rem x y))
