use Rattle.std.proofs.Common.{List, Option, ℕ, ap, length, arith}
use Rattle.jresolution.proofs.jprogram.implemented.no_rows.Goals as goal

pub returns-clause-count : goal.returns-clause-count
returns-clause-count c =
    let most = c.loop-rows.invariant.0 in
    let least = c.loop-rows-test.false in
    let size = ap (λ (xs : List (Option (List ℕ))). length xs) c.as_slice.ensures in
    omega (arith, most, least, size)

pub returns-clause-none : goal.returns-clause-none
returns-clause-none c = c.loop-rows.invariant.1
