use Rattle.std.proofs.Common.{arith}
use Rattle.std.specs.Prelude.{FitsSigned}
use Rattle.std.specs.Int.{w8, w32, int_wrap}
use Rattle.std.proofs.lemmas.Int.{SFits-int_wrap}
use Rattle.jvalues.proofs.JopsProofs.Wraps.{low_is, widened}
use Rattle.jvalues.proofs.jops.ints.low_8.Goals as goal

pub returns : goal.returns
returns c =
    let x = c.args.x in
    let small = SFits-int_wrap w8 x in
    let fits : FitsSigned w32 (int_wrap w8 x) = record { sfits = omega (arith, small.sfits) } in
    let inner : FitsSigned w32 c.rem_euclid.result = record { sfits = c.rem_euclid.type_inv } in
    widened w8 w32 x c.cast_signed.result fits (low_is w8 w32 x c.rem_euclid.result c.cast_signed.result c.ranges.x inner c.rem_euclid.ensures.value c.cast_signed.ensures)
