use Rattle.std.specs.Prelude.{FitsSigned}
use Rattle.std.specs.Int.{w32, w64}
use Rattle.jvalues.proofs.JopsProofs.Wraps.{kept, low_is}
use Rattle.jvalues.proofs.jops.longs.low_32.Goals as goal

pub returns : goal.returns
returns c =
    let inner : FitsSigned w64 c.rem_euclid.result = record { sfits = c.rem_euclid.type_inv } in
    kept w32 c.args.x c.cast_signed.result (low_is w32 w64 c.args.x c.rem_euclid.result c.cast_signed.result c.ranges.x inner c.rem_euclid.ensures.value c.cast_signed.ensures)
