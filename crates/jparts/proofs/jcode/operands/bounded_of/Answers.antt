use Rattle.std.proofs.Common.{rules, w32, Ok}
use Rattle.std.proofs.lemmas.Int.{to_z-of_z}
use Rattle.std.proofs.lemmas.Result.{err_from_is_err_and}
use mir.Val.{SFits}
use Rattle.jparts.specs.jcode.OperandFormats.{bounded}
use Rattle.jparts.proofs.JcodeProofs.FaultPropagation.{fails_on}
use Rattle.jparts.proofs.jcode.operands.bounded_of.Goals as goal

pub returns-in_err-branches : goal.returns-in_err-branches
unfolding bounded
returns-in_err-branches c =
    let p = err_from_is_err_and c.from_residual-in_err-branches.result c.from_residual-in_err-branches.ensures.1 in
    let low : SFits w32 c.in_ok-low.low = search rules in
    let high : SFits w32 c.in_ok-low.high = search rules in
    let count = simp to_z-of_z at c.span_of.ensures in
    let stopped = rw count at c.in_err-branches.ensures in
    rw (p.1, p.2, c.in_ok-low.ensures) (fails_on _ _ (λ y. Ok (((c.in_ok-low.low, c.in_ok-low.high), y.0), y.1)) stopped)
