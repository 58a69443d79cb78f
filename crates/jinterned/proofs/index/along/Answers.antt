use Rattle.std.proofs.Common.{◌≡◌, ◌≢◌, ◌-◌, Some, suc, arith}
use Rattle.std.specs.Prelude.{slice_get}
use Rattle.std.proofs.lemmas.Option.{get_or_from_slice_get}
use Rattle.jinterned.proofs.DigestChains.{none_passed, on_before, smaller_before}
use Rattle.jinterned.proofs.index.along.Goals as goal

pub loop-at-preserved : goal.loop-at-preserved
loop-at-preserved c =
    let ds = c.args.digests.now in
    let es = c.args.earlier.now in
    let i = c.loop-at.at - 1 in
    let next : c.loop-at.at ≡ suc i = omega (arith, c.loop-at-test.true) in
    let other : slice_get ds i ≢ Some c.args.digest = λ e. c.if-digests-i.false (get_or_from_slice_get ds i c.args.digest 0 e) in
    let smaller = smaller_before ds es c.args.digest c.loop-at.at i c.loop-at.invariant.0 next in (
      on_before ds es c.args.digest c.loop-at.at i c.loop-at.invariant.0 next,
      omega (arith, smaller, c.loop-at.invariant.1),
      none_passed ds es c.args.digest c.loop-at.at i c.args.start c.loop-at.invariant.0 next other c.loop-at.invariant.2,
    )
