use Rattle.std.proofs.Common.{arith}
use Rattle.jperm.specs.PermissionTexts.{parts}
use Rattle.joutput.proofs.JtraceProofs.ItemCounts.{too_long, next_count}
use Rattle.joutput.proofs.jtrace.lines.is_short_permission.Goals as goal

pub returns-then-more-units : goal.returns-then-more-units
returns-then-more-units c =
    let p = c.args.asked.now in
    too_long (parts p) c.loop-at.at _ c.loop-at.units _ c.part-more.result.now _ (c.text_laws.ensures.count p) (c.text_laws.ensures.whole p) c.loop-at-test.true c.part-more.ensures c.loop-at.invariant.counted c.loop-at.invariant.few c.if-more-units.true

pub loop-at-preserved : goal.loop-at-preserved
loop-at-preserved c =
    let p = c.args.asked.now in
    record {
      counted = next_count (parts p) c.loop-at.at _ c.loop-at.units c.part-more.result.now (c.text_laws.ensures.count p) c.loop-at-test.true c.part-more.ensures c.loop-at.invariant.counted;
      few = omega (arith, c.if-more-units.false);
    }
