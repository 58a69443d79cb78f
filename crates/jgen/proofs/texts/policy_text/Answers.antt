use Rattle.std.proofs.Common.{arith}
use Rattle.jgen.proofs.TextConcatenation.{grants_end, grants_next}
use Rattle.jgen.proofs.texts.policy_text.Goals as goal

pub loop-i-preserved : goal.loop-i-preserved
loop-i-preserved c = grants_next c.args.kinds.now c.loop-i.i _ c.loop-i.out c.put_granted.new.out _ c.loop-i-test.true c.in_ok-put_granted.ensures c.loop-i.invariant

pub returns : goal.returns
returns c = grants_end c.args.kinds.now c.loop-i.i c.loop-i.out _ (omega (arith, c.loop-i-test.false)) c.loop-i.invariant
