use Rattle.std.proofs.Common.{arith}
use Rattle.jgen.proofs.TextConcatenation.{sources_end, sources_next}
use Rattle.jgen.proofs.texts.put_sources.Goals as goal

pub loop-i-preserved : goal.loop-i-preserved
loop-i-preserved c = sources_next c.loop-i.i c.args.size c.loop-i.out c.put_source.new.out _ c.loop-i-test.true c.in_ok-put_source.ensures c.loop-i.invariant

pub returns : goal.returns
returns c = sources_end c.loop-i.i c.args.size c.loop-i.out _ (omega (arith, c.loop-i-test.false)) c.loop-i.invariant
