use Rattle.std.proofs.Common.{rules, arith}
use Rattle.jjob.proofs.LineNumbers.{lines_more}
use Rattle.jjob.proofs.reading.number_of_lines.Goals as goal

pub loop-more-preserved : goal.loop-more-preserved
loop-more-preserved c = let one = lines_more c.loop-more.rest.now c.in-Some.field-0-0.now c.in-Some.more.now c.in-Some.ensures.some in
    (search rules, omega (arith, c.loop-more.invariant.1, c.in-Some.ensures.shorter), omega (arith, one, c.loop-more.invariant.2))
