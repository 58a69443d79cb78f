use Rattle.std.proofs.Common.{rules, arith}
use Rattle.jjob.specs.Jobs.{lines_of}
use Rattle.jjob.proofs.JobParser.{skips_more, skips_none}
use Rattle.jjob.proofs.reading.behind_skipped.Goals as goal

pub loop-more-init : goal.loop-more-init
loop-more-init c = (search rules, omega arith, omega arith, skips_none (lines_of c.args.text.now) c.args.number)

pub loop-more-preserved : goal.loop-more-preserved
loop-more-preserved c = (
  search rules,
  omega (arith, c.loop-more.invariant.1, c.in-Some.ensures.shorter),
  omega (arith, c.loop-more.invariant.2, c.in-Some.ensures.shorter),
  skips_more (lines_of c.args.text.now) c.args.number (lines_of c.loop-more.rest.now) c.loop-more.place (lines_of c.in-Some.more.now)
      c.loop-more.invariant.3 c.in-Some.ensures.skipped,
)
