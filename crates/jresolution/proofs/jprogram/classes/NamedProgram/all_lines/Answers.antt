use Rattle.jresolution.proofs.JprogramProofs.NumberedWalks.{lines_more, lines_size}
use Rattle.jresolution.proofs.jprogram.classes.NamedProgram.all_lines.Goals as goal

pub loop-i-preserved : goal.loop-i-preserved
loop-i-preserved c = (
  lines_more c.args.self.now c.loop-i.lines c.push.new.self c.loop-i.i c.line_of.result c.loop-i.invariant.0 c.loop-i.invariant.1 c.line_of.ensures c.in_ok-push.ensures.ok,
  lines_size c.loop-i.lines c.push.new.self c.loop-i.i c.line_of.result c.loop-i.invariant.1 c.in_ok-push.ensures.ok,
)
