use Rattle.jserving.proofs.JfitsProofs.ClassRows.{lines_more}
use Rattle.jserving.proofs.jfits.lines.lines_of.Goals as goal

pub loop-i-preserved : goal.loop-i-preserved
loop-i-preserved c =
    lines_more c.args.p.now c.loop-i.lines c.push.new.self c.loop-i.i c.line_of.result c.loop-i.invariant c.line_of.ensures c.in_ok-push.ensures.ok
