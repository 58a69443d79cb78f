use Rattle.jserving.proofs.JcellsProofs.ObjectCells.{lines_more}
use Rattle.jserving.proofs.jcells.lines.lines_of.Goals as goal

pub loop-i-preserved : goal.loop-i-preserved
loop-i-preserved c =
    lines_more c.args.p.now c.loop-i.lines c.push.new.self c.loop-i.i c.in_ok-line_of.field-0 c.loop-i.invariant c.in_ok-line_of.ensures c.in_ok-push.ensures.ok
