use Rattle.std.proofs.Common.{arith}
use Rattle.jgen.proofs.FileLists.{files_end, files_next}
use Rattle.jgen.proofs.making.put_classes.Goals as goal

pub loop-i-preserved : goal.loop-i-preserved
loop-i-preserved c =
    files_next c.args.size c.args.kinds.now c.loop-i.i _ c.in_ok-file.file c.loop-i.files c.push.new.self _ c.loop-i-test.true c.in_ok-file.ensures c.in_ok-push.ensures.ok c.loop-i.invariant

pub returns : goal.returns
returns c = files_end c.args.size c.args.kinds.now c.loop-i.i c.loop-i.files _ (omega (arith, c.loop-i-test.false)) c.loop-i.invariant
