use Rattle.jverify.proofs.ServedFrames.{itself_told, same_flag}
use Rattle.jverify.proofs.held.served_by.Goals as goal

pub returns : goal.returns
returns c = itself_told c.args.served _ (same_flag c.args.old c.args.new c.if-old-new.false)
