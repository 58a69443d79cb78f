use Rattle.jresolution.proofs.JprogramProofs.DigestTables.{first_none, first_next, first_end}
use Rattle.jresolution.proofs.jprogram.firsts.firsts_among.Goals as goal

pub loop-k-init : goal.loop-k-init
loop-k-init c = first_none c.args.class.now c.new-places.result c.new-places.ensures.empty

pub loop-k-preserved : goal.loop-k-preserved
loop-k-preserved c = first_next c.args.class.now c.args.members.now c.loop-k.k c.index-members-k.result c.digest_of.result c.loop-k.places c.tell.new.places c.loop-k-test.true c.index-members-k.is c.digest_of.ensures c.loop-k.invariant c.in_ok-tell.ensures

pub returns : goal.returns
returns c = first_end c.args.class.now c.args.members.now c.loop-k.k c.loop-k.places c.loop-k-test.false c.loop-k.invariant
