use Rattle.jperm.proofs.KeyChains.{next_stands}
use Rattle.jperm.proofs.chains.chains_of.Goals as goal

pub loop-member-preserved : goal.loop-member-preserved
loop-member-preserved c =
    next_stands c.args.list.now c.loop-member.member-index c.member-item.result c.loop-member.heads c.loop-member.older c.add.new.heads c.add.new.older c.key_of.result
    c.loop-member-test.true c.member-item.is c.key_of.ensures c.in_ok-add.ensures.older c.in_ok-add.ensures.heads c.loop-member.invariant
