use Rattle.jcalling.proofs.JcallcheckProofs.CheckOutcomes.{fixed_on, handled_stand, null_does}
use Rattle.jcalling.proofs.jcallcheck.judging.check_null.Goals as goal

pub settle_raised-requires-clause-machine : goal.settle_raised-requires-clause-machine
settle_raised-requires-clause-machine g c = c.in_ok-way.ensures.change.machine

pub settle_raised-requires-clause-lives : goal.settle_raised-requires-clause-lives
settle_raised-requires-clause-lives g c = c.in_ok-way.ensures.change.lives

pub settle_raised-requires-clause-stand : goal.settle_raised-requires-clause-stand
settle_raised-requires-clause-stand g c = handled_stand c.args.m.now c.raise_null.new.m c.in_ok-way.ensures.change c.in_ok-way.way

pub returns-clause-comes : goal.returns-clause-comes
returns-clause-comes g c =
    null_does c.guest_laws.ensures c.args.m.now c.requires.calling.machine.guests c.args.count c.in_ok-way.way c.in_ok-done.done c.raise_null.new.m
    c.settle_raised.new.m c.new.result c.in_ok-way.ensures c.new.ensures c.in_ok-done.ensures.comes

pub returns-clause-fixed : goal.returns-clause-fixed
returns-clause-fixed g c = fixed_on c.args.m.now c.raise_null.new.m c.settle_raised.new.m c.in_ok-way.ensures.change c.in_ok-done.ensures.fixed
