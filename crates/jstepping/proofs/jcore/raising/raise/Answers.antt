use Rattle.jstepping.proofs.JcoreProofs.RaisedExceptions.{lives_in, raises_in}
use Rattle.jstepping.proofs.jcore.raising.raise.Goals as goal

pub settle_raised-requires-clause-machine : goal.settle_raised-requires-clause-machine
settle_raised-requires-clause-machine g c = c.in_ok-done.ensures.thrown.machine

pub settle_raised-requires-clause-lives : goal.settle_raised-requires-clause-lives
settle_raised-requires-clause-lives g c = lives_in c.args.m.now c.throw.new.m c.args.class c.in_ok-done.done c.in_ok-done.ensures.thrown c.requires.lives

pub settle_raised-requires-clause-stand : goal.settle_raised-requires-clause-stand
settle_raised-requires-clause-stand g c = c.in_ok-done.ensures.thrown.stand

pub returns-clause-comes : goal.returns-clause-comes
returns-clause-comes g c =
    raises_in c.args.m.now c.settle_raised.new.m c.args.class c.args.told c.in_ok-done.done c.in_ok-came.came c.told_law.ensures c.guest_laws.ensures c.throw.new.m
    c.in_ok-done.ensures.thrown c.in_ok-came.ensures.comes

pub returns-clause-fixed : goal.returns-clause-fixed
returns-clause-fixed g c =
    c.machine_laws.ensures.fixed c.args.m.now c.throw.new.m c.settle_raised.new.m c.in_ok-done.ensures.fixed c.in_ok-came.ensures.fixed
