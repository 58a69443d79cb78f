use Rattle.jstepping.proofs.JcoreProofs.ReadyMachines.{left_handled, went_ready}
use Rattle.jstepping.proofs.JcoreProofs.StepOutcomes.{settled_ended, settled_full, settled_handled, settled_stuck, settled_uncaught, settled_went}
use Rattle.jstepping.proofs.jcore.settling.settle.Goals as goal

pub settle_raised-requires-clause-stand : goal.settle_raised-requires-clause-stand
settle_raised-requires-clause-stand g c = left_handled c.args.m.now c.args.came c.in-Handled.class c.in-Handled.is c.requires.stand

pub returns-in-Went-clause-comes : goal.returns-in-Went-clause-comes
returns-in-Went-clause-comes g c = rw c.in-Went.is (settled_went c.args.m.now c.new-told.result c.new-told.ensures)

pub returns-in-Went-clause-ready : goal.returns-in-Went-clause-ready
returns-in-Went-clause-ready g c = went_ready c.args.m.now c.args.came c.in-Went.is c.requires.machine c.requires.lives c.requires.stand

pub returns-in_ok-done-in-Ended-clause-comes : goal.returns-in_ok-done-in-Ended-clause-comes
returns-in_ok-done-in-Ended-clause-comes g c =
    rw c.in-Ended.is
    (settled_ended c.args.m.now c.new-told.result c.end_thread.new.m c.in_ok-done-in-Ended.done c.new-told.ensures c.in_ok-done-in-Ended.ensures.comes)

pub returns-in_ok-done-in-Handled-clause-comes : goal.returns-in_ok-done-in-Handled-clause-comes
returns-in_ok-done-in-Handled-clause-comes g c =
    rw c.in-Handled.is
    (settled_handled c.args.m.now c.in-Handled.class c.new-told.result c.settle_raised.new.m c.in_ok-done-in-Handled.done c.new-told.ensures
    c.in_ok-done-in-Handled.ensures.comes)

pub returns-in_ok-done-in-Uncaught-clause-comes : goal.returns-in_ok-done-in-Uncaught-clause-comes
returns-in_ok-done-in-Uncaught-clause-comes g c =
    rw c.in-Uncaught.is
    (settled_uncaught c.args.m.now c.in-Uncaught.class c.new-told.result c.settle_raised-in-Uncaught.new.m c.in_ok-done-in-Uncaught.done c.new-told.ensures
    c.in_ok-done-in-Uncaught.ensures.comes)

pub returns-in-Full-clause-comes : goal.returns-in-Full-clause-comes
returns-in-Full-clause-comes g c = rw (c.in-Full.is, c.full.ensures) (settled_full c.args.m.now)

pub returns-in-Stuck-clause-comes : goal.returns-in-Stuck-clause-comes
returns-in-Stuck-clause-comes g c = rw c.in-Stuck.is (settled_stuck c.args.m.now)
