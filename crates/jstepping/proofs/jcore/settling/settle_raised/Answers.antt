use Rattle.jstepping.proofs.JcoreProofs.ReadyMachines.{handled_ready}
use Rattle.jstepping.proofs.JcoreProofs.StepOutcomes.{raised_full, raised_handled, raised_uncaught}
use Rattle.jstepping.proofs.jcore.settling.settle_raised.Goals as goal

pub returns-in-Full-clause-comes : goal.returns-in-Full-clause-comes
returns-in-Full-clause-comes g c = rw (c.in-Full.is, c.full.ensures) (raised_full c.args.m.now c.args.class c.args.told)

pub returns-in_ok-tell_thrown-in-Handled-clause-comes : goal.returns-in_ok-tell_thrown-in-Handled-clause-comes
returns-in_ok-tell_thrown-in-Handled-clause-comes g c =
    rw c.in-Handled.is
    (raised_handled c.args.m.now c.args.class c.args.told c.tell_thrown.new.told c.requires.machine.guests c.in_ok-tell_thrown-in-Handled.ensures)

pub returns-in_ok-tell_thrown-in-Handled-clause-ready : goal.returns-in_ok-tell_thrown-in-Handled-clause-ready
returns-in_ok-tell_thrown-in-Handled-clause-ready g c = handled_ready c.args.m.now c.args.done c.in-Handled.is c.requires.machine c.requires.lives c.requires.stand

pub returns-in_ok-came-in-Uncaught-clause-comes : goal.returns-in_ok-came-in-Uncaught-clause-comes
returns-in_ok-came-in-Uncaught-clause-comes g c =
    rw c.in-Uncaught.is
    (raised_uncaught c.args.m.now c.args.class c.args.told c.tell_uncaught.new.told c.end_thread.new.m c.in_ok-came-in-Uncaught.came
    c.requires.machine.guests c.in_ok-tell_uncaught-in-Uncaught.ensures c.in_ok-came-in-Uncaught.ensures.comes)
