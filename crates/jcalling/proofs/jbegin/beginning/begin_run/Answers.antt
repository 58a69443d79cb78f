use Rattle.jcalling.proofs.JbeginProofs.ThreadStarts.{run_begins}
use Rattle.jcalling.proofs.jbegin.beginning.begin_run.Goals as goal

pub returns-clause-comes : goal.returns-clause-comes
returns-clause-comes g c =
    run_begins c.args.m.now _ c.begin_by.new.m c.run_target-target.result c.in_ok-came.came c.run_target-target.ensures.same c.run_target-target.ensures.target
    c.in_ok-came.ensures.comes
