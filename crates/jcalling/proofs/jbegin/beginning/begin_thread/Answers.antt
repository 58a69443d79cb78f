use Rattle.jcalling.proofs.JbeginProofs.ThreadStarts.{step_ends}
use Rattle.jcalling.proofs.jbegin.beginning.begin_thread.Goals as goal

pub returns-then-m-eq0-clause-comes : goal.returns-then-m-eq0-clause-comes
returns-then-m-eq0-clause-comes g c =
    step_ends c.args.m.now c.begin_laws.ensures.ends c.end_thread.new.m c.new.result c.in_ok-came.came c.new.ensures c.requires.none c.if-m-eq0.true
    c.in_ok-came.ensures.comes
