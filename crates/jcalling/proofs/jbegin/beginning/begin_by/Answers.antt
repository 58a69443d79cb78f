use Rattle.jcalling.proofs.JbeginProofs.ThreadStarts.{stuck_begins}
use Rattle.jcalling.proofs.jbegin.beginning.begin_by.Goals as goal

pub push_run-requires-clause-within : goal.push_run-requires-clause-within
push_run-requires-clause-within g c = rw c.in-Pushes.is at c.requires.within

pub returns-in-Stuck-clause-comes : goal.returns-in-Stuck-clause-comes
returns-in-Stuck-clause-comes g c = rw c.in-Stuck.is (stuck_begins c.args.m.now c.begin_laws.ensures.stuck c.requires.none c.requires.some)

pub returns-in_ok-came-in-Fails-clause-comes : goal.returns-in_ok-came-in-Fails-clause-comes
returns-in_ok-came-in-Fails-clause-comes g c = rw c.in-Fails.is c.in_ok-came-in-Fails.ensures.comes

pub returns-in_ok-came-in-Pushes-clause-comes : goal.returns-in_ok-came-in-Pushes-clause-comes
returns-in_ok-came-in-Pushes-clause-comes g c = rw c.in-Pushes.is c.in_ok-came-in-Pushes.ensures.comes
