use Rattle.jcalling.proofs.JcallplainProofs.RowCompletion.{full_settles, raises_settle, stuck_settles, went_settles}
use Rattle.jcalling.proofs.jcallplain.settling.settle.Goals as goal

pub thrown_class-requires : goal.thrown_class-requires
thrown_class-requires g c = (rw c.in-Raises.is at c.requires).0

pub raise-requires-clause-machine : goal.raise-requires-clause-machine
raise-requires-clause-machine g c = (rw c.in-Raises.is at c.requires).1.machine

pub raise-requires-clause-lives : goal.raise-requires-clause-lives
raise-requires-clause-lives g c = (rw c.in-Raises.is at c.requires).1.lives

pub raise-requires-clause-runs : goal.raise-requires-clause-runs
raise-requires-clause-runs g c = (rw c.in-Raises.is at c.requires).1.runs

pub returns-in-Went-clause-comes : goal.returns-in-Went-clause-comes
returns-in-Went-clause-comes g c = rw c.in-Went.is (went_settles c.args.m.now c.args.told)

pub returns-in-Full-clause-comes : goal.returns-in-Full-clause-comes
returns-in-Full-clause-comes g c = rw (c.in-Full.is, c.full.ensures) (full_settles c.args.m.now c.args.told)

pub returns-in-Stuck-clause-comes : goal.returns-in-Stuck-clause-comes
returns-in-Stuck-clause-comes g c = rw c.in-Stuck.is (stuck_settles c.args.m.now c.args.told)

pub returns-in_ok-came-in-Raises-clause-comes : goal.returns-in_ok-came-in-Raises-clause-comes
returns-in_ok-came-in-Raises-clause-comes g c =
    rw c.in-Raises.is
    (raises_settle c.args.m.now c.args.told c.raise.new.m c.in-Raises.class c.thrown_class.result c.in_ok-came-in-Raises.came c.thrown_class.ensures
    c.in_ok-came-in-Raises.ensures.comes)

pub returns-in-Went-clause-ready : goal.returns-in-Went-clause-ready
returns-in-Went-clause-ready g c = rw c.in-Went.is at c.requires
