use Rattle.jcalling.proofs.JcallcontextProofs.CallOutcomes.{mid_comes, mid_fixed, mid_lives, mid_machine, mid_stands}
use Rattle.jcalling.proofs.jcallcontext.failing.fail_call.Goals as goal

pub raise-requires-clause-machine : goal.raise-requires-clause-machine
raise-requires-clause-machine g c = mid_machine c.args.m.now c.drop_operands.new.m c.args.count c.requires c.drop_operands.ensures c.machine_laws.ensures.machine

pub raise-requires-clause-lives : goal.raise-requires-clause-lives
raise-requires-clause-lives g c = mid_lives c.args.m.now c.drop_operands.new.m c.args.count c.requires c.drop_operands.ensures

pub raise-requires-clause-runs : goal.raise-requires-clause-runs
raise-requires-clause-runs g c = mid_stands c.args.m.now c.drop_operands.new.m c.args.count c.requires c.drop_operands.ensures

pub returns-clause-comes : goal.returns-clause-comes
returns-clause-comes g c =
    mid_comes c.args.m.now c.drop_operands.new.m c.args.count c.requires c.drop_operands.ensures c.machine_laws.ensures.behind c.fail_law.ensures c.args.class
    c.new.result c.in_ok-came.came c.raise.new.m c.new.ensures c.in_ok-came.ensures.comes

pub returns-clause-fixed : goal.returns-clause-fixed
returns-clause-fixed g c =
    c.machine_laws.ensures.fixed c.args.m.now c.drop_operands.new.m c.raise.new.m
    (mid_fixed c.args.m.now c.drop_operands.new.m c.args.count c.requires c.drop_operands.ensures) c.in_ok-came.ensures.fixed
