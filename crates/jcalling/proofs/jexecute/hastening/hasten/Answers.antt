use Rattle.jcalling.proofs.JexecuteProofs.StepOutcomes.{fixed_then}
use Rattle.jcalling.proofs.JexecuteProofs.QuickSteps.{last_closes, last_lives, last_machine, last_stands, none_closes}
use Rattle.jcalling.proofs.jexecute.hastening.hasten.Goals as goal

pub returns-in-None-clause-tries : goal.returns-in-None-clause-tries
returns-in-None-clause-tries g c = none_closes c.args.most c.args.m.now c.hurry.new.m c.in_ok-made.made c.in_ok-made.ensures.begins c.in-None.is

pub finish-requires-clause-machine : goal.finish-requires-clause-machine
finish-requires-clause-machine g c = last_machine c.args.most c.args.m.now c.hurry.new.m c.in_ok-made.made c.in_ok-made.ensures.begins c.in-Some.came c.in-Some.is

pub finish-requires-clause-lives : goal.finish-requires-clause-lives
finish-requires-clause-lives g c = last_lives c.args.most c.args.m.now c.hurry.new.m c.in_ok-made.made c.in_ok-made.ensures.begins c.in-Some.came c.in-Some.is

pub finish-requires-clause-stand : goal.finish-requires-clause-stand
finish-requires-clause-stand g c = last_stands c.args.most c.args.m.now c.hurry.new.m c.in_ok-made.made c.in_ok-made.ensures.begins c.in-Some.came c.in-Some.is

pub returns-in_ok-done-in-Some-clause-tries : goal.returns-in_ok-done-in-Some-clause-tries
returns-in_ok-done-in-Some-clause-tries g c =
    last_closes c.args.most c.args.m.now c.hurry.new.m c.in_ok-made.made c.in_ok-made.ensures.begins c.in-Some.came c.in-Some.is c.guest_laws.ensures c.told_law.ensures
    c.linked.ensures c.in_ok-done-in-Some.done c.finish.new.m c.in_ok-done-in-Some.ensures.done

pub returns-in_ok-done-in-Some-clause-fixed : goal.returns-in_ok-done-in-Some-clause-fixed
returns-in_ok-done-in-Some-clause-fixed g c = fixed_then c.args.m.now c.hurry.new.m c.finish.new.m c.in_ok-made.ensures.fixed c.in_ok-done-in-Some.ensures.fixed
