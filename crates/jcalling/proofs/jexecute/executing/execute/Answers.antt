use Rattle.jcalling.proofs.JexecuteProofs.StepOutcomes.{executes, fixed_then, moved_lives, moved_machine, moved_stands}
use Rattle.jcalling.proofs.jexecute.executing.execute.Goals as goal

pub finish-requires-clause-machine : goal.finish-requires-clause-machine
finish-requires-clause-machine g c = moved_machine c.args.m.now c.move_on.new.m c.in_ok-came.came c.in_ok-came.ensures.moves

pub finish-requires-clause-lives : goal.finish-requires-clause-lives
finish-requires-clause-lives g c = moved_lives c.args.m.now c.move_on.new.m c.in_ok-came.came c.in_ok-came.ensures.moves c.requires.ready.lives

pub finish-requires-clause-stand : goal.finish-requires-clause-stand
finish-requires-clause-stand g c = moved_stands c.args.m.now c.move_on.new.m c.in_ok-came.came c.in_ok-came.ensures.moves

pub returns-clause-done : goal.returns-clause-done
returns-clause-done g c =
    executes c.args.m.now c.move_on.new.m c.in_ok-came.came c.in_ok-came.ensures.moves c.guest_laws.ensures c.requires.rules c.told_law.ensures
    c.linked.ensures c.requires.ready.lives c.in_ok-done.done c.finish.new.m c.in_ok-done.ensures.done

pub returns-clause-fixed : goal.returns-clause-fixed
returns-clause-fixed g c = fixed_then c.args.m.now c.move_on.new.m c.finish.new.m c.in_ok-came.ensures.fixed c.in_ok-done.ensures.fixed
