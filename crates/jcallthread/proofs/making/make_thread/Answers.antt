use Rattle.jcallthread.proofs.ConstructorCalls.{makes_in}
use Rattle.jcallthread.proofs.ThreadInvariants.{may_call}
use Rattle.jcallthread.proofs.making.make_thread.Goals as goal

pub make-requires-clause-are : goal.make-requires-clause-are
make-requires-clause-are g c = c.requires.calling.machine.guests

pub make-requires-clause-may : goal.make-requires-clause-may
make-requires-clause-may g c = may_call c.args.m.now c.args.count c.requires.calling

pub make-requires-clause-thread : goal.make-requires-clause-thread
make-requires-clause-thread g c = (c.requires.given c.requires.calling.frames c.requires.calling.runs).thread

pub make-requires-clause-built : goal.make-requires-clause-built
make-requires-clause-built g c = c.requires.calling.machine.built

pub make-requires-clause-celled : goal.make-requires-clause-celled
make-requires-clause-celled g c = c.requires.calling.machine.celled

pub returns-clause-made : goal.returns-clause-made
returns-clause-made g c =
    let made = c.in_ok-make.ensures in
    makes_in c.args.m.now c.args.kept c.args.count c.args.given c.make.new.guests c.make.new.heap made.row made.are made.stay made.lives c.requires.calling.lives
    made.built made.celled made.alike
