use Rattle.jcalling.proofs.JexecuteProofs.MachineSteps.{moves}
use Rattle.jcalling.proofs.JexecuteProofs.ReferenceSteps.{lasting}
use Rattle.jcalling.proofs.jexecute.executing.move_on.Goals as goal

pub advance-requires-clause-lasting : goal.advance-requires-clause-lasting
advance-requires-clause-lasting g c =
    let m = c.args.m.now in
    lasting m.calls m.fixed c.requires.ready.machine.fixed c.linked.ensures c.requires.ready.machine.files c.requires.ready.machine.tied
    c.requires.ready.machine.small

pub advance-requires-clause-stand : goal.advance-requires-clause-stand
advance-requires-clause-stand g c = c.requires.ready.running c.in-Some.frames c.in-Some.is

pub returns-clause-moves : goal.returns-clause-moves
returns-clause-moves g c =
    moves c.args.m.now c.in-Some.frames c.advance.new.frames c.advance.new.heap c.advance.new.constants c.advance.new.calls
    c.alike_laws.ensures.permissions c.alike_laws.ensures.kept c.requires.ready c.in-Some.is c.advance.ensures.same c.advance.ensures.program
    c.kept_counts-counts.result c.kept_counts-counts.ensures c.advance.result c.advance.ensures.row c.advance.ensures.stand c.advance.ensures.built c.advance.ensures.celled c.advance.ensures.alike
