use Rattle.std.proofs.Common.{◌≤◌, rules}
use Rattle.jrows.specs.jcalls.MessageThrows.{told_cells}
use Rattle.jrows.proofs.JcallsProofs.ExceptionMessages.{told_so}
use Rattle.jrows.proofs.jcalls.telling.make_told.Goals as goal

pub returns-clause-made : goal.returns-clause-made
returns-clause-made c =
    let room : told_cells c.args.units.now ≤ c.args.heap.now.left = search rules in
    told_so c.args.class c.args.units.now c.args.heap.now c.make_text.new.heap c.make_thrown.new.heap c.in_ok-message.field-0 c.in-Some.message
    c.in_ok-object.object room c.in-Some.is c.in_ok-message.ensures.made (c.in_ok-object.ensures.made c.args.class c.requires.number c.requires.holds)

pub returns-clause-celled : goal.returns-clause-celled
returns-clause-celled c shapes all =
    c.in_ok-object.ensures.celled c.args.class c.requires.number c.requires.holds shapes (c.in_ok-message.ensures.celled shapes all)
