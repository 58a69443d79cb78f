use Rattle.std.proofs.Common.{◌<◌, ◌^◌, rules}
use Rattle.jrows.proofs.JcallsProofs.ExceptionMessages.{made_thrown, one_made, thrown_built}
use Rattle.jrows.proofs.jcalls.telling.make_thrown.Goals as goal

pub returns-clause-made : goal.returns-clause-made
returns-clause-made c class is holds =
    let small : c.args.message < 2 ^ 32 = search rules in
    made_thrown c.number_laws.ensures c.heap_laws.ensures.makes c.heap_laws.ensures.writes c.args.heap.now c.make.new.self c.set_cell.new.self c.args.number
    c.args.message c.in-Some.object class c.requires.built small is holds
    (one_made c.args.number c.args.heap.now c.make.new.self c.make.result c.in-Some.object c.in-Some.is c.make.ensures) c.set_cell.ensures

pub returns-clause-built : goal.returns-clause-built
returns-clause-built c class is holds =
    thrown_built c.number_laws.ensures c.built_laws.ensures.made c.built_laws.ensures.written c.args.heap.now c.make.new.self c.set_cell.new.self c.args.number
    c.args.message c.in-Some.object class c.requires.built is holds
    (one_made c.args.number c.args.heap.now c.make.new.self c.make.result c.in-Some.object c.in-Some.is c.make.ensures) c.set_cell.ensures
