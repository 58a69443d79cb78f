use Rattle.jlibcalls.proofs.JcontextsProofs.ContextCreation.{context_built, makes_context, one_made}
use Rattle.jlibcalls.proofs.jcontexts.snapshots.make_context.Goals as goal

pub returns-clause-made : goal.returns-clause-made
returns-clause-made c =
    let made = rw c.library_number-number.ensures at c.make.ensures in
    let is = one_made c.args.heap.now c.make.new.self c.make.result c.in-Some.object c.in-Some.is made in
    makes_context c.args.heap.now c.make.new.self c.set_cell.new.self c.args.place c.in-Some.object is c.set_cell.ensures c.heap_laws.ensures.makes
    c.heap_laws.ensures.writes c.requires.built

pub returns-clause-built : goal.returns-clause-built
returns-clause-built c =
    let made = rw c.library_number-number.ensures at c.make.ensures in
    let is = one_made c.args.heap.now c.make.new.self c.make.result c.in-Some.object c.in-Some.is made in
    context_built c.args.heap.now c.make.new.self c.set_cell.new.self c.args.place c.in-Some.object is c.set_cell.ensures c.built_laws.ensures.made
    c.built_laws.ensures.written c.requires.built
