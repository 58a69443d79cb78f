use Rattle.jrows.proofs.JcallsProofs.ThrownExceptions.{all_raised, full_so, holds_on, made_built, made_celled, made_heap, none_built, none_celled, none_heap, none_made, one_made}
use Rattle.jrows.proofs.jcalls.raising.raise.Goals as goal

pub returns-in_default-clause-row : goal.returns-in_default-clause-row
returns-in_default-clause-row g c =
    full_so c.args.marks.now (g.H.Handlers.goes c.args.handlers.now) c.args.class c.args.frames.now c.args.frames.now c.args.heap.now c.make.new.self
    (none_made c.args.class c.args.number c.args.heap.now c.make.new.self c.make.result c.in_default.is c.make.ensures)

pub returns-clause-row : goal.returns-clause-row
returns-clause-row g c =
    all_raised c.args.marks.now (g.H.Handlers.goes c.args.handlers.now) c.args.class c.args.frames.now c.throw_object.new.frames c.args.heap.now c.make.new.self
    c.number_laws.ensures c.heap_laws.ensures.makes c.requires.built c.throw_object.result c.in-Some.object
    (one_made c.args.class c.args.number c.args.heap.now c.make.new.self c.make.result c.in-Some.object c.requires.number c.in-Some.is
    c.make.ensures) c.throw_object.ensures.row

pub returns-in_default-clause-built : goal.returns-in_default-clause-built
returns-in_default-clause-built g c =
    none_built c.args.number c.args.heap.now c.make.new.self c.make.result c.in_default.is c.make.ensures c.requires.built

pub returns-clause-built : goal.returns-clause-built
returns-clause-built g c =
    holds_on c.throw_object.result (made_built c.built_laws.ensures.made c.args.number c.args.heap.now c.make.new.self c.make.result
    c.in-Some.object c.in-Some.is c.make.ensures c.requires.built)

pub returns-in_default-clause-celled : goal.returns-in_default-clause-celled
returns-in_default-clause-celled g c =
    none_celled c.args.number c.args.heap.now c.make.new.self c.make.result c.in_default.is c.make.ensures

pub returns-clause-celled : goal.returns-clause-celled
returns-clause-celled g c =
    holds_on c.throw_object.result (made_celled c.celled_laws.ensures.made c.celled_laws.ensures.wants c.args.class c.args.number c.args.heap.now c.make.new.self c.make.result
    c.in-Some.object c.requires.number c.in-Some.is c.make.ensures)

pub returns-in_default-clause-heap : goal.returns-in_default-clause-heap
returns-in_default-clause-heap g c =
    none_heap c.args.class c.args.number c.args.heap.now c.make.new.self c.make.result c.in_default.is c.make.ensures

pub returns-clause-heap : goal.returns-clause-heap
returns-clause-heap g c =
    made_heap c.args.class c.throw_object.result c.args.heap.now c.make.new.self
    (one_made c.args.class c.args.number c.args.heap.now c.make.new.self c.make.result c.in-Some.object c.requires.number c.in-Some.is
    c.make.ensures).2
