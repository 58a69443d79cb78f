use Rattle.std.proofs.Common.{◌≤◌, rules}
use Rattle.std.specs.Prelude.{length}
use Rattle.jresolution.specs.juses.InternedTypes.{named}
use Rattle.jstepping.proofs.JrefsProofs.FieldInstructions.{names_at, no_some, put_row, the_some, write_past}
use Rattle.jstepping.proofs.jrefs.statics.write_static.Goals as goal

pub returns-in_default-clause-row : goal.returns-in_default-clause-row
returns-in_default-clause-row g c f n =
    no_some (named c.args.x.now.ancestors.now) c.held_of.result f.held c.in_default.is
    (c.held_of.ensures f (names_at c.args.x.now.ancestors.now c.args.frames.now.newest.method c.method.result c.args.a f c.method.ensures n))

pub returns-then-a-static_count-clause-row : goal.returns-then-a-static_count-clause-row
returns-then-a-static_count-clause-row g c f n =
    let high : length c.args.heap.now.statics ≤ c.args.a.slot = search rules in
    write_past c.args.x.now c.requires.lasting c.args.counts c.args.frames.now.newest c.args.frames.now.newest c.args.heap.now c.args.heap.now c.args.a f n
    c.requires.op c.cell_laws.ensures.none high

pub returns-clause-row : goal.returns-clause-row
returns-clause-row g c f n =
    let here = names_at c.args.x.now.ancestors.now c.args.frames.now.newest.method c.method.result c.args.a f c.method.ensures n in
    let holds = the_some (named c.args.x.now.ancestors.now) c.held_of.result c.in-Some.held f.held c.in-Some.is (c.held_of.ensures f here) in
    put_row c.args.x.now c.requires.lasting c.args.counts c.args.frames.now.newest c.put_static.new.frames.newest c.args.heap.now c.put_static.new.heap
    c.put_static.result c.args.a f n c.requires.op c.serves_static-serve.result (c.serves_static-serve.ensures f holds)
    c.element_of.result (λ q v. c.element_of.ensures q v) c.put_static.ensures.row
