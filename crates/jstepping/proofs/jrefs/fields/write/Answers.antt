use Rattle.jresolution.specs.juses.InternedTypes.{class_named, named}
use Rattle.jparts.specs.declared.jcode.names.FieldOp.TheVariants as ops
use Rattle.jstepping.proofs.JrefsProofs.FieldInstructions.{names_at, no_some, not_row, the_some, write_row}
use Rattle.jstepping.proofs.jrefs.fields.write.Goals as goal

pub returns-in_default-clause-row : goal.returns-in_default-clause-row
returns-in_default-clause-row g c f n =
    no_some (class_named c.args.x.now.ancestors.now) c.owner_of.result f.owner c.in_default.is
    (c.owner_of.ensures f (names_at c.args.x.now.ancestors.now c.args.frames.now.newest.method c.method-class.result c.args.a f c.method-class.ensures n))

pub returns-in_default-held_of-clause-row : goal.returns-in_default-held_of-clause-row
returns-in_default-held_of-clause-row g c f n =
    no_some (named c.args.x.now.ancestors.now) c.held_of.result f.held c.in_default-held_of.is
    (c.held_of.ensures f (names_at c.args.x.now.ancestors.now c.args.frames.now.newest.method c.method-class.result c.args.a f c.method-class.ensures n))

pub returns-then-not-serves_write-clause-row : goal.returns-then-not-serves_write-clause-row
returns-then-not-serves_write-clause-row g c f n =
    let here = names_at c.args.x.now.ancestors.now c.args.frames.now.newest.method c.method-class.result c.args.a f c.method-class.ensures n in
    let owned = the_some (class_named c.args.x.now.ancestors.now) c.owner_of.result c.in-Some.owner f.owner c.in-Some.is (c.owner_of.ensures f here) in
    let holds = the_some (named c.args.x.now.ancestors.now) c.held_of.result c.in-Some-held_of.held f.held c.in-Some-held_of.is (c.held_of.ensures f here) in
    not_row c.args.x.now c.requires.lasting c.args.counts c.args.frames.now.newest c.args.frames.now.newest c.args.heap.now c.args.heap.now c.args.a f n
    ops.PutField c.requires.op c.serves_write.result c.if-not-serves_write.true (c.serves_write.ensures f n owned holds)

pub returns-clause-row : goal.returns-clause-row
returns-clause-row g c f n =
    let here = names_at c.args.x.now.ancestors.now c.args.frames.now.newest.method c.method-class.result c.args.a f c.method-class.ensures n in
    let owned = the_some (class_named c.args.x.now.ancestors.now) c.owner_of.result c.in-Some.owner f.owner c.in-Some.is (c.owner_of.ensures f here) in
    let holds = the_some (named c.args.x.now.ancestors.now) c.held_of.result c.in-Some-held_of.held f.held c.in-Some-held_of.is (c.held_of.ensures f here) in
    write_row c.args.x.now c.requires.lasting c.args.counts c.args.frames.now.newest c.put_field.new.frames.newest c.args.heap.now c.put_field.new.heap
    c.put_field.result c.args.a f n c.requires.op c.serves_write.result c.if-not-serves_write.false (c.serves_write.ensures f n owned holds) c.heap_laws.ensures.each
    c.element_of.result (λ q v. c.element_of.ensures q v) c.put_field.ensures.row
