use Rattle.jresolution.specs.juses.InternedTypes.{class_named}
use Rattle.jparts.specs.declared.jcode.names.FieldOp.TheVariants as ops
use Rattle.jstepping.proofs.JrefsProofs.FieldInstructions.{names_at, no_some, not_row, read_row, the_some}
use Rattle.jstepping.proofs.jrefs.fields.read.Goals as goal

pub returns-in_default-clause-row : goal.returns-in_default-clause-row
returns-in_default-clause-row g c f n =
    no_some (class_named c.args.x.now.ancestors.now) c.owner_of.result f.owner c.in_default.is
    (c.owner_of.ensures f (names_at c.args.x.now.ancestors.now c.args.frames.now.newest.method c.method.result c.args.a f c.method.ensures n))

pub returns-then-not-serves_read-clause-row : goal.returns-then-not-serves_read-clause-row
returns-then-not-serves_read-clause-row g c f n =
    let owned = the_some (class_named c.args.x.now.ancestors.now) c.owner_of.result c.in-Some.owner f.owner c.in-Some.is
    (c.owner_of.ensures f (names_at c.args.x.now.ancestors.now c.args.frames.now.newest.method c.method.result c.args.a f c.method.ensures n)) in
    not_row c.args.x.now c.requires.lasting c.args.counts c.args.frames.now.newest c.args.frames.now.newest c.args.heap.now c.args.heap.now c.args.a f n
    ops.GetField c.requires.op c.serves_read.result c.if-not-serves_read.true (c.serves_read.ensures f owned)

pub returns-clause-row : goal.returns-clause-row
returns-clause-row g c f n =
    let owned = the_some (class_named c.args.x.now.ancestors.now) c.owner_of.result c.in-Some.owner f.owner c.in-Some.is
    (c.owner_of.ensures f (names_at c.args.x.now.ancestors.now c.args.frames.now.newest.method c.method.result c.args.a f c.method.ensures n)) in
    read_row c.args.x.now c.requires.lasting c.args.counts c.args.frames.now.newest c.get_field.new.frames.newest c.args.heap.now c.args.heap.now
    c.get_field.result c.args.a f n c.requires.op c.serves_read.result c.if-not-serves_read.false (c.serves_read.ensures f owned) c.heap_laws.ensures.each
    c.get_field.ensures.row
