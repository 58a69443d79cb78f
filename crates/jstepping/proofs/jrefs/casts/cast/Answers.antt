use Rattle.jparts.specs.declared.jcode.names.CastOp.TheVariants as casts
use Rattle.jresolution.specs.juses.InternedTypes.{named}
use Rattle.jstepping.proofs.JrefsProofs.OperandRows.{cast_as}
use Rattle.jstepping.proofs.jrefs.casts.cast.Goals as goal

pub returns-in-CheckCast-clause-row : goal.returns-in-CheckCast-clause-row
returns-in-CheckCast-clause-row g c =
    let t = named c.args.x.now.ancestors.now c.args.t in
    cast_as c.args.x.now c.args.frames.now.newest c.check_cast.new.frames.newest c.args.heap.now c.args.heap.now c.args.counts c.check_cast.result
    c.args.op casts.CheckCast c.in-CheckCast.is t c.serves_cast-serve.result c.is_of-is.result (c.serves_cast-serve.ensures casts.CheckCast t) c.is_of-is.ensures
    c.check_cast.ensures.row

pub returns-in-InstanceOf-clause-row : goal.returns-in-InstanceOf-clause-row
returns-in-InstanceOf-clause-row g c =
    let t = named c.args.x.now.ancestors.now c.args.t in
    cast_as c.args.x.now c.args.frames.now.newest c.instance_of.new.frames.newest c.args.heap.now c.args.heap.now c.args.counts c.instance_of.result
    c.args.op casts.InstanceOf c.in-InstanceOf.is t c.serves_cast-serve.result c.is_of-is.result (c.serves_cast-serve.ensures casts.InstanceOf t) c.is_of-is.ensures
    c.instance_of.ensures.row
