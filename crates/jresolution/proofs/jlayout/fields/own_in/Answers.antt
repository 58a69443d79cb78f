use Rattle.std.proofs.Common.{◌<◌, arith}
use Rattle.jresolution.proofs.JlayoutProofs.FieldPlaces.{few_own}
use Rattle.jresolution.proofs.jlayout.fields.own_in.Goals as goal

pub overflow_cast-result : goal.overflow_cast-result
overflow_cast-result c =
    let few : c.instance_count.result < 65536 = few_own c.args.part.now.class c.parts-class.result.now c.as_slice.result.now c.instance_count.result c.parts-class.ensures.same c.as_slice.ensures c.parts-class.ensures.kept c.instance_count.ensures.most in
    omega (arith, few)
