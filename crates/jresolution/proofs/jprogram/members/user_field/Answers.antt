use Rattle.std.proofs.Common.{◌<◌, arith}
use Rattle.jresolution.proofs.JprogramProofs.MemberCounts.{field_place}
use Rattle.jresolution.proofs.jprogram.members.user_field.Goals as goal

pub overflow_cast-result : goal.overflow_cast-result
overflow_cast-result c =
    let few : c.in_ok-place.place < 65536 = field_place c.args.class.now c.parts-parts.result.now c.as_slice.result.now c.in_ok-place.place c.parts-parts.ensures.same c.as_slice.ensures c.parts-parts.ensures.kept c.in_ok-place.ensures.within in
    omega (arith, few)
