use Rattle.std.proofs.Common.{arith}
use Rattle.jresolution.proofs.JprogramProofs.InterfaceNumbers.{faces_begin, faces_end, faces_next, at_most}
use Rattle.jresolution.proofs.jprogram.faces.faces_of.Goals as goal

pub loop-part-init : goal.loop-part-init
loop-part-init c = (omega arith, faces_begin c.args.parts.now c.new-numbers.result c.new-numbers.ensures)

pub loop-part-preserved : goal.loop-part-preserved
loop-part-preserved c = (
  at_most c.loop-part.next c.loop-part.part-index c.past-next.result c.is_face-face.result c.loop-part.invariant.0 c.past-next.ensures,
  faces_next c.args.parts.now c.loop-part.part-index c.loop-part.next c.past-next.result c.part-item.result c.is_face-face.result c.number_if.result c.loop-part.numbers c.push.new.self c.loop-part-test.true c.part-item.is c.is_face-face.ensures c.number_if.ensures c.in_ok-push.ensures.ok c.past-next.ensures c.loop-part.invariant.1,
)

pub returns : goal.returns
returns c = faces_end c.args.parts.now c.loop-part.part-index c.loop-part.next c.loop-part.numbers c.loop-part-test.false c.loop-part.invariant.1
