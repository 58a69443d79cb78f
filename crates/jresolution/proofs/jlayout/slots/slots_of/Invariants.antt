use Rattle.jresolution.proofs.JlayoutProofs.FieldPlaces.{Placed}
use Rattle.jresolution.proofs.jlayout.slots.slots_of.Given as goal

abbrev pub invariant-loop-field : goal.invariant-loop-field
invariant-loop-field l = Placed l.fn.first l.fields l.field-index l.slots l.next
