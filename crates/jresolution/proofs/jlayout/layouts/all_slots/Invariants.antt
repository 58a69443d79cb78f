use Rattle.jresolution.proofs.JlayoutProofs.FieldPlaces.{AllPlaced}
use Rattle.jresolution.proofs.jlayout.layouts.all_slots.Given as goal

abbrev pub invariant-loop-class : goal.invariant-loop-class
invariant-loop-class l = AllPlaced l.p l.class l.slots l.statics
