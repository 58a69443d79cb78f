use Rattle.jresolution.proofs.JlayoutProofs.FieldPlaces.{Counting}
use Rattle.jresolution.proofs.jlayout.counts.counts_of.Given as goal

abbrev pub invariant-loop-class : goal.invariant-loop-class
invariant-loop-class l = Counting l.p l.class l.known l.counts
