use Rattle.std.proofs.Common.{ap, ◌∙◌}
use Rattle.jresolution.specs.jprogram.ClassFileParts.{this_name}
use Rattle.jresolution.specs.jprogram.NameSlots.{slot_of}
use Rattle.jresolution.proofs.JprogramProofs.NameSlots.{filled_next}
use Rattle.jresolution.proofs.jprogram.slots.slots_of.Goals as goal

pub loop-i-preserved : goal.loop-i-preserved
loop-i-preserved c = (c.loop-i.invariant.0, (c.fill.ensures.0 ∙ c.loop-i.invariant.1.0, filled_next c.args.parts.now c.loop-i.i c.index-parts-i.result _ c.slot_of-k.result c.loop-i.slots c.fill.new.slots c.loop-i-test.true c.index-parts-i.is (c.slot_of-k.ensures.slot ∙ ap (slot_of _) (c.this_name.ensures ∙ ap this_name c.parts.ensures.same)) c.loop-i.invariant.1.1 c.fill.ensures))
