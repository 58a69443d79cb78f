use Rattle.std.proofs.Common.{◌∙◌, ap}
use Rattle.jresolution.specs.jprogram.ClassFileParts.{this_name}
use Rattle.jresolution.proofs.JprogramProofs.NameTables.{places_none, places_next, places_end}
use Rattle.jresolution.proofs.jprogram.names.places_of.Goals as goal

pub loop-i-init : goal.loop-i-init
loop-i-init c = places_none c.new-places.result c.new-places.ensures.empty

pub loop-i-preserved : goal.loop-i-preserved
loop-i-preserved c = places_next c.args.parts.now c.loop-i.i c.index-parts-i.result c.this_name.result.now c.loop-i.places c.note.new.places c.loop-i-test.true c.index-parts-i.is (c.this_name.ensures ∙ ap this_name c.parts.ensures.same) c.loop-i.invariant c.in_ok-note.ensures

pub returns : goal.returns
returns c = places_end c.args.parts.now c.loop-i.i c.loop-i.places c.loop-i-test.false c.loop-i.invariant
