use Rattle.jresolution.proofs.JlayoutProofs.FieldPlaces.{placed_on, placed_slots}
use Rattle.jresolution.proofs.jlayout.slots.slots_of.Goals as goal

pub loop-field-preserved : goal.loop-field-preserved
loop-field-preserved c =
    placed_on c.args.first c.args.fields.now c.loop-field.field-index c.loop-field.slots c.push.new.self c.loop-field.next c.in_ok-next.next c.field-item.result c.place.result
    c.loop-field.invariant c.loop-field-test.true c.field-item.is c.place.ensures c.in_ok-push.ensures.ok c.in_ok-next.ensures.statics c.in_ok-next.ensures.instance

pub returns-clause-slots : goal.returns-clause-slots
returns-clause-slots c = placed_slots c.args.first c.args.fields.now c.loop-field.field-index c.loop-field.slots c.loop-field.next c.loop-field.invariant c.loop-field-test.false
