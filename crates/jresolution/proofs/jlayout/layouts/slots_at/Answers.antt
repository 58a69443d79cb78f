use Rattle.std.proofs.Common.{ap, ◌∙◌}
use Rattle.jclass.specs.declared.class.ClassParts.{ClassParts}
use Rattle.jresolution.proofs.JlayoutProofs.FieldPlaces.{above_left, count_there, own_below, part_at, slots_are, statics_more}
use Rattle.jresolution.proofs.jlayout.layouts.slots_at.Goals as goal

pub count_above-instance-requires : goal.count_above-instance-requires
count_above-instance-requires c =
    let p = c.args.p.now in
    let i = c.args.class in
    let part = c.index-parts-class.result in
    let at = part_at p c.parts.result.now i part c.parts.ensures.same c.requires.there c.index-parts-class.is in
    own_below p c.requires.order i _ part at (count_there p c.args.counts.now i c.requires.counts c.requires.there)

pub returns-clause-slots : goal.returns-clause-slots
returns-clause-slots c =
    let p = c.args.p.now in
    let i = c.args.class in
    let part = c.index-parts-class.result in
    let at = part_at p c.parts.result.now i part c.parts.ensures.same c.requires.there c.index-parts-class.is in
    let fields = c.as_slice-fields.ensures ∙ ap (λ (x : ClassParts). x.fields) c.parts-2.ensures.same in
    let above = above_left p c.requires.order i _ c.count_above-instance.result part at (count_there p c.args.counts.now i c.requires.counts c.requires.there) c.count_above-instance.ensures in
    slots_are p i _ part c.as_slice-fields.result.now _ at fields c.requires.statics above c.in_ok-both.ensures.slots

pub returns-clause-statics : goal.returns-clause-statics
returns-clause-statics c =
    let p = c.args.p.now in
    let i = c.args.class in
    let part = c.index-parts-class.result in
    let at = part_at p c.parts.result.now i part c.parts.ensures.same c.requires.there c.index-parts-class.is in
    let fields = c.as_slice-fields.ensures ∙ ap (λ (x : ClassParts). x.fields) c.parts-2.ensures.same in
    statics_more p i c.args.statics _ part c.as_slice-fields.result.now at fields c.requires.statics c.in_ok-both.ensures.statics
