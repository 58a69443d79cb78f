use Rattle.std.proofs.Common.{List, ap, arith, length}
use Rattle.jresolution.specs.declared.jprogram.part.CodePart.{CodePart}
use Rattle.jresolution.proofs.JlayoutProofs.FieldPlaces.{all_begin, all_on, all_slots, all_statics}
use Rattle.jresolution.proofs.jlayout.layouts.all_slots.Goals as goal

pub loop-class-init : goal.loop-class-init
loop-class-init c = all_begin c.args.p.now c.new-slots.result c.new-slots.ensures

pub loop-class-preserved : goal.loop-class-preserved
loop-class-preserved c =
    all_on c.args.p.now c.loop-class.class c.loop-class.slots c.push.new.self c.loop-class.statics c.in_ok-own.behind c.in_ok-own.own c.loop-class.invariant c.in_ok-own.ensures.slots c.in_ok-push.ensures.ok c.in_ok-own.ensures.statics

pub returns-clause-slots : goal.returns-clause-slots
returns-clause-slots c =
    let le = c.loop-class-test.false in
    let size = ap (λ (ps : List CodePart). length ps) c.parts-class-end.ensures.same in
    all_slots c.args.p.now c.loop-class.class c.loop-class.slots c.loop-class.statics c.loop-class.invariant (omega (arith, le, size))

pub returns-clause-statics : goal.returns-clause-statics
returns-clause-statics c =
    let le = c.loop-class-test.false in
    let size = ap (λ (ps : List CodePart). length ps) c.parts-class-end.ensures.same in
    all_statics c.args.p.now c.loop-class.class c.loop-class.slots c.loop-class.statics c.loop-class.invariant (omega (arith, le, size))
