use Rattle.std.proofs.Common.{◌≡◌, ◌<◌, ◌≤◌, ◌∙◌, List, length, map, ap, arith, subst}
use Rattle.std.specs.Prelude.{get_or}
use Rattle.std.proofs.lemmas.List.{take_all}
use Rattle.jresolution.specs.declared.jprogram.part.CodePart.{CodePart}
use Rattle.jforms.proofs.JtablesProofs.EngineStarts.{mapped_more}
use Rattle.jforms.proofs.jtables.grounds.marks_by.Goals as goal

pub loop-part-preserved : goal.loop-part-preserved
loop-part-preserved g c =
    let parts = c.args.program.now.parts in
    let marked = λ (part : CodePart). g.G.Guard.mark part.domain in
    let i = c.loop-part.part-index in
    let part = c.part-item.result in
    let same = c.parts-part-items.ensures.same in
    let lt : i < length parts = omega (arith, ap length same, c.loop-part-test.true) in
    let here : part ≡ get_or parts i part = subst (λ (all : List CodePart). part ≡ get_or all i part) same c.part-item.is in
    mapped_more marked parts i part c.loop-part.marks c.push.new.self c.mark_of.result lt here c.mark_of.ensures.mark c.loop-part.invariant
    c.in_ok-push.ensures.ok

pub returns : goal.returns
returns g c =
    let parts = c.args.program.now.parts in
    let all : length parts ≤ c.loop-part.part-index = omega (arith, ap length c.parts-part-items.ensures.same, c.loop-part-test.false) in
    c.loop-part.invariant ∙ ap (map (λ (part : CodePart). g.G.Guard.mark part.domain)) (take_all c.loop-part.part-index parts all)
