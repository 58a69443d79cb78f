use Rattle.std.proofs.Common.{◌≡◌, ◌&&◌, ◌≤◌, ◌<◌, length, suc, ◌+◌, sym, ap, ◌∙◌, arith}
use Rattle.jtypes.specs.Assignability.{fits}
use Rattle.jtypes.specs.ProofNames.{item_fits}
use Rattle.jresolution.specs.jprogram.ProgramClasses.{tree}
use Rattle.jverify.proofs.ChainComparison.{rest_done, rest_fits, rest_more, stacks_differ}
use Rattle.jverify.proofs.declared.stack_fits.Goals as goal

pub returns-then-from-to : goal.returns-then-from-to
returns-then-from-to c = stacks_differ c.args.p.now (item_fits (fits (tree c.args.p.now))) c.args.from.now c.args.to.now (λ e. omega arith)

pub returns-then-not-item_fits : goal.returns-then-not-item_fits
returns-then-not-item_fits c =
    let ly : c.loop-i.i < length c.args.to.now = omega arith in
    let more = rest_more c.args.p.now c.args.from.now c.args.to.now c.loop-i.i _ _ c.loop-i-test.true ly in
    sym (sym c.loop-i.invariant ∙ more ∙ ap (λ b. b && rest_fits c.args.p.now c.args.from.now c.args.to.now (suc c.loop-i.i)) (sym c.item_fits.ensures ∙ c.if-not-item_fits.true))

pub loop-i-preserved : goal.loop-i-preserved
loop-i-preserved c =
    let ly : c.loop-i.i < length c.args.to.now = omega arith in
    let next : c.loop-i.i + 1 ≡ suc c.loop-i.i = omega arith in
    let more = rest_more c.args.p.now c.args.from.now c.args.to.now c.loop-i.i _ _ c.loop-i-test.true ly in
    ap (rest_fits c.args.p.now c.args.from.now c.args.to.now) next
    ∙ sym (more ∙ ap (λ b. b && rest_fits c.args.p.now c.args.from.now c.args.to.now (suc c.loop-i.i)) (sym c.item_fits.ensures ∙ c.if-not-item_fits.false)) ∙ c.loop-i.invariant

pub returns : goal.returns
returns c =
    let lx : length c.args.from.now ≤ c.loop-i.i = omega arith in
    let ly : length c.args.to.now ≤ c.loop-i.i = omega arith in
    sym (rest_done c.args.p.now c.args.from.now c.args.to.now c.loop-i.i lx ly) ∙ c.loop-i.invariant
