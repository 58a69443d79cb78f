use Rattle.std.proofs.Common.{ap, sym, ◌∙◌}
use Rattle.std.specs.Prelude.{map}
use Rattle.jtypes.specs.Assignability.{fits}
use Rattle.jtypes.specs.TypeFrames.{implies, stack_fits}
use Rattle.jresolution.specs.jprogram.ProgramClasses.{tree}
use Rattle.jresolution.specs.juses.InternedTypes.{named}
use Rattle.jverify.proofs.ChainComparison.{flag_fails, locals_count, same_fits, stack_fails}
use Rattle.jverify.proofs.declared.kept_fits.Goals as goal

pub returns-then-not-implies : goal.returns-then-not-implies
returns-then-not-implies c =
    flag_fails c.args.p.now c.args.chains.now c.args.k.now c.args.locals.now c.args.stack.now c.args.flag
    (ap (implies c.args.flag) (sym c.flag.ensures) ∙ sym c.implies.ensures ∙ c.if-not-implies.true)

pub returns-then-not-stack_fits : goal.returns-then-not-stack_fits
returns-then-not-stack_fits c =
    let p = c.args.p.now in
    stack_fails p c.args.chains.now c.args.k.now c.args.locals.now c.args.stack.now c.args.flag
    (ap (λ xs. stack_fits (fits (tree p)) (map (named p) c.args.stack.now) (map (named p) xs)) (sym c.as_slice.ensures) ∙ sym c.stack_fits.ensures ∙ c.if-not-stack_fits.true)

pub returns-then-same : goal.returns-then-same
returns-then-same c =
    let p = c.args.p.now in
    same_fits p c.args.chains.now c.args.k.now c.args.locals.now c.args.stack.now c.args.flag (c.requires.same c.if-same.true)
    (ap (λ xs. stack_fits (fits (tree p)) (map (named p) c.args.stack.now) (map (named p) xs)) (sym c.as_slice.ensures) ∙ sym c.stack_fits.ensures ∙ c.if-not-stack_fits.false)
    (ap (implies c.args.flag) (sym c.flag.ensures) ∙ sym c.implies.ensures ∙ c.if-not-implies.false)

pub returns : goal.returns
returns c =
    let p = c.args.p.now in
    c.locals_fit.ensures
    ∙ locals_count p c.args.chains.now c.args.k.now c.args.locals.now c.args.stack.now c.args.flag
    (ap (λ xs. stack_fits (fits (tree p)) (map (named p) c.args.stack.now) (map (named p) xs)) (sym c.as_slice.ensures) ∙ sym c.stack_fits.ensures ∙ c.if-not-stack_fits.false)
    (ap (implies c.args.flag) (sym c.flag.ensures) ∙ sym c.implies.ensures ∙ c.if-not-implies.false)
