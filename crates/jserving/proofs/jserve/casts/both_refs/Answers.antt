use Rattle.std.proofs.Common.{◌&&◌, sym, ap, ◌∙◌}
use Rattle.std.specs.Prelude.{slice_get}
use Rattle.jvalues.specs.declared.jnames.kinds.Kind.TheVariants as wanted
use Rattle.jtyping.specs.jrule.StackEffects.{Of}
use Rattle.jserving.specs.jserve.OperandChecks.{one_serves, serves_in}
use Rattle.jserving.proofs.jserve.casts.both_refs.Goals as goal

pub returns-then-not-ref_at : goal.returns-then-not-ref_at
returns-then-not-ref_at g c p =
    ap (λ b. b && one_serves (serves_in p c.args.x.now) (Of wanted.Ref) (slice_get c.args.frames.now.newest.operands 1))
    (sym c.if-not-ref_at.true ∙ c.ref_at.ensures p)

pub returns : goal.returns
returns g c p =
    c.ref_at-2.ensures p ∙ ap (λ b. b && one_serves (serves_in p c.args.x.now) (Of wanted.Ref) (slice_get c.args.frames.now.newest.operands 1))
    (sym c.if-not-ref_at.false ∙ c.ref_at.ensures p)
