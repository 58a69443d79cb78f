use Rattle.std.proofs.Common.{ap, ◌∙◌}
use Rattle.jvalues.specs.declared.jnames.kinds.Kind.TheVariants as wanted
use Rattle.jtyping.specs.jrule.StackEffects.{Of}
use Rattle.jserving.specs.jserve.OperandChecks.{one_serves, serves_in}
use Rattle.jserving.proofs.jserve.casts.ref_at.Goals as goal

pub returns : goal.returns
returns g c p = c.is_reference.ensures p ∙ ap (one_serves (serves_in p c.args.x.now) (Of wanted.Ref)) c.operand.ensures
