use Rattle.std.proofs.Common.{ap, ◌∙◌}
use Rattle.jvalues.specs.declared.jnames.kinds.Kind.TheVariants as wanted
use Rattle.jtyping.specs.jrule.StackEffects.{Of}
use Rattle.jserving.specs.jserve.OperandChecks.{one_serves, serves_in}
use Rattle.jserving.proofs.jserve.storing.int_at.Goals as goal

pub returns : goal.returns
returns g c p x = c.is_int.ensures p x ∙ ap (one_serves (serves_in p x) (Of wanted.Int)) c.operand.ensures
