use Rattle.std.proofs.Common.{ap, ◌∙◌}
use Rattle.jparts.specs.declared.jcode.names.Element.TheVariants as items
use Rattle.jtyping.specs.jrule.StackEffects.{Holds}
use Rattle.jserving.specs.jserve.OperandChecks.{one_serves, serves_in}
use Rattle.jserving.proofs.jserve.storing.refs_at.Goals as goal

pub returns : goal.returns
returns g c p = c.is_refs.ensures p ∙ ap (one_serves (serves_in p c.args.x.now) (Holds items.Ref)) c.operand.ensures
