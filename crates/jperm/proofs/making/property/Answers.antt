use Rattle.std.specs.Option.{option_copied}
use Rattle.jperm.specs.Actions.{property_actions}
use Rattle.jperm.proofs.ActionNames.{wanted_some}
use Rattle.jperm.proofs.making.property.Goals as goal

pub new-requires : goal.new-requires
new-requires c = wanted_some property_actions (option_copied c.args.actions) c.in_ok-actions.actions.0 c.in_ok-actions.ensures
