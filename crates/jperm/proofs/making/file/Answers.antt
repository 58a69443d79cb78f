use Rattle.std.specs.Option.{option_copied}
use Rattle.jperm.specs.Actions.{file_actions}
use Rattle.jperm.proofs.ActionNames.{wanted_some}
use Rattle.jperm.proofs.making.file.Goals as goal

pub new-requires : goal.new-requires
new-requires c = wanted_some file_actions (option_copied c.args.actions) c.in_ok-actions.actions.0 c.in_ok-actions.ensures
