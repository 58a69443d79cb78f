use Rattle.jlinking.proofs.JlinkProofs.MethodSelection.{selected_as}
use Rattle.jlinking.proofs.jlink.laws.selection_law.Goals as goal

pub returns : goal.returns
returns c = selected_as
