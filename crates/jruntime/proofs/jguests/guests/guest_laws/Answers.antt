use Rattle.jruntime.proofs.JguestsProofs.ThreadLists.{runs_as}
use Rattle.jruntime.proofs.jguests.guests.guest_laws.Goals as goal

pub returns : goal.returns
returns g c = runs_as
