use Rattle.std.proofs.Common.{subst, sym}
use Rattle.jruntime.specs.jguests.GuestThreads.{AwaitLiving}
use Rattle.jruntime.proofs.JguestsProofs.ThreadLiveness.{join_awaits}
use Rattle.jruntime.proofs.jguests.guests.Guests.join.Goals as goal

pub returns-clause-wait : goal.returns-clause-wait
returns-clause-wait g c wait = subst AwaitLiving (sym c.join.ensures.table) (join_awaits c.args.self.now.at c.args.t c.args.self.now.table wait)
