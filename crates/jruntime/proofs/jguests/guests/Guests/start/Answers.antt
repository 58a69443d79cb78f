use Rattle.std.proofs.Common.{subst, sym}
use Rattle.jruntime.specs.jguests.GuestThreads.{AwaitLiving}
use Rattle.jruntime.proofs.JguestsProofs.ThreadLiveness.{start_awaits}
use Rattle.jruntime.proofs.jguests.guests.Guests.start.Goals as goal

pub returns-clause-wait : goal.returns-clause-wait
returns-clause-wait g c wait = subst AwaitLiving (sym c.start.ensures.table) (start_awaits c.args.t c.args.self.now.table wait)
