use Rattle.std.proofs.Common.{subst, sym}
use Rattle.jthreads.specs.ThreadTables.{thread_at}
use Rattle.jruntime.specs.jguests.GuestThreads.{AwaitLiving}
use Rattle.jruntime.proofs.JguestsProofs.ThreadLiveness.{end_awaits, runnable_alive}
use Rattle.jruntime.proofs.jguests.guests.Guests.end_running.Goals as goal

pub end-requires-clause-alive : goal.end-requires-clause-alive
end-requires-clause-alive g c = runnable_alive (thread_at c.args.self.now.table c.args.self.now.at) c.requires.lives.runs

pub returns-clause-wait : goal.returns-clause-wait
returns-clause-wait g c = subst AwaitLiving (sym c.end.ensures) (end_awaits c.args.self.now.at c.args.self.now.table c.requires.lives.wait)
