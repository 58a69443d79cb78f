use Rattle.std.proofs.Common.{List, subst, sym}
use Rattle.jthreads.specs.declared.thread.Thread.{Thread}
use Rattle.jruntime.specs.jguests.GuestThreads.{IsLive}
use Rattle.jruntime.proofs.JguestsProofs.ThreadLiveness.{first_live}
use Rattle.jruntime.proofs.jguests.guests.Guests.open.Goals as goal

pub returns-clause-lives : goal.returns-clause-lives
returns-clause-lives g c = subst (λ (ts : List Thread). IsLive ts 0) (sym c.in_ok-table.ensures) first_live
