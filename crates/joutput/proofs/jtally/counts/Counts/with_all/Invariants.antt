use Rattle.std.proofs.Common.{◌≡◌, take}
use Rattle.joutput.specs.jtally.EventCounts.{counted}
use Rattle.joutput.proofs.jtally.counts.Counts.with_all.Given as goal

abbrev pub invariant-loop-event : goal.invariant-loop-event
invariant-loop-event l = l.counts ≡ counted l.fn.self (take l.event-index l.events)
