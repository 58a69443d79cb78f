-- The statuses with which the program ends.
use Rattle.std.specs.Prelude.{ℕ}
use Rattle.joutput.specs.declared.jtrace.event.End.{End}
use Rattle.joutput.specs.declared.jtrace.event.End.TheVariants as ends
use Rattle.jshow.specs.declared.status.Status.{Status}
use Rattle.jshow.specs.declared.status.Status.TheVariants as statuses

-- the exit number of each
abbrev pub number : Status → ℕ
number statuses.Finished = 0
number statuses.Uncaught = 1
number statuses.Usage = 2
number statuses.Refused = 3
number statuses.Bound = 4
number statuses.HeapFull = 5
number statuses.Deadlock = 6
number statuses.ReadFault = 7
number statuses.WriteFault = 8
number statuses.StoreFault = 9
number statuses.OutOfMemory = 10

-- what a run's end is as a status
abbrev pub status_of : End → Status
status_of ends.Finished = statuses.Finished
status_of ends.Uncaught = statuses.Uncaught
status_of ends.Deadlock = statuses.Deadlock
status_of ends.HeapFull = statuses.HeapFull
status_of ends.Bound = statuses.Bound
