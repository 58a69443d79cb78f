use Rattle.std.proofs.Common.{◌≡◌, length, map}
use Rattle.jthreads.specs.ThreadTables.{woken}
use Rattle.jthreads.proofs.table.Threads.wake.Given as goal

-- waking all of them comes to the same as before
abbrev pub invariant-loop : goal.invariant-loop
invariant-loop l = (map (woken l.t) l.self ≡ map (woken l.t) l.initial.self) × (length l.self ≡ length l.initial.self)
