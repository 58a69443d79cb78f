use Rattle.std.proofs.Common.{◌≡◌, ◌++◌, drop, length, map, take}
use Rattle.jthreads.specs.ThreadTables.{woken}
use Rattle.jthreads.proofs.table.Threads.wake_each.Given as goal

-- the threads before the index are woken
abbrev pub invariant-loop-i : goal.invariant-loop-i
invariant-loop-i l = (l.self ≡ map (woken l.t) (take l.i l.initial.self) ++ drop l.i l.initial.self) × (length l.self ≡ length l.initial.self) × (l.i-end ≡ length l.initial.self)
