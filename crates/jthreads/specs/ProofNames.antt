-- Names by which proofs and the contracts of inner functions call what the definitions say in place. What `javasec` and `dispatch` promise
-- reaches none of them.
use Rattle.std.specs.Prelude.{List, ℕ, slice_index, ◌==◌, Option, Bool, None, false, Some, true}
use Rattle.jthreads.specs.declared.thread.Thread.{Thread}
use Rattle.jthreads.specs.ThreadTables.{unstarted}

-- ---- of Schedule

-- the schedule's number at a place, or 0 behind its end
abbrev pub number_at : List ℕ → ℕ → ℕ
number_at schedule taken = slice_index schedule taken

-- ---- of ThreadTables

abbrev pub is_at : ℕ → Option ℕ → Bool
is_at t = elim [ None ↦ false | Some other ↦ other == t ]

-- a thread that was started
abbrev pub running : Thread
running = record unstarted { started = true }
