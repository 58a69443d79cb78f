use Rattle.std.proofs.Common.{◌≡◌, ◌+◌, ◌-◌, ◌≤◌, drop, length}
use Rattle.jinterned.specs.InternedContexts.{before}
use Rattle.jinterned.proofs.making.before.Given as goal

abbrev pub invariant-loop-i : goal.invariant-loop-i
invariant-loop-i l = (l.i + before l.d (drop l.i l.run) ≡ before l.d l.run) × (l.i ≤ length l.run)

abbrev pub decreases-loop-i : goal.decreases-loop-i
decreases-loop-i l = length l.run - l.i
