use Rattle.std.proofs.Common.{◌≡◌, ◌-◌, ◌≤◌, [], drop, length}
use Rattle.std.specs.Prelude.{get_or}
use Rattle.jdomain.specs.Domains.{has}
use Rattle.jctx.specs.Contexts.{verdict}
use Rattle.jinterned.specs.ContextStores.{items_of}
use Rattle.jinterned.proofs.making.decide_runs.Given as goal

-- what is left decides as the whole does
abbrev pub invariant-loop-i : goal.invariant-loop-i
invariant-loop-i l =
    (verdict (has l.domains) l.asked (items_of l.sets (drop l.i (get_or l.lists l.n []))) ≡ verdict (has l.domains) l.asked (items_of l.sets (get_or l.lists l.n [])))
    × (l.i ≤ length (get_or l.lists l.n []))

abbrev pub decreases-loop-i : goal.decreases-loop-i
decreases-loop-i l = length (get_or l.lists l.n []) - l.i
