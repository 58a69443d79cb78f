use Rattle.std.proofs.Common.{◌≡◌, ◌++◌, ◌-◌, ◌≤◌, [], drop, length}
use Rattle.std.specs.Prelude.{get_or}
use Rattle.jinterned.specs.ContextStores.{AreNamed, items_of}
use Rattle.jinterned.specs.InternedContexts.{others}
use Rattle.jinterned.proofs.making.add_others.Given as goal

-- those that are there with those that are left are those that were there with all
abbrev pub invariant-loop-i : goal.invariant-loop-i
invariant-loop-i l =
    (items_of l.sets l.made.items ++ others l.d (items_of l.sets (drop l.i (get_or l.lists l.n [])))
    ≡ items_of l.sets l.fn.made.items ++ others l.d (items_of l.sets (get_or l.lists l.n [])))
    × AreNamed (length l.sets) l.made.items
    × (l.i ≤ length (get_or l.lists l.n []))

abbrev pub decreases-loop-i : goal.decreases-loop-i
decreases-loop-i l = length (get_or l.lists l.n []) - l.i
