use Rattle.std.proofs.Common.{◌≡◌, [], drop, length}
use Rattle.std.specs.Prelude.{get_or}
use Rattle.jctx.specs.ContextGrowth.{joined}
use Rattle.jinterned.specs.ContextStores.{AreNamed, items_of}
use Rattle.jinterned.proofs.making.add_all.Given as goal

-- adding what is left gives what adding all gives
abbrev pub invariant-loop-i : goal.invariant-loop-i
invariant-loop-i l =
    (joined (items_of l.sets l.made.items) (items_of l.sets (drop l.i (get_or l.lists l.n [])))
    ≡ joined (items_of l.sets l.fn.made.items) (items_of l.sets (get_or l.lists l.n [])))
    × AreNamed (length l.sets) l.made.items
