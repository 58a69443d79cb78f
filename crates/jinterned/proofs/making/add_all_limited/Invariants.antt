use Rattle.std.proofs.Common.{◌≡◌, [], drop, length, map}
use Rattle.std.specs.Prelude.{IfSome, get_or}
use Rattle.jctx.specs.ContextGrowth.{joined}
use Rattle.jctx.specs.ContextItems.{with_limits}
use Rattle.jinterned.specs.LimitExtension.{AreExtended}
use Rattle.jinterned.specs.PairLists.{Extends}
use Rattle.jinterned.specs.ContextStores.{AreNamed, items_of}
use Rattle.jinterned.proofs.making.add_all_limited.Given as goal

-- adding what is left gives what adding all gives
abbrev pub invariant-loop-i : goal.invariant-loop-i
invariant-loop-i l =
    (joined (items_of l.sets l.made.items) (map (with_limits l.limits) (items_of l.fn.sets (drop l.i (get_or l.lists l.n []))))
    ≡ joined (items_of l.fn.sets l.fn.made.items) (map (with_limits l.limits) (items_of l.fn.sets (get_or l.lists l.n []))))
    × AreNamed (length l.sets) l.made.items
    × Extends l.fn.sets l.sets
    × IfSome l.known (AreExtended l.sets l.limits)
