use Rattle.std.proofs.Common.{◌≡◌, ◌++◌, length}
use Rattle.jinterned.specs.ContextStores.{AreNamed, items_of}
use Rattle.jinterned.specs.InternedContexts.{others}
use Rattle.jinterned.proofs.making.add_run.Given as goal

-- those that are there with those that are left are those that were there with all
abbrev pub invariant-loop-rest : goal.invariant-loop-rest
invariant-loop-rest l =
    (items_of l.sets l.made.items ++ others l.d (items_of l.sets l.rest) ≡ items_of l.sets l.fn.made.items ++ others l.d (items_of l.sets l.run))
    × AreNamed (length l.sets) l.made.items
    × AreNamed (length l.sets) l.rest

abbrev pub decreases-loop-rest : goal.decreases-loop-rest
decreases-loop-rest l = length l.rest
