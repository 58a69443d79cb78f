use Rattle.std.proofs.Common.{◌≡◌, drop}
use Rattle.jctx.specs.ContextGrowth.{hidden}
use Rattle.jinterned.specs.ContextStores.{item_of, items_of}
use Rattle.jinterned.proofs.making.hides.Given as goal

abbrev pub invariant-loop-earlier : goal.invariant-loop-earlier
invariant-loop-earlier l = hidden (items_of l.sets (drop l.earlier-index l.made)) (item_of l.sets l.pair) ≡ hidden (items_of l.sets l.made) (item_of l.sets l.pair)
