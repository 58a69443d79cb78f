use Rattle.std.proofs.Common.{◌≡◌, take}
use Rattle.jctx.proofs.context.Context.copy.Given as goal

abbrev pub invariant-loop-item : goal.invariant-loop-item
invariant-loop-item l = l.made-inside.items.items ≡ take l.item-index l.item-items
