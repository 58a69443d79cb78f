use Rattle.std.proofs.Common.{◌≡◌, ◌++◌, take}
use Rattle.std.specs.List.{flat_map}
use Rattle.jground.proofs.jformat.write.put_each.Given as goal

abbrev pub invariant-loop-item : goal.invariant-loop-item
invariant-loop-item g l = l.out ≡ l.fn.out ++ flat_map (g.W.Writer.spells l.writer) (take l.item-index l.items)
