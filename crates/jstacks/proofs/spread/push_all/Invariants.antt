use Rattle.std.proofs.Common.{◌≡◌, ◌++◌, take}
use Rattle.std.specs.List.{flat_map}
use Rattle.jstacks.proofs.spread.push_all.Given as goal

abbrev pub invariant-loop-item : goal.invariant-loop-item
invariant-loop-item g l = l.items.items ≡ l.initial.items.items ++ flat_map g.W.Spread.spread (take l.item-index l.given)
