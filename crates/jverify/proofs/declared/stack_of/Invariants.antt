use Rattle.std.proofs.Common.{◌≡◌, reverse, take}
use Rattle.jverify.proofs.declared.stack_of.Given as goal

abbrev pub invariant-loop-item : goal.invariant-loop-item
invariant-loop-item l = l.stack ≡ reverse (take l.item-index l.items)
