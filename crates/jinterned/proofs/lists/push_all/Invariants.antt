use Rattle.std.proofs.Common.{◌≡◌, ◌++◌, take}
use Rattle.jinterned.proofs.lists.push_all.Given as goal

abbrev pub invariant-loop-pair : goal.invariant-loop-pair
invariant-loop-pair l = l.pairs ≡ l.fn.pairs ++ take l.pair-index l.list
