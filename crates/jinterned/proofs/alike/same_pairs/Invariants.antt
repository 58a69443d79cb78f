use Rattle.std.proofs.Common.{◌≡◌, drop}
use Rattle.jinterned.specs.InternedContexts.{pairwise, same_pair}
use Rattle.jinterned.proofs.alike.same_pairs.Given as goal

abbrev pub invariant-loop-i : goal.invariant-loop-i
invariant-loop-i l = pairwise same_pair (drop l.i l.a) (drop l.i l.b) ≡ pairwise same_pair l.a l.b
