use Rattle.std.proofs.Common.{◌≡◌, ◌+◌, ◌-◌, [], drop, length}
use Rattle.std.specs.Prelude.{get_or}
use Rattle.jinterned.specs.InternedContexts.{pairwise, same_pair}
use Rattle.jinterned.proofs.alike.holds_at.Given as goal

abbrev pub invariant-loop-i : goal.invariant-loop-i
invariant-loop-i l =
    (pairwise same_pair (drop l.i (get_or l.lists l.n [])) l.rest ≡ pairwise same_pair (get_or l.lists l.n []) l.pairs)
    × (l.i + length l.rest ≡ length (get_or l.lists l.n []))

abbrev pub decreases-loop-i : goal.decreases-loop-i
decreases-loop-i l = length (get_or l.lists l.n []) - l.i
