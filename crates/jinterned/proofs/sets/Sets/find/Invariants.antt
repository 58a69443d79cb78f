use Rattle.jinterned.specs.ContextDigests.{digest_limits}
use Rattle.jinterned.proofs.DigestLookup.{Gone}
use Rattle.jinterned.proofs.sets.Sets.find.Given as goal

abbrev pub invariant-loop-at : goal.invariant-loop-at
invariant-loop-at l = Gone digest_limits l.self-inside.sets.items l.limits l.at

abbrev pub decreases-loop-at : goal.decreases-loop-at
decreases-loop-at l = l.at
