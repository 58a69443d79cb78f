use Rattle.jinterned.specs.ContextDigests.{digest_pairs}
use Rattle.jinterned.proofs.DigestLookup.{Gone}
use Rattle.jinterned.proofs.store.Store.find.Given as goal

abbrev pub invariant-loop-at : goal.invariant-loop-at
invariant-loop-at l = Gone digest_pairs l.self-inside.lists l.pairs l.at

abbrev pub decreases-loop-at : goal.decreases-loop-at
decreases-loop-at l = l.at
