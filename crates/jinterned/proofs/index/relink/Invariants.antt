use Rattle.std.proofs.Common.{◌≡◌}
use Rattle.std.specs.Prelude.{length, take}
use Rattle.jinterned.specs.DigestChains.{AreLinked}
use Rattle.jinterned.proofs.index.relink.Given as goal

abbrev pub invariant-loop-i : goal.invariant-loop-i
invariant-loop-i l = AreLinked (take l.i l.digests) l.heads.items (take l.i l.earlier.items) × (length l.earlier.items ≡ length l.digests)
