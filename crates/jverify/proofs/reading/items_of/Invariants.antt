use Rattle.std.proofs.Common.{◌≡◌, map, take}
use Rattle.jresolution.specs.juses.PoolTables.{pool_at}
use Rattle.jresolution.specs.juses.InternedTypes.{named}
use Rattle.jtyping.specs.jwelltyped.DeclaredFrames.{item}
use Rattle.jverify.proofs.reading.items_of.Given as goal

abbrev pub invariant-loop-t : goal.invariant-loop-t
invariant-loop-t l = map (named l.p) l.items ≡ map (item l.p (pool_at l.p l.class)) (take l.t-index l.types)
