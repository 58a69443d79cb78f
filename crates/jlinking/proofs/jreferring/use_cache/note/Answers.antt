use Rattle.jlinking.specs.jreferring.PoolTextCache.{IsNoted}
use Rattle.jresolution.proofs.JusesProofs.CacheInvariants.{all_more}
use Rattle.jlinking.proofs.jreferring.use_cache.note.Goals as goal

pub returns : goal.returns
returns c = λ p from pool all one.
    all_more (λ i n. IsNoted p from pool n) c.number_of.result c.args.one c.args.references.now c.insert.new.self all one c.in_ok-insert.ensures.updates
