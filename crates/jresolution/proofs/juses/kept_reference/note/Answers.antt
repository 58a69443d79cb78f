use Rattle.jresolution.specs.juses.EntryTextCache.{IsNoted}
use Rattle.jresolution.proofs.JusesProofs.CacheInvariants.{all_more}
use Rattle.jresolution.proofs.juses.kept_reference.note.Goals as goal

pub returns : goal.returns
returns c = λ p pool types all one.
    all_more (λ i n. IsNoted p pool types n) c.number_of.result c.args.one c.args.references.now c.insert.new.self all one c.in_ok-insert.ensures.updates
