use Rattle.std.proofs.Common.{◌≡◌}
use Rattle.jresolution.specs.jprogram.ClassFileParts.{text}
use Rattle.jresolution.proofs.JusesProofs.CacheInvariants.{all_none}
use Rattle.jlinking.specs.jreferring.PoolTextCache.{IsNoted}
use Rattle.jlinking.specs.jreferring.ClassEntryUses.{class_use}
use Rattle.jlinking.specs.jreferring.ReferenceUses.{desc_use, owner_use}
use Rattle.jlinking.proofs.jreferring.use_cache.nothing.Goals as goal

pub returns : goal.returns
returns c = λ p from pool. record {
  classes = all_none (λ i u. u ≡ class_use p from (text pool i)) c.new-classes.result c.new-classes.ensures.empty;
  owners = all_none (λ i u. u ≡ owner_use p from (text pool i)) c.new-owners.result c.new-owners.ensures.empty;
  descs = all_none (λ i u. u ≡ desc_use p from (text pool i)) c.new-descs.result c.new-descs.ensures.empty;
  references = all_none (λ i n. IsNoted p from pool n) c.new-references.result c.new-references.ensures.empty;
}
