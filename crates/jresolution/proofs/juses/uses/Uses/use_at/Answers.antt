use Rattle.std.proofs.Common.{◌∙◌}
use Rattle.jresolution.specs.juses.PoolTables.{pool_at}
use Rattle.jresolution.proofs.JusesProofs.EntryCaches.{use_is}
use Rattle.jresolution.proofs.juses.uses.Uses.use_at.Goals as goal

pub returns : goal.returns
returns c = λ p h. c.used.ensures p (pool_at p c.args.class) c.args.self.now.types ∙ use_is p c.args.self.now c.args.class c.index_of.result c.args.form c.kept_at-kept.result c.index_of.ensures c.kept_at-kept.ensures h
