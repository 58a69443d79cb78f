use Rattle.std.proofs.Common.{◌∙◌}
use Rattle.jresolution.specs.juses.PoolTables.{pool_at}
use Rattle.jresolution.proofs.JusesProofs.EntryCaches.{array_is}
use Rattle.jresolution.proofs.juses.uses.Uses.array_use_at.Goals as goal

pub returns : goal.returns
returns c = λ p h. c.array_made.ensures p (pool_at p c.args.class) c.args.self.now.types ∙ array_is p c.args.self.now c.args.class c.args.i c.kept_at-kept.result c.kept_at-kept.ensures h
