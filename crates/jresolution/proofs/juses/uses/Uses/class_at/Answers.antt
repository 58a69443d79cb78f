use Rattle.std.proofs.Common.{◌∙◌}
use Rattle.jresolution.specs.juses.PoolTables.{pool_at}
use Rattle.jresolution.proofs.JusesProofs.EntryCaches.{class_is}
use Rattle.jresolution.proofs.juses.uses.Uses.class_at.Goals as goal

pub returns : goal.returns
returns c = λ p h. c.class_in.ensures p (pool_at p c.args.class) c.args.self.now.types ∙ class_is p c.args.self.now c.args.class c.args.i c.kept_at-kept.result c.kept_at-kept.ensures h
