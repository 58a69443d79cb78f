use Rattle.std.proofs.Common.{ap, ◌∙◌}
use Rattle.jresolution.specs.juses.PoolTables.{pool_at}
use Rattle.jready.specs.MeaningParts.{only_cast}
use Rattle.jready.proofs.pooled.cast_used.Goals as goal

pub returns : goal.returns
returns c =
    let p = c.args.known.now.p.now in
    c.cast_in.ensures p (pool_at p c.args.class) c.args.known.now.uses.now.types ∙ ap only_cast (c.use_at-found.ensures p c.requires.uses)
