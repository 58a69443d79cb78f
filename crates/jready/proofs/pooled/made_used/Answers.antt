use Rattle.std.proofs.Common.{ap, ◌∙◌}
use Rattle.jresolution.specs.juses.PoolTables.{pool_at}
use Rattle.jready.specs.MeaningParts.{only_made}
use Rattle.jready.proofs.pooled.made_used.Goals as goal

pub returns : goal.returns
returns c =
    let p = c.args.known.now.p.now in
    c.made_in.ensures p (pool_at p c.args.class) c.args.known.now.uses.now.types ∙ ap only_made (c.use_at-found.ensures p c.requires.uses)
