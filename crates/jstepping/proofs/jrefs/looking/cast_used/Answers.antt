use Rattle.std.proofs.Common.{ap, ◌∙◌}
use Rattle.jresolution.specs.juses.PoolTables.{pool_at}
use Rattle.jready.specs.MeaningParts.{only_cast}
use Rattle.jstepping.proofs.jrefs.looking.cast_used.Goals as goal

pub returns : goal.returns
returns c =
    let p = c.args.x.now.ancestors.now in
    c.cast_in.ensures p (pool_at p c.args.class) c.uses_of.result.now.types ∙ ap only_cast (c.use_at-found.ensures p c.uses_of.ensures)
