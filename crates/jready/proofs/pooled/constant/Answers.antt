use Rattle.std.proofs.Common.{ap, ◌∙◌}
use Rattle.std.specs.Prelude.{option_map}
use Rattle.jresolution.specs.juses.IndexedInstructions.{Used}
use Rattle.jresolution.specs.juses.PoolTables.{pool_at}
use Rattle.jready.specs.DecodedInstructions.{meant}
use Rattle.jready.proofs.pooled.constant.Goals as goal

pub returns-clause-means : goal.returns-clause-means
unfolding meant
returns-clause-means c =
    let p = c.args.known.now.p.now in
    c.in_ok-push.ensures.means p (pool_at p c.args.class) ∙ ap (option_map Used) (c.in-Some.ensures ∙ c.requires.pushes)
