use Rattle.jresolution.specs.juses.PoolTables.{pool_at}
use Rattle.jverify.proofs.NewSites.{made_there}
use Rattle.jverify.proofs.news.news_of.Goals as goal

pub returns : goal.returns
returns c = made_there c.args.p.now (pool_at c.args.p.now c.args.class) (record { ops = c.args.ops.now; made = c.in_ok-all_made.field-0 }) c.in_ok-all_made.ensures
