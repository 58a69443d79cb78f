use Rattle.jverify.specs.CheckedMethods.{program_of}
use Rattle.jresolution.specs.juses.PoolTables.{pool_at}
use Rattle.jtyping.specs.jrule.InternedFrames.{seen_here}
use Rattle.jverify.specs.NewInstructions.{made_at}
use Rattle.jverify.proofs.PlaceRules.{counted, ruled}
use Rattle.jverify.proofs.walk.Checking.ruled.Goals as goal

pub returns-clause-count : goal.returns-clause-count
returns-clause-count c =
    counted (program_of c.args.self.now) (seen_here (program_of c.args.self.now) (made_at c.args.self.now.news.now) c.here-here.result) (pool_at (program_of c.args.self.now) c.here-here.result.class) c.form_of-form.result c.args.f c.in_ok-behind.behind
    c.args.self.now.declared.now.most c.in_ok-behind.ensures c.requires.count

pub returns-clause-seen : goal.returns-clause-seen
returns-clause-seen c =
    ruled c.args.self.now c.args.o.now c.here-here.result c.args.f c.form_of-form.result c.in_ok-behind.behind c.requires.checking c.here-here.ensures c.form_of-form.ensures c.in_ok-behind.ensures
