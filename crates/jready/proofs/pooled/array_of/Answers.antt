use Rattle.jresolution.specs.juses.PoolTables.{pool_at}
use Rattle.jready.specs.DecodedInstructions.{meant}
use Rattle.jready.proofs.EntryMeanings.{array_nothing}
use Rattle.jready.proofs.InstructionContents.{array_made_so}
use Rattle.jready.proofs.pooled.array_of.Goals as goal

pub returns-in_default-clause-means : goal.returns-in_default-clause-means
unfolding meant
returns-in_default-clause-means c =
    let p = c.args.known.now.p.now in
    array_nothing p (pool_at p c.args.class) c.args.pool c.in_default.ensures

pub returns-clause-exact : goal.returns-clause-exact
returns-clause-exact c =
    let p = c.args.known.now.p.now in
    array_made_so p (pool_at p c.args.class) c.args.pool c.array_number.new.tables c.in-Some.t c.in_ok-array.array c.in-Some.ensures
    c.in_ok-array.ensures.there
