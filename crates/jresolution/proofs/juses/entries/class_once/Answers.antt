use Rattle.std.proofs.Common.{Some, sym}
use Rattle.jparts.specs.declared.jpool.entry.Entry.TheVariants as entries
use Rattle.jresolution.specs.juses.PoolTables.{KeptIs}
use Rattle.jresolution.proofs.JusesProofs.CacheInvariants.{all_more}
use Rattle.jresolution.proofs.juses.entries.class_once.Goals as goal

pub returns-in-Some-clause-value : goal.returns-in-Some-clause-value
returns-in-Some-clause-value c = c.requires c.args.name c.in-Some.one (sym c.in-Some.ensures)

pub returns-clause-kept : goal.returns-clause-kept
returns-clause-kept c =
    all_more (λ i k. KeptIs c.args.p.now c.args.texts.pool.now c.args.texts.types.now k (Some (entries.Class i)))
    c.args.name c.in_ok-one.one c.args.classes.now c.insert.new.self c.requires c.in_ok-one.ensures c.in_ok-insert.ensures.updates
