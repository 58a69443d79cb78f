use Rattle.std.proofs.lemmas.Result.{err_from_is_err_and}
use Rattle.jparts.specs.declared.jpool.entry.Entry.TheVariants.{Utf8}
use Rattle.jmove.specs.PoolAdditions.{with_text}
use Rattle.jmove.proofs.PoolGrowth.{no_memory, entry_grows}
use Rattle.jmove.proofs.ReferenceAdditions.{text_there}
use Rattle.jmove.proofs.adding.put_text.Goals as goal

pub returns-in_err-e-clause-value : goal.returns-in_err-e-clause-value
returns-in_err-e-clause-value c =
    let p = err_from_is_err_and c.from_residual.result c.from_residual.ensures.1 in
    rw (p.1, p.2) (no_memory (with_text c.args.text.now) c.args.pool.now (entry_grows (Utf8 c.args.text.now)))

pub returns-clause-there : goal.returns-clause-there
returns-clause-there c = text_there c.put.result c.put.new.pool c.in_ok-e.e c.args.text.now c.in_ok-e.ensures c.put.ensures.there
