use Rattle.std.proofs.lemmas.Result.{err_from_is_err_and}
use Rattle.jparts.proofs.JpoolProofs.PoolLaws.{shape_stops}
use Rattle.jparts.proofs.jpool.slots.entries_of.Goals as goal

pub returns-in_err-entries : goal.returns-in_err-entries
returns-in_err-entries c =
    let p = err_from_is_err_and c.from_residual-in_err-entries.result c.from_residual-in_err-entries.ensures.1 in
    rw (p.1, p.2) (shape_stops c.args.bytes.now c.in_ok-count.rest.now c.in_ok-count.count c.from.result c.in_err-entries.field-0.0 c.in_ok-count.ensures c.in_err-entries.ensures c.from.ensures)
