use Rattle.std.proofs.lemmas.Result.{err_from_is_err_and}
use Rattle.jstacks.proofs.ListFronts.{front_stays}
use Rattle.jstacks.proofs.spread.push_all.Goals as goal

pub returns-in_err-push_parts-clause-err : goal.returns-in_err-push_parts-clause-err
returns-in_err-push_parts-clause-err g c =
    let p = err_from_is_err_and c.from_residual.result c.from_residual.ensures.1 in
    rw p.1 (front_stays c.args.items.now.items c.loop-item.items.items c.push_parts.new.items.items _ c.loop-item.invariant c.in_err-push_parts.ensures.err)
