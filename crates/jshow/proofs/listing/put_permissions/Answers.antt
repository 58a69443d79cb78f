use Rattle.std.proofs.lemmas.Result.{err_from_is_err_and}
use Rattle.jshow.specs.Listings.{permission_line}
use Rattle.jshow.proofs.ItemLines.{cut_item}
use Rattle.jshow.proofs.Lines.{wrote_front}
use Rattle.jshow.proofs.listing.put_permissions.Goals as goal

pub returns-in_err-put_permission : goal.returns-in_err-put_permission
returns-in_err-put_permission g c =
    let p = err_from_is_err_and c.from_residual.result c.from_residual.ensures.1 in
    let cut = cut_item permission_line c.args.permissions.now c.loop-permission.permission-index c.permission-item.result _ _ _ c.loop-permission-test.true c.permission-item.is c.loop-permission.invariant.written c.in_err-put_permission.ensures.err in
    rw (p.1, p.2) (wrote_front g.K.Sink.out g.K.Sink.faults _ _ _ _ _ _ c.loop-permission.invariant.later cut c.in_err-put_permission.ensures)
