use Rattle.std.proofs.Common.{arith}
use Rattle.std.proofs.lemmas.Result.{err_from_is_err_and}
use Rattle.jground.proofs.JbaseProofs.Cuts.{cut_more}
use Rattle.jshow.specs.Listings.{permission_lines}
use Rattle.jshow.proofs.Lines.{wrote_both, wrote_front}
use Rattle.jshow.proofs.listing.put_domain.Goals as goal

pub returns-in_err-put_source : goal.returns-in_err-put_source
returns-in_err-put_source g c =
    let p = err_from_is_err_and c.from_residual.result c.from_residual.ensures.1 in
    rw (p.1, p.2) (wrote_front g.K.Sink.out g.K.Sink.faults _ _ _ _ _ _ (omega arith) (cut_more _ _ _ (permission_lines c.args.permissions.now) c.in_err-put_source.ensures.err) c.in_err-put_source.ensures)

pub returns : goal.returns
returns g c = wrote_both g.K.Sink.out g.K.Sink.faults _ _ _ _ _ _ _ c.in_ok-put_source.ensures c.put_permissions.ensures
