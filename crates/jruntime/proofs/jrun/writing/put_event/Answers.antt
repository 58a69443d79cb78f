use Rattle.std.proofs.lemmas.Result.{err_from_is_err_and}
use Rattle.jground.proofs.JbaseProofs.Cuts.{cut_at}
use Rattle.jruntime.proofs.jrun.writing.put_event.Goals as goal

pub returns-in_err-write_event-clause-err : goal.returns-in_err-write_event-clause-err
returns-in_err-write_event-clause-err g c =
    let p = err_from_is_err_and c.from_residual.result c.from_residual.ensures.1 in
    rw p.1 (cut_at _ _ _ _ c.in_err-write_event.ensures.err.out)
