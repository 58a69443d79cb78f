use Rattle.std.proofs.lemmas.Result.{err_from_is_err_and}
use Rattle.jruntime.proofs.JrunProofs.Lines.{cut_item}
use Rattle.jruntime.proofs.jrun.writing.put_events.Goals as goal

pub returns-in_err-put_event-clause-err : goal.returns-in_err-put_event-clause-err
returns-in_err-put_event-clause-err g c =
    let p = err_from_is_err_and c.from_residual.result c.from_residual.ensures.1 in
    rw p.1 (cut_item c.args.events.now c.loop-event.event-index c.event-item.result _ _ _ c.loop-event-test.true c.event-item.is c.loop-event.invariant.written c.in_err-put_event.ensures.err)
