use Rattle.std.proofs.lemmas.Result.{err_from_is_err_and}
use Rattle.jshow.proofs.Lines.{wrote_cut}
use Rattle.jtop.proofs.jdriver.making.put_run.Goals as goal

pub returns-in_err-put_tally : goal.returns-in_err-put_tally
returns-in_err-put_tally g c =
    let p = err_from_is_err_and c.from_residual.result c.from_residual.ensures.1 in
    rw p.1 (wrote_cut g.K.Sink.out g.K.Sink.faults _ _ _ _ _ _ c.in_err-put_tally.ensures.err c.in_err-put_tally.ensures.cause)
