use Rattle.std.proofs.lemmas.Result.{err_from_is_err_and}
use Rattle.jshow.proofs.Lines.{wrote_cut}
use Rattle.jtop.proofs.jdriver.making.put_line.Goals as goal

pub returns-in_err-write_line : goal.returns-in_err-write_line
returns-in_err-write_line g c =
    let p = err_from_is_err_and c.from_residual.result c.from_residual.ensures.1 in
    rw (p.1, ← c.from.ensures) (wrote_cut g.K.Sink.out g.K.Sink.faults _ _ _ _ _ _ c.in_err-write_line.ensures.err c.in_err-write_line.ensures.cause)
