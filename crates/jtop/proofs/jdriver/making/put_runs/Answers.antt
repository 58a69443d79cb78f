use Rattle.std.specs.Prelude.{codes}
use Rattle.std.proofs.Common.{arith}
use Rattle.std.proofs.lemmas.Result.{err_from_is_err_and}
use Rattle.jground.proofs.JbaseProofs.Cuts.{cut_more}
use Rattle.jshow.proofs.Lines.{wrote_both, wrote_front}
use Rattle.joutput.specs.jtally.LineTallies.{tally_line}
use Rattle.jtop.proofs.jdriver.making.put_runs.Goals as goal

pub returns-in_err-put_run : goal.returns-in_err-put_run
returns-in_err-put_run g c =
    let p = err_from_is_err_and c.from_residual.result c.from_residual.ensures.1 in
    rw (p.1, p.2) (wrote_front g.K.Sink.out g.K.Sink.faults _ _ _ _ _ _ (omega arith) (cut_more _ _ _ (tally_line (codes "pass") c.args.second) c.in_err-put_run.ensures.err) c.in_err-put_run.ensures)

pub returns : goal.returns
returns g c = wrote_both g.K.Sink.out g.K.Sink.faults _ _ _ _ _ _ _ c.in_ok-put_run.ensures c.put_run-2.ensures
