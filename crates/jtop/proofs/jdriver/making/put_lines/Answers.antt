use Rattle.std.proofs.Common.{arith}
use Rattle.std.proofs.lemmas.Result.{err_from_is_err_and}
use Rattle.jground.proofs.JbaseProofs.Cuts.{cut_more}
use Rattle.jshow.proofs.Lines.{wrote_both, wrote_front}
use Rattle.jtop.specs.jdriver.GeneratedRuns.{runs_text}
use Rattle.jtop.proofs.jdriver.making.put_lines.Goals as goal

pub returns-in_err-put_line : goal.returns-in_err-put_line
returns-in_err-put_line g c =
    let p = err_from_is_err_and c.from_residual.result c.from_residual.ensures.1 in
    rw (p.1, p.2) (wrote_front g.K.Sink.out g.K.Sink.faults _ _ _ _ _ _ (omega arith) (cut_more _ _ _ (runs_text c.args.first c.args.second) c.in_err-put_line.ensures.err) c.in_err-put_line.ensures)

pub returns : goal.returns
returns g c = wrote_both g.K.Sink.out g.K.Sink.faults _ _ _ _ _ _ _ c.in_ok-put_line.ensures c.put_runs.ensures
