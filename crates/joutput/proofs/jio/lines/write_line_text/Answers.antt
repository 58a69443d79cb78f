use Rattle.std.proofs.Common.{ℕ, List, [], subst}
use Rattle.std.proofs.lemmas.List.{append-nil}
use Rattle.std.proofs.lemmas.Result.{err_from_is_err_and}
use Rattle.joutput.specs.jio.PartialOutput.{IsCutAt}
use Rattle.joutput.specs.jio.TextOutput.{written}
use Rattle.joutput.proofs.jio.lines.write_line_text.Goals as goal

pub returns-in_err-text-clause-err : goal.returns-in_err-text-clause-err
returns-in_err-text-clause-err g c =
    let p = err_from_is_err_and c.from_residual.result c.from_residual.ensures.1 in
    let P : List ℕ → Type 0 = λ x. IsCutAt (g.K.Sink.out c.args.out.now) (g.K.Sink.out c.text.new.out) x c.in_err-text.field-0.0.written in
    rw (p.1, p.2) (subst P (append-nil (written c.args.units.now)) (c.in_err-text.ensures.err (g.K.Sink.out c.args.out.now) [] [] (c.new-line.ensures.empty (g.K.Sink.out c.args.out.now))))

pub returns-clause-ok : goal.returns-clause-ok
returns-clause-ok g c = c.end.ensures.ok (g.K.Sink.out c.args.out.now) (written c.args.units.now) (c.in_ok-text.ensures.ok (g.K.Sink.out c.args.out.now) [] (c.new-line.ensures.empty (g.K.Sink.out c.args.out.now)))

pub returns-clause-err : goal.returns-clause-err
returns-clause-err g c = c.end.ensures.err (g.K.Sink.out c.args.out.now) (written c.args.units.now) (c.in_ok-text.ensures.ok (g.K.Sink.out c.args.out.now) [] (c.new-line.ensures.empty (g.K.Sink.out c.args.out.now)))
