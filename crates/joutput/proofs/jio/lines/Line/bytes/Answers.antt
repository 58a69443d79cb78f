use Rattle.std.proofs.Common.{◌+◌, ℕ, List, ◌++◌, take, drop, subst, arith}
use Rattle.std.proofs.lemmas.Result.{err_from_is_err_and}
use Rattle.joutput.specs.jio.PartialOutput.{IsCutAt}
use Rattle.joutput.proofs.JioProofs.PartialLines.{around}
use Rattle.joutput.proofs.jio.lines.Line.bytes.Goals as goal

pub returns-in_err-byte-clause-err : goal.returns-in_err-byte-clause-err
returns-in_err-byte-clause-err g c = λ start text more u.
    let p = err_from_is_err_and c.from_residual.result c.from_residual.ensures.1 in
    let P : List ℕ → Type 0 = λ x. IsCutAt start (g.K.Sink.out c.byte.new.out) x c.in_err-byte.field-0.0.written in
    rw (p.1, p.2) (subst P (around text c.args.bytes.now more c.loop-byte.byte-index (omega arith)) (c.in_err-byte.ensures.err start (text ++ take c.loop-byte.byte-index c.args.bytes.now) (drop (c.loop-byte.byte-index + 1) c.args.bytes.now ++ more) (c.loop-byte.invariant.so_far start text u)))
