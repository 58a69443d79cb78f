use Rattle.std.proofs.Common.{ℕ, List, [], ◌∷◌, ◌++◌, ◌+◌, drop, subst, arith, ◌∙◌}
use Rattle.std.proofs.lemmas.List.{append-nil}
use Rattle.std.proofs.lemmas.Result.{err_from_is_err_and}
use Rattle.joutput.specs.jio.PartialOutput.{IsCutAt}
use Rattle.joutput.specs.jio.LineParts.{line_of}
use Rattle.joutput.proofs.JioProofs.AroundPart.{around_part, at_end}
use Rattle.joutput.proofs.jio.parts.write_line.Goals as goal

pub returns-in_err-put_part-clause-err : goal.returns-in_err-put_part-clause-err
returns-in_err-put_part-clause-err g c =
    let p = err_from_is_err_and c.from_residual.result c.from_residual.ensures.1 in
    let P : List ℕ → Type 0 = λ x. IsCutAt (g.K.Sink.out c.args.out.now) (g.K.Sink.out c.put_part.new.out) x c.in_err-put_part.field-0.0.written in
    rw (p.1, p.2) (subst P (around_part c.args.parts.now c.loop-part.part-index _ c.loop-part.invariant.so_far.0 (omega arith) c.loop-part.invariant.so_far.2) (c.in_err-put_part.ensures.err (g.K.Sink.out c.args.out.now) c.loop-part.invariant.so_far.0 (line_of (drop (c.loop-part.part-index + 1) c.args.parts.now)) c.loop-part.invariant.so_far.1))

pub returns-in_err-bytes-clause-err : goal.returns-in_err-bytes-clause-err
returns-in_err-bytes-clause-err g c =
    let p = err_from_is_err_and c.from_residual-in_err-bytes.result c.from_residual-in_err-bytes.ensures.1 in
    let P : List ℕ → Type 0 = λ x. IsCutAt (g.K.Sink.out c.args.out.now) (g.K.Sink.out c.bytes.new.out) x c.in_err-bytes.field-0.0.written in
    rw (p.1, p.2) (subst P (append-nil (c.loop-part.invariant.so_far.0 ++ 10 ∷ []) ∙ at_end c.args.parts.now c.loop-part.part-index c.loop-part.invariant.so_far.0 (omega arith) c.loop-part.invariant.so_far.2) (c.in_err-bytes.ensures.err (g.K.Sink.out c.args.out.now) c.loop-part.invariant.so_far.0 [] c.loop-part.invariant.so_far.1))
