use Rattle.std.proofs.Common.{◌≡◌, ◌+◌, ℕ, List, ◌++◌, take, drop, get_or, subst, sym, ap, ◌∙◌, append_assoc, arith}
use Rattle.std.proofs.lemmas.List.{append-nil}
use Rattle.std.proofs.lemmas.Result.{err_from_is_err_and}
use Rattle.joutput.specs.jio.TextOutput.{IsUnderWay, written, written_unit}
use Rattle.joutput.specs.jio.PartialOutput.{IsCutAt}
use Rattle.joutput.proofs.JioProofs.WrittenTexts.{written_more, written_around}
use Rattle.joutput.proofs.jio.lines.Line.text.Goals as goal

pub loop-unit-init : goal.loop-unit-init
unfolding written
loop-unit-init g c = record {
  so_far = λ start text u. let P : List ℕ → Type 0 = λ x. IsUnderWay start (g.K.Sink.out c.args.out.now) c.args.self.now x in subst P (sym (append-nil text)) u;
  room = omega arith;
  later = omega arith;
}

pub returns-in_err-unit-clause-err : goal.returns-in_err-unit-clause-err
returns-in_err-unit-clause-err g c = λ start text more u.
    let p = err_from_is_err_and c.from_residual.result c.from_residual.ensures.1 in
    let P : List ℕ → Type 0 = λ x. IsCutAt start (g.K.Sink.out c.unit.new.out) x c.in_err-unit.field-0.0.written in
    rw (p.1, p.2) (subst P (written_around text c.args.units.now more c.loop-unit.unit-index (omega arith)) (c.in_err-unit.ensures.err start (text ++ written (take c.loop-unit.unit-index c.args.units.now)) (written (drop (c.loop-unit.unit-index + 1) c.args.units.now) ++ more) (c.loop-unit.invariant.so_far start text u)))

pub loop-unit-preserved : goal.loop-unit-preserved
loop-unit-preserved g c = record {
  so_far = λ start text u.
      let P : List ℕ → Type 0 = λ x. IsUnderWay start (g.K.Sink.out c.unit.new.out) c.unit.new.self x in
      let e : text ++ written (take c.loop-unit.unit-index c.args.units.now) ++ written_unit (get_or c.args.units.now c.loop-unit.unit-index 0) ≡ text ++ written (take (c.loop-unit.unit-index + 1) c.args.units.now) = append_assoc text (written (take c.loop-unit.unit-index c.args.units.now)) (written_unit (get_or c.args.units.now c.loop-unit.unit-index 0)) ∙ ap (λ (x : List ℕ). text ++ x) (sym (written_more c.args.units.now c.loop-unit.unit-index (omega arith))) in
      subst P e (c.in_ok-unit.ensures.ok start (text ++ written (take c.loop-unit.unit-index c.args.units.now)) (c.loop-unit.invariant.so_far start text u));
  room = omega (arith, c.in_ok-unit.ensures.room, c.loop-unit.invariant.room);
  later = omega (arith, c.unit.ensures.cause.later, c.loop-unit.invariant.later);
}
