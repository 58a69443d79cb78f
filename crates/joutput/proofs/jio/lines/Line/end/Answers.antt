use Rattle.std.proofs.Common.{◌≡◌, ℕ, ◌+◌, subst, List, [], length, take, sym, ap, ◌∙◌, arith}
use Rattle.std.proofs.lemmas.List.{append-nil}
use Rattle.jground.specs.jbase.FaultCauses.{appended}
use Rattle.joutput.specs.jio.TextOutput.{LineState}
use Rattle.joutput.specs.jio.PartialOutput.{IsCutAt}
use Rattle.joutput.proofs.JioProofs.PartialLines.{cut_here}
use Rattle.joutput.proofs.jio.lines.Line.end.Goals as goal

pub returns-in-Err-clause-err : goal.returns-in-Err-clause-err
returns-in-Err-clause-err g c = λ start text u.
    let held : c.args.self.pending ≡ take c.self.inside.filled c.self.inside.buffer = sym (ap (λ (s : LineState). s.pending) c.self.view_is) in
    let count : c.args.self.written ≡ c.self.inside.written = sym (ap (λ (s : LineState). s.written) c.self.view_is) in
    let P : List ℕ → Type 0 = λ x. IsCutAt start (g.K.Sink.out c.put_all.new.out) x (c.args.self.written + c.in-Err.fault.written) in
    rw (← count) (subst P (append-nil text) (cut_here start (g.K.Sink.out c.args.out.now) (g.K.Sink.out c.put_all.new.out) c.args.self text [] c.in-Err.fault.written u (c.in-Err.ensures.err.out ∙ ap (λ (x : List ℕ). appended (g.K.Sink.out c.args.out.now) (take c.in-Err.fault.written x)) (sym held ∙ sym (append-nil c.args.self.pending))) (omega (arith, c.in-Err.ensures.err.within, ap length held))))
