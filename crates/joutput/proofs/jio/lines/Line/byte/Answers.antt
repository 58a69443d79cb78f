use Rattle.std.proofs.Common.{◌≡◌, ℕ, ◌+◌, List, [], ◌∷◌, ◌++◌, length, take, set, sym, ap, ◌∙◌, arith}
use Rattle.std.proofs.lemmas.List.{length-take-le, length-append}
use Rattle.jground.specs.jbase.FaultCauses.{appended}
use Rattle.joutput.specs.jio.TextOutput.{LineState}
use Rattle.joutput.proofs.JioProofs.PartialLines.{piece_out, cut_here, cut_longer, buffer_full}
use Rattle.joutput.proofs.jio.lines.Line.byte.Goals as goal

pub returns-in-Ok-clause-ok : goal.returns-in-Ok-clause-ok
returns-in-Ok-clause-ok g c = λ start text u.
    let filled : c.self.inside.filled ≡ 255 = omega (arith, c.self.invariant.0) in
    let held : c.args.self.now.pending ≡ take c.self.inside.filled c.self.inside.buffer = sym (ap (λ (s : LineState). s.pending) c.self.view_is) in
    let count : c.args.self.now.written ≡ c.self.inside.written = sym (ap (λ (s : LineState). s.written) c.self.view_is) in
    let full : length c.args.self.now.pending ≡ 255 = ap length held ∙ length-take-le c.self.inside.filled c.self.inside.buffer (omega (arith, c.self.told)) ∙ filled in
    let piece : set c.self.inside.buffer c.self.inside.filled c.args.byte ≡ c.args.self.now.pending ++ c.args.byte ∷ [] = buffer_full c.self.inside.buffer c.self.inside.filled c.args.byte (omega (arith, c.self.told)) ∙ ap (λ (x : List ℕ). x ++ c.args.byte ∷ []) (sym held) in
    piece_out start (g.K.Sink.out c.args.out.now) (g.K.Sink.out c.put_all.new.out) c.args.self.now _ text c.args.byte u full (c.in-Ok.ensures.ok ∙ ap (appended (g.K.Sink.out c.args.out.now)) piece) (ap (λ (n : ℕ). let state : LineState = record { written = n + 256; pending = [] } in state) (sym count))

pub returns-in-Err-clause-err : goal.returns-in-Err-clause-err
returns-in-Err-clause-err g c = λ start text more u.
    let filled : c.self.inside.filled ≡ 255 = omega (arith, c.self.invariant.0) in
    let held : c.args.self.now.pending ≡ take c.self.inside.filled c.self.inside.buffer = sym (ap (λ (s : LineState). s.pending) c.self.view_is) in
    let count : c.args.self.now.written ≡ c.self.inside.written = sym (ap (λ (s : LineState). s.written) c.self.view_is) in
    let full : length c.args.self.now.pending ≡ 255 = ap length held ∙ length-take-le c.self.inside.filled c.self.inside.buffer (omega (arith, c.self.told)) ∙ filled in
    let piece : set c.self.inside.buffer c.self.inside.filled c.args.byte ≡ c.args.self.now.pending ++ c.args.byte ∷ [] = buffer_full c.self.inside.buffer c.self.inside.filled c.args.byte (omega (arith, c.self.told)) ∙ ap (λ (x : List ℕ). x ++ c.args.byte ∷ []) (sym held) in
    let lengths : length (set c.self.inside.buffer c.self.inside.filled c.args.byte) ≡ 256 = ap length piece ∙ length-append c.args.self.now.pending (c.args.byte ∷ []) ∙ omega (arith, full) in
    rw (← count) (cut_longer start (g.K.Sink.out c.put_all.new.out) (text ++ c.args.byte ∷ []) more _ (cut_here start (g.K.Sink.out c.args.out.now) (g.K.Sink.out c.put_all.new.out) c.args.self.now text (c.args.byte ∷ []) c.in-Err.fault.written u (c.in-Err.ensures.err.out ∙ ap (λ (x : List ℕ). appended (g.K.Sink.out c.args.out.now) (take c.in-Err.fault.written x)) piece) (omega (arith, full, lengths, c.in-Err.ensures.err.within))))
