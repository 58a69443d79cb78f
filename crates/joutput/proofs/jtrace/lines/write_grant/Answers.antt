use Rattle.std.proofs.Common.{◌≡◌, ◌∙◌, List, ℕ, OnOk, IfErr, codes, ap, subst, arith}
use Rattle.jground.specs.jbase.FaultCauses.{appended}
use Rattle.joutput.specs.jio.PartialOutput.{IsCutAt}
use Rattle.jperm.specs.PermissionTexts.{text_of}
use Rattle.joutput.specs.jtrace.TraceLines.{texts, room}
use Rattle.joutput.proofs.JtraceProofs.CheckLineParts.{grant_line, room_is}
use Rattle.joutput.proofs.jtrace.lines.write_grant.Goals as goal

pub write_line-requires : goal.write_line-requires
write_line-requires g c = omega (arith, room_is c.split_at.result.0.now, ap room c.split_at.ensures.front, c.check_parts-parts.ensures.room, c.requires)

pub returns-clause-ok : goal.returns-clause-ok
returns-clause-ok g c =
    let e = grant_line c.split_at.result.0.now (codes "grant ") c.args.thread (text_of c.args.asked.now) (ap texts c.split_at.ensures.front ∙ c.check_parts-parts.ensures.bytes) in
    subst (λ (x : List ℕ). OnOk c.write_line.result (g.K.Sink.out c.write_line.new.out ≡ appended (g.K.Sink.out c.args.out.now) x)) e c.write_line.ensures.ok

pub returns-clause-err : goal.returns-clause-err
returns-clause-err g c =
    let e = grant_line c.split_at.result.0.now (codes "grant ") c.args.thread (text_of c.args.asked.now) (ap texts c.split_at.ensures.front ∙ c.check_parts-parts.ensures.bytes) in
    subst (λ (x : List ℕ). IfErr c.write_line.result (λ e. IsCutAt (g.K.Sink.out c.args.out.now) (g.K.Sink.out c.write_line.new.out) x e.written)) e c.write_line.ensures.err
