use Rattle.std.proofs.Common.{◌≡◌, List, ℕ, OnOk, IfErr, codes, refl, ap, subst, arith}
use Rattle.jground.specs.jbase.FaultCauses.{appended}
use Rattle.joutput.specs.jio.PartialOutput.{IsCutAt}
use Rattle.jperm.specs.PermissionTexts.{text_of}
use Rattle.std.specs.Prelude.{decimal}
use Rattle.joutput.proofs.JtraceProofs.CheckLineParts.{deny_fits, deny_line}
use Rattle.joutput.proofs.jtrace.lines.write_deny.Goals as goal

pub write_line-requires : goal.write_line-requires
write_line-requires g c = deny_fits c.check_parts-parts.result _ _ _ _ c.check_parts-parts.ensures.size c.check_parts-parts.ensures.room refl refl (omega arith) c.requires

pub returns-clause-ok : goal.returns-clause-ok
returns-clause-ok g c =
    subst (λ (x : List ℕ). OnOk c.write_line.result (g.K.Sink.out c.write_line.new.out ≡ appended (g.K.Sink.out c.args.out.now) x))
    (deny_line c.check_parts-parts.result _ _ (codes "deny ") c.args.thread (text_of c.args.asked.now) c.args.domain c.check_parts-parts.ensures.size c.check_parts-parts.ensures.bytes refl (ap decimal c.from-domain.ensures))
    c.write_line.ensures.ok

pub returns-clause-err : goal.returns-clause-err
returns-clause-err g c =
    subst (λ (x : List ℕ). IfErr c.write_line.result (λ e. IsCutAt (g.K.Sink.out c.args.out.now) (g.K.Sink.out c.write_line.new.out) x e.written))
    (deny_line c.check_parts-parts.result _ _ (codes "deny ") c.args.thread (text_of c.args.asked.now) c.args.domain c.check_parts-parts.ensures.size c.check_parts-parts.ensures.bytes refl (ap decimal c.from-domain.ensures))
    c.write_line.ensures.err
