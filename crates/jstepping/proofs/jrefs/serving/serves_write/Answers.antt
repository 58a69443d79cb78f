use Rattle.std.proofs.Common.{refl, false, sym, ap, subst, ◌∙◌}
use Rattle.jparts.specs.declared.jcode.names.FieldOp.TheVariants as ops
use Rattle.jresolution.specs.declared.jprogram.member.MethodId.{MethodId}
use Rattle.jresolution.specs.juses.InstructionMeanings as meanings
use Rattle.jsemantics.specs.jmachine.MachineSteps.{own_fields}
use Rattle.jruntime.specs.jstate.HeapMeanings.{store_by}
use Rattle.jrows.specs.jobjs.EntryOperands.{Serve}
use Rattle.jstepping.proofs.JrefsProofs.FieldInstructions.{names_at}
use Rattle.jstepping.proofs.JrefsProofs.OperandObjects.{write_either}
use Rattle.jstepping.proofs.jrefs.serving.serves_write.Goals as goal

pub returns-then-serves_by : goal.returns-then-serves_by
returns-then-serves_by g c f n owned holds others constants at own seen site =
    let s = store_by c.args.x.now.ancestors.now c.args.x.now.shapes.now others constants c.args.heap.now in
    write_either at own s f c.args.frames.now.newest.operands
    (subst (Serve at (λ m. false) s (meanings.Field ops.PutField f) c.args.frames.now.newest.operands) c.if-serves_by.true
    (c.serves_by.ensures f owned holds others constants at (λ m. false) seen site.world site.class refl))

pub returns : goal.returns
returns g c f n owned holds others constants at own seen site =
    let p = c.args.x.now.ancestors.now in
    c.serves_by-2.ensures f owned holds others constants at own seen site.world site.class
    (site.owns f.member ∙ ap (λ (m : MethodId). own_fields p m f.member) (sym c.method-m.ensures)
    ∙ sym (c.writes_own-own.ensures f (names_at p c.args.frames.now.newest.method c.method-m.result c.args.a f c.method-m.ensures n)))
