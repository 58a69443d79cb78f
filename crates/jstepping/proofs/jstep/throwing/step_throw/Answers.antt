use Rattle.std.proofs.Common.{◌∙◌, subst, sym}
use Rattle.jresolution.specs.jprogram.ProgramClasses.{Program}
use Rattle.jstepping.proofs.JstepProofs.InstructionSteps.{throw_no_ref, throw_null, throw_object, throw_unserved}
use Rattle.jstepping.specs.jstep.HeapOperands.{ServesThrown}
use Rattle.jstepping.proofs.jstep.throwing.step_throw.Goals as goal

pub returns-then-not-serves-clause-row : goal.returns-then-not-serves-clause-row
returns-then-not-serves-clause-row g c =
    let P : Program → Type 0 = λ p. ServesThrown p c.args.fixed.now.shapes.now c.args.counts c.args.heap.now c.args.frames.now.newest.operands c.serves.result in
    throw_unserved c.behind_laws.ensures c.args.known.now c.args.fixed.now c.args.counts c.args.frames.now c.args.heap.now c.serves.result
    c.if-not-serves.true (subst P c.requires.fixed.ancestors c.serves.ensures)

pub returns-in_default-clause-row : goal.returns-in_default-clause-row
returns-in_default-clause-row g c =
    throw_no_ref c.behind_laws.ensures c.args.known.now c.args.fixed.now c.args.counts c.args.frames.now c.args.heap.now c.newest_ref.result
    c.in_default.is c.newest_ref.ensures

pub returns-then-n-eq0-clause-row : goal.returns-then-n-eq0-clause-row
returns-then-n-eq0-clause-row g c =
    let P : Program → Type 0 = λ p. ServesThrown p c.args.fixed.now.shapes.now c.args.counts c.args.heap.now c.args.frames.now.newest.operands c.serves.result in
    throw_null c.behind_laws.ensures c.args.known.now c.args.fixed.now c.args.counts c.args.frames.now c.args.heap.now c.serves.result
    c.if-not-serves.false (subst P c.requires.fixed.ancestors c.serves.ensures) c.settle_raised.result c.in-Some.n c.settle_raised.new.frames
    c.settle_raised.new.heap (sym c.in-Some.is ∙ c.newest_ref.ensures) c.if-n-eq0.true c.settle_raised.ensures.quiet
    c.settle_raised.ensures.row

pub returns-clause-row : goal.returns-clause-row
returns-clause-row g c =
    let P : Program → Type 0 = λ p. ServesThrown p c.args.fixed.now.shapes.now c.args.counts c.args.heap.now c.args.frames.now.newest.operands c.serves.result in
    throw_object c.behind_laws.ensures c.args.known.now c.args.fixed.now c.args.counts c.args.frames.now c.args.heap.now c.serves.result
    c.if-not-serves.false (subst P c.requires.fixed.ancestors c.serves.ensures) c.heap_laws.ensures.each c.array_law.ensures c.settle_thrown.result
    c.in-Some.n c.settle_thrown.new.frames (sym c.in-Some.is ∙ c.newest_ref.ensures) c.if-n-eq0.false c.settle_thrown.ensures.quiet
    c.settle_thrown.ensures.row
