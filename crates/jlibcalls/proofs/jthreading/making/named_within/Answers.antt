use Rattle.std.proofs.Common.{◌∙◌, Some, ap, arith}
use Rattle.jlibcalls.proofs.JthreadingProofs.ThreadCreation.{may_less}
use Rattle.jlibcalls.proofs.JthreadingProofs.Operands.{given_within, within_few, within_other}
use Rattle.jlibcalls.proofs.JthreadingProofs.ThreadOutcomes.{few_are}
use Rattle.jlibcalls.proofs.jthreading.making.named_within.Goals as goal

pub returns-then-count-ne3 : goal.returns-then-count-ne3
returns-then-count-ne3 g c f frames =
    within_few f c.args.heap.now c.args.count (few_are c.args.count c.args.guests.now f c.requires.may frames) c.if-count-ne3.true

pub operand_at-requires : goal.operand_at-requires
operand_at-requires g c = may_less c.args.count 1 c.args.guests.now (omega (arith, c.if-count-ne3.false)) c.requires.may

pub returns-in_default : goal.returns-in_default
returns-in_default g c f frames =
    within_other f c.args.heap.now c.args.count c.operand_at.result c.if-count-ne3.false (c.operand_at.ensures f frames) c.in_default.not-Ctx

pub returns : goal.returns
returns g c f frames =
    given_within f c.args.heap.now c.args.count c.in-Ctx.context c.in_ok-begun.begun c.if-count-ne3.false (c.operand_at.ensures f frames ∙ ap Some c.in-Ctx.is)
    (c.in_ok-begun.ensures f frames)
