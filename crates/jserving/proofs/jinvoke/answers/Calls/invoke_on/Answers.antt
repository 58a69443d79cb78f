use Rattle.std.proofs.Common.{ap}
use Rattle.jresolution.specs.declared.jprogram.member.MethodId.{MethodId}
use Rattle.jserving.proofs.JinvokeProofs.InvokeOutcomes.{on_invoked}
use Rattle.jserving.proofs.jinvoke.answers.Calls.invoke_on.Goals as goal

pub returns-clause-call : goal.returns-clause-call
returns-clause-call g c =
    on_invoked c.args.self.now c.args.pool c.args.marks.now c.args.heap.now c.args.count c.args.room.depth c.args.frames.now c.call_on.new.frames
    c.answer_on-answer.result c.found_by-what.result c.found_by-what.ensures
    c.args.by c.method-class.result.class c.call_on.result c.receiver_at-on.result (ap (λ (m : MethodId). m.class) c.method-class.ensures)
    c.requires.by c.answer_on-answer.ensures.answer c.receiver_at-on.ensures c.call_on.ensures.row
