use Rattle.std.proofs.Common.{ap}
use Rattle.jresolution.specs.declared.jprogram.member.MethodId.{MethodId}
use Rattle.jserving.proofs.JinvokeProofs.InvokeOutcomes.{static_invoked}
use Rattle.jserving.proofs.jinvoke.answers.Calls.invoke_static.Goals as goal

pub returns-clause-call : goal.returns-clause-call
returns-clause-call g c =
    static_invoked c.args.self.now c.args.pool c.args.marks.now c.args.heap.now c.args.count c.args.room.depth c.args.frames.now c.call_static.new.frames
    c.answer-answer.result c.found_by-what.result c.found_by-what.ensures
    c.method-class.result.class c.call_static.result (ap (λ (m : MethodId). m.class) c.method-class.ensures)
    c.answer-answer.ensures.answer c.call_static.ensures.row
