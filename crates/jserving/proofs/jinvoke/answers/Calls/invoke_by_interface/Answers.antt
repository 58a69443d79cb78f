use Rattle.std.proofs.Common.{ap}
use Rattle.jresolution.specs.declared.jprogram.member.MethodId.{MethodId}
use Rattle.jserving.proofs.JinvokeProofs.InvokeOutcomes.{face_invoked}
use Rattle.jserving.proofs.jinvoke.answers.Calls.invoke_by_interface.Goals as goal

pub returns-clause-call : goal.returns-clause-call
returns-clause-call g c =
    face_invoked c.args.self.now c.args.pool c.args.marks.now c.args.heap.now c.args.count c.args.room.depth c.args.frames.now c.call_by_interface.new.frames
    c.answer_on-answer.result c.found_by-what.result c.found_by-what.ensures
    c.heap_laws.ensures.each c.method-class.result.class c.call_by_interface.result c.receiver_at-on.result (ap (λ (m : MethodId). m.class)
    c.method-class.ensures)
    c.answer_on-answer.ensures.answer c.receiver_at-on.ensures c.call_by_interface.ensures.row
