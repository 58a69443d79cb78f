use Rattle.std.proofs.Common.{◌∙◌, ap, sym}
use Rattle.jserving.specs.jinvoke.CallQueries.{call_of, class_of}
use Rattle.jserving.specs.jinvoke.InterfaceCalls.{face_answer}
use Rattle.jserving.proofs.JinvokeProofs.InterfaceCalls.{one_object}
use Rattle.jserving.proofs.jinvoke.answers.Calls.by_interface.Goals as goal

pub returns-in-Some-clause-target : goal.returns-in-Some-clause-target
returns-in-Some-clause-target g c =
    one_object c.heap_laws.ensures.each c.args.self.now c.args.marks.now c.args.heap.now (class_of c.args.face) (call_of c.args.face) c.args.full c.args.o c.in-Some.kind
    (sym c.in-Some.ensures) c.face_answer-answer.result
    (c.face_answer-answer.ensures.answer ∙ ap (face_answer c.args.self.now (class_of c.args.face) (call_of c.args.face)) c.number_of.ensures) c.target_by.result
    c.target_by.ensures.target
