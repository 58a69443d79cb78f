use Rattle.jserving.proofs.JinvokeProofs.CallAnswers.{answered}
use Rattle.jserving.proofs.jinvoke.method_lookup.MethodLookup.answer.Goals as goal

pub returns-in-Some : goal.returns-in-Some
returns-in-Some c = answered c.args.self.now c.args.key c.call_at.result c.in-Some.call c.answer_by.result c.call_at.ensures c.in-Some.is c.answer_by.ensures
