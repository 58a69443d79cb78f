use Rattle.jshow.proofs.Lines.{cut_line}
use Rattle.jtop.proofs.jdriver.showing.put_rewritten.Goals as goal

pub returns-in-Err-clause-answer : goal.returns-in-Err-clause-answer
returns-in-Err-clause-answer g c = λ files. cut_line _ _ _ c.in-Err.field-0.written c.in-Err.ensures.err
