use Rattle.std.proofs.Common.{sym, ◌∙◌}
use Rattle.jground.specs.declared.jformat.error.Fault.{Fault}
use Rattle.jparts.specs.declared.jcode.fault.CodeFault.{CodeFault}
use Rattle.jground.proofs.JformatProofs.ReadingSteps.{ok_is}
use Rattle.jparts.proofs.JcodeProofs.CodeLaws.{code_law}
use Rattle.jparts.proofs.JcodeProofs.Places.{read_is, fit_rises}
use Rattle.jparts.proofs.jcode.laws.code_laws.Goals as goal

pub returns-clause-one_reading : goal.returns-clause-one_reading
returns-clause-one_reading g bytes ps qs p q = ok_is (Fault CodeFault) ps qs (sym (read_is bytes ps p.0 p.1) ∙ read_is bytes qs q.0 q.1)

pub returns-clause-one_spelling : goal.returns-clause-one_spelling
returns-clause-one_spelling g bytes others ps p q = p.1 ∙ sym q.1

pub returns-clause-no_fault : goal.returns-clause-no_fault
returns-clause-no_fault g bytes ps fits e = code_law.takes bytes ps fits e

pub returns-clause-else_fault : goal.returns-clause-else_fault
returns-clause-else_fault g bytes ps p = read_is bytes ps p.0 p.1

pub returns-clause-rises : goal.returns-clause-rises
returns-clause-rises g bytes ps p = fit_rises ps p.0
