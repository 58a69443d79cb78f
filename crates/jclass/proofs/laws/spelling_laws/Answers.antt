use Rattle.std.proofs.Common.{◌∙◌, sym}
use Rattle.jclass.proofs.ClassLaws.{found_is, one_record, read_is}
use Rattle.jclass.proofs.laws.spelling_laws.Goals as goal

pub returns-clause-one_spelling : goal.returns-clause-one_spelling
returns-clause-one_spelling c = λ a b class s t. s.1 ∙ sym t.1

pub returns-clause-one_class : goal.returns-clause-one_class
returns-clause-one_class c = λ a class other s t. one_record a class other s t

pub returns-clause-no_fault : goal.returns-clause-no_fault
returns-clause-no_fault c = λ bytes class fits e. found_is bytes class fits e

pub returns-clause-else_fault : goal.returns-clause-else_fault
returns-clause-else_fault c = λ bytes class s. read_is bytes class s
