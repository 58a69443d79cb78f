use Rattle.jrewriting.proofs.JrewriteProofs.HierarchyPhases.{extending_stays, names_stay}
use Rattle.jrewriting.proofs.JrewriteProofs.PlainPrograms.{is_plain}
use Rattle.jrewriting.proofs.jrewrite.laws.standing_laws.Goals as goal

pub returns-clause-names : goal.returns-clause-names
returns-clause-names g p is = names_stay p (is_plain p is)

pub returns-clause-supers : goal.returns-clause-supers
returns-clause-supers g p is = extending_stays p (is_plain p is)
