use Rattle.jmoved_laws.proofs.names.laws.begin_law.Goals as goal
use Rattle.jrewriting.proofs.JrewriteProofs.MemberPhase.{all_moving}
use Rattle.jrewriting.proofs.JrewriteProofs.PlainPrograms.{is_plain}
use Rattle.jmoved_laws.proofs.NamesProofs.Mains.{main_same}
use Rattle.jmoved_laws.proofs.NamesProofs.NewClasses.{makes_same}
use Rattle.jmoved_laws.proofs.NamesProofs.EntryMethods.{domain_same, main_coded, own_same}

pub returns-clause-domains : goal.returns-clause-domains
returns-clause-domains g = domain_same

pub returns-clause-own : goal.returns-clause-own
returns-clause-own g = own_same

pub returns-clause-makes : goal.returns-clause-makes
returns-clause-makes g p linked = makes_same p linked

pub returns-clause-main : goal.returns-clause-main
returns-clause-main g p linked well few = main_same p (is_plain p linked) (all_moving p linked well few)

pub returns-clause-coded : goal.returns-clause-coded
returns-clause-coded g = main_coded
