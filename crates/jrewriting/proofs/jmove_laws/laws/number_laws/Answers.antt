use Rattle.jrewriting.proofs.JmoveLawsProofs.InstructionNumbers.{begun, next, counted, covered, fetched}
use Rattle.jrewriting.proofs.jmove_laws.laws.number_laws.Goals as goal

pub returns-clause-begun : goal.returns-clause-begun
returns-clause-begun g begin s ks is j op e = begun begin s ks is j op e

pub returns-clause-next : goal.returns-clause-next
returns-clause-next g begin s ks is n k i nth = next begin s ks is n k i nth

pub returns-clause-counted : goal.returns-clause-counted
returns-clause-counted g begin s ks is = counted begin s ks is

pub returns-clause-fetched : goal.returns-clause-fetched
returns-clause-fetched g begin s ks is fits n j k i op nth e = fetched begin s ks is fits n j k i op nth e

pub returns-clause-covered : goal.returns-clause-covered
returns-clause-covered g begin s ks is number lt = covered begin s ks is number lt
