use Rattle.jvalues.proofs.JopsProofs.OperationKinds as by_kinds
use Rattle.jvalues.proofs.jops.laws.kind_laws.Goals as goal

pub returns-clause-two : goal.returns-clause-two
returns-clause-two g c = by_kinds.two_there _

pub returns-clause-two_gives : goal.returns-clause-two_gives
returns-clause-two_gives g c = by_kinds.two_gives _

pub returns-clause-one : goal.returns-clause-one
returns-clause-one g c = by_kinds.one_there _

pub returns-clause-one_gives : goal.returns-clause-one_gives
returns-clause-one_gives g c = by_kinds.one_gives _

pub returns-clause-division : goal.returns-clause-division
returns-clause-division g c = by_kinds.division_there _

pub returns-clause-division_gives : goal.returns-clause-division_gives
returns-clause-division_gives g c = by_kinds.division_gives _

pub returns-clause-test : goal.returns-clause-test
returns-clause-test g c = by_kinds.test_there _
