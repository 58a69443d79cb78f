use Rattle.jserving.proofs.JcellsProofs.ShapePreservation.{permissions_last, rows_stay}
use Rattle.jserving.proofs.jcells.laws.alike_laws.Goals as goal

pub returns-clause-rows : goal.returns-clause-rows
returns-clause-rows g c = rows_stay

pub returns-clause-permissions : goal.returns-clause-permissions
returns-clause-permissions g c = permissions_last
