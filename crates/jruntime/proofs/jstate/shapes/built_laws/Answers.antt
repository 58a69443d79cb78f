use Rattle.jruntime.proofs.JstateProofs.BuilderPieces.{made_stays, written_stays}
use Rattle.jruntime.proofs.jstate.shapes.built_laws.Goals as goal

pub returns-clause-made : goal.returns-clause-made
returns-clause-made c = made_stays

pub returns-clause-written : goal.returns-clause-written
returns-clause-written c = written_stays
