use Rattle.jruntime.proofs.JstateProofs.CellWrites.{reads, reads_none}
use Rattle.jruntime.proofs.jstate.shapes.cell_laws.Goals as goal

pub returns-clause-reads : goal.returns-clause-reads
returns-clause-reads c = reads

pub returns-clause-none : goal.returns-clause-none
returns-clause-none c = reads_none
