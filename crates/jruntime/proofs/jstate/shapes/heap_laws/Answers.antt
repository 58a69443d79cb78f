use Rattle.jruntime.proofs.JstateProofs.HeapAbstraction.{makes, seen_at}
use Rattle.jruntime.proofs.JstateProofs.CellWrites.{writes, writes_field, writes_item, writes_static}
use Rattle.jruntime.proofs.jstate.shapes.heap_laws.Goals as goal

pub returns-clause-each : goal.returns-clause-each
returns-clause-each c = seen_at

pub returns-clause-makes : goal.returns-clause-makes
returns-clause-makes c = makes

pub returns-clause-writes : goal.returns-clause-writes
returns-clause-writes c = writes

pub returns-clause-field : goal.returns-clause-field
returns-clause-field c = writes_field

pub returns-clause-item : goal.returns-clause-item
returns-clause-item c = writes_item

pub returns-clause-statics : goal.returns-clause-statics
returns-clause-statics c = writes_static
