use Rattle.jlinking.proofs.JlinkProofs.PhaseOrder.{links_ordered}
use Rattle.jlinking.proofs.jlink.linked.LinkedProgram.has_interface.Goals as goal

pub implements-requires-clause-order : goal.implements-requires-clause-order
implements-requires-clause-order c = links_ordered c.self.inside.program c.self.invariant.0
