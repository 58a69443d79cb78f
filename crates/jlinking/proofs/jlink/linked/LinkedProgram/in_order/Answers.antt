use Rattle.jlinking.proofs.JlinkProofs.PhaseOrder.{links_ordered}
use Rattle.jlinking.proofs.jlink.linked.LinkedProgram.in_order.Goals as goal

pub returns-clause-order : goal.returns-clause-order
returns-clause-order c = links_ordered c.args.self.now c.named.ensures.links
