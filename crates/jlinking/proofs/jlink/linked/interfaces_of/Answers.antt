use Rattle.jlinking.proofs.JlinkProofs.PhaseOrder.{ordered}
use Rattle.jlinking.proofs.jlink.linked.interfaces_of.Goals as goal

pub of-requires : goal.of-requires
of-requires c = ordered c.args.program.now c.requires
