use Rattle.jstepping.proofs.JstepProofs.ObjectPreservation.{never_stuck}
use Rattle.jstepping.proofs.JstepProofs.RowCompletion.{ok_settles}
use Rattle.jstepping.proofs.jstep.settling.settle.Goals as goal

pub thrown_class-requires : goal.thrown_class-requires
thrown_class-requires g c = rw c.in-Raises.is at c.requires.raised

pub settle_raised-requires-clause-stand : goal.settle_raised-requires-clause-stand
settle_raised-requires-clause-stand g c = rw c.in-Raises.is at c.requires.stand

pub returns-in-Raises-clause-row : goal.returns-in-Raises-clause-row
returns-in-Raises-clause-row g c =
    ok_settles c.args.marks.now c.args.known.now c.args.frames.now c.settle_raised.new.frames c.args.heap.now c.settle_raised.new.heap c.thrown_class.result
    c.in-Raises.class c.args.way c.settle_raised.result c.in-Raises.is c.thrown_class.ensures c.settle_raised.ensures.row

pub returns-in-Raises-clause-stuck : goal.returns-in-Raises-clause-stuck
returns-in-Raises-clause-stuck g c = never_stuck c.settle_raised.result c.in-Raises.class c.args.way c.in-Raises.is
