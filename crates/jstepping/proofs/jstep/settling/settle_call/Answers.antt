use Rattle.jstepping.proofs.JstepProofs.RowCompletion.{call_begun, call_runs, call_stuck, ok_call}
use Rattle.jstepping.proofs.jstep.settling.settle_call.Goals as goal

pub thrown_class-requires : goal.thrown_class-requires
thrown_class-requires g c = rw c.in-Raises.is at c.requires.left

pub settle_raised-requires-clause-stand : goal.settle_raised-requires-clause-stand
settle_raised-requires-clause-stand g c = rw c.in-Raises.is at c.requires.stand

pub returns-in-Begun-clause-row : goal.returns-in-Begun-clause-row
returns-in-Begun-clause-row g c = rw c.in-Begun.is (call_begun c.args.marks.now c.args.known.now c.args.frames.now c.args.heap.now c.args.count)

pub returns-in-Stuck-clause-row : goal.returns-in-Stuck-clause-row
returns-in-Stuck-clause-row g c = rw c.in-Stuck.is (call_stuck c.args.marks.now c.args.known.now c.args.frames.now c.args.heap.now c.args.count)

pub returns-in-Runs-clause-row : goal.returns-in-Runs-clause-row
returns-in-Runs-clause-row g c =
    rw c.in-Runs.is (call_runs c.args.marks.now c.args.known.now c.args.frames.now c.args.heap.now c.args.count c.in-Runs.call)

pub returns-in-Raises-clause-row : goal.returns-in-Raises-clause-row
returns-in-Raises-clause-row g c =
    ok_call c.args.marks.now c.args.known.now c.args.frames.now c.settle_raised.new.frames c.args.heap.now c.settle_raised.new.heap c.thrown_class.result
    c.in-Raises.class c.args.called c.args.count c.settle_raised.result c.in-Raises.is c.thrown_class.ensures c.settle_raised.ensures.quiet
    c.settle_raised.ensures.row

pub returns-in-Begun-clause-stand : goal.returns-in-Begun-clause-stand
returns-in-Begun-clause-stand g c = rw c.in-Begun.is at c.requires.stand

pub returns-in-Runs-clause-stand : goal.returns-in-Runs-clause-stand
returns-in-Runs-clause-stand g c = (rw c.in-Runs.is at c.requires.stand, rw c.in-Runs.is at c.requires.left)
