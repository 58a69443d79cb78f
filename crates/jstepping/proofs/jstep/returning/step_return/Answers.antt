use Rattle.std.specs.Prelude.{length}
use Rattle.jstepping.proofs.JstepProofs.InstructionSteps.{return_done, return_stood}
use Rattle.jstepping.proofs.jstep.returning.step_return.Goals as goal

pub returns-clause-row : goal.returns-clause-row
returns-clause-row g c =
    return_done c.args.fixed.now c.args.counts c.args.kind c.args.frames.now c.return_kind.new.frames c.args.heap.now c.in_ok-way.way c.left_of.result
    c.left_of.ensures c.in_ok-way.ensures.row

pub returns-clause-stand : goal.returns-clause-stand
returns-clause-stand g c =
    return_stood (length c.args.fixed.now.marks.now) c.args.frames.now c.return_kind.new.frames c.in_ok-way.way c.left_of.result c.left_of.ensures
    c.in_ok-way.ensures.stand c.requires.stand
