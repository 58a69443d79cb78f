use Rattle.jparts.specs.declared.jcode.names.Returned.TheVariants as results
use Rattle.jstepping.proofs.JstepProofs.InstructionSteps.{returns_any}
use Rattle.jstepping.proofs.jstep.returning.return_kind.Goals as goal

pub returns-in-Int-clause-row : goal.returns-in-Int-clause-row
returns-in-Int-clause-row g c =
    returns_any c.return_int.result results.Int c.args.kind c.args.heap.now c.args.counts c.args.marks.now c.args.frames.now c.return_int.new.frames c.in-Int.is
    c.return_int.ensures.row

pub returns-in-Long-clause-row : goal.returns-in-Long-clause-row
returns-in-Long-clause-row g c =
    returns_any c.return_long.result results.Long c.args.kind c.args.heap.now c.args.counts c.args.marks.now c.args.frames.now c.return_long.new.frames
    c.in-Long.is c.return_long.ensures.row

pub returns-in-Nothing-clause-row : goal.returns-in-Nothing-clause-row
returns-in-Nothing-clause-row g c =
    returns_any c.return_nothing.result results.Nothing c.args.kind c.args.heap.now c.args.counts c.args.marks.now c.args.frames.now
    c.return_nothing.new.frames c.in-Nothing.is c.return_nothing.ensures.row

pub returns-in-Ref-clause-row : goal.returns-in-Ref-clause-row
returns-in-Ref-clause-row g c = rw c.in-Ref.is c.return_ref.ensures.row
