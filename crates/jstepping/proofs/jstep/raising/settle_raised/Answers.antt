use Rattle.std.specs.Prelude.{length}
use Rattle.jresolution.specs.declared.jprogram.part.ClassRef.TheVariants as refs
use Rattle.jlib.specs.declared.classes.LibClass.TheVariants as lib
use Rattle.jstepping.proofs.JstepProofs.RowCompletion.{raises_as, stood}
use Rattle.jstepping.proofs.jstep.raising.settle_raised.Goals as goal

pub returns-clause-row : goal.returns-clause-row
returns-clause-row g c =
    raises_as c.args.marks.now c.args.known.now c.args.frames.now c.raise.new.frames c.args.heap.now c.raise.new.heap c.told_law.ensures c.args.class
    c.in_ok-done.done c.stepped_of.result c.stepped_of.ensures c.in_ok-done.ensures.row

pub returns-clause-stand : goal.returns-clause-stand
returns-clause-stand g c =
    stood (length c.args.marks.now) c.in_ok-done.done c.stepped_of.result (refs.Lib (lib.Thrown c.args.class)) c.args.frames.now c.raise.new.frames
    c.stepped_of.ensures c.in_ok-done.ensures.stand c.requires.stand
