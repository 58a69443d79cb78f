use Rattle.std.specs.Prelude.{length}
use Rattle.jstepping.proofs.JstepProofs.InstructionSteps.{all_done}
use Rattle.jstepping.proofs.JstepProofs.ObjectPreservation.{celled_behind, row_alike}
use Rattle.jstepping.proofs.JstepProofs.RowCompletion.{may_raise, stands_for}
use Rattle.jstepping.proofs.jstep.stepping.step_row.Goals as goal

pub run-requires-clause-place : goal.run-requires-clause-place
run-requires-clause-place g c = c.requires.stand.0.place

pub run-requires-clause-numbers : goal.run-requires-clause-numbers
run-requires-clause-numbers g c = c.requires.fixed.numbers

pub settle-requires-clause-raised : goal.settle-requires-clause-raised
settle-requires-clause-raised g c = may_raise c.args.frames.now c.run.new.frames c.in_ok-way.way c.in_ok-way.ensures.stays

pub settle-requires-clause-stand : goal.settle-requires-clause-stand
settle-requires-clause-stand g c =
    stands_for c.args.frames.now c.run.new.frames (length c.args.fixed.now.marks.now) c.in_ok-way.way c.in_ok-way.ensures.stays c.in_ok-way.ensures.below
    c.requires.stand

pub returns-clause-row : goal.returns-clause-row
returns-clause-row g c =
    all_done c.args.known.now c.args.fixed.now c.args.one c.args.frames.now c.run.new.frames c.settle.new.frames c.args.heap.now c.run.new.heap
    c.settle.new.heap c.settle.result c.in_ok-way.way c.behind_laws.ensures c.requires.here c.requires.within c.in_ok-way.ensures.row
    c.in_ok-way.ensures.below c.settle.ensures.quiet c.settle.ensures.row

pub returns-clause-celled : goal.returns-clause-celled
returns-clause-celled g c =
    celled_behind c.settle.result c.args.heap.now.objects c.run.new.heap.objects c.settle.new.heap.objects c.in_ok-way.ensures.celled c.settle.ensures.celled

pub returns-clause-alike : goal.returns-clause-alike
returns-clause-alike g c =
    row_alike c.args.known.now c.args.fixed.now.shapes.now c.args.heap.now.objects c.run.new.heap.objects c.settle.new.heap.objects c.settle.result
    c.in_ok-way.way c.in_ok-way.ensures.alike c.settle.ensures.alike c.settle.ensures.stuck
