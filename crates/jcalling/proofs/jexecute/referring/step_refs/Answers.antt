use Rattle.std.specs.Prelude.{length}
use Rattle.jcalling.proofs.JexecuteProofs.FrameSteps.{ok_celled}
use Rattle.jcalling.proofs.JexecuteProofs.ReferenceSteps.{fetched_exact, fetched_here, ok_refs_advance, ok_refs_alike, row_may_raise, row_stands}
use Rattle.jcalling.proofs.jexecute.referring.step_refs.Goals as goal

pub run-requires-clause-place : goal.run-requires-clause-place
run-requires-clause-place g c = c.requires.stand.0.place

pub run-requires-clause-means : goal.run-requires-clause-means
run-requires-clause-means g c = fetched_here c.args.known.now c.args.fixed.now c.args.one c.args.frames.now.newest c.requires.fixed c.requires.fetches

pub run-requires-clause-exact : goal.run-requires-clause-exact
run-requires-clause-exact g c = fetched_exact c.args.known.now c.args.fixed.now c.args.one c.args.frames.now.newest c.requires.fixed c.requires.fetches

pub settle-requires-clause-raised : goal.settle-requires-clause-raised
settle-requires-clause-raised g c = row_may_raise c.args.frames.now c.run.new.frames c.in_ok-way.way c.in_ok-way.ensures.stays

pub settle-requires-clause-stand : goal.settle-requires-clause-stand
settle-requires-clause-stand g c =
    row_stands c.args.frames.now c.run.new.frames (length c.args.fixed.now.marks.now) c.in_ok-way.way c.in_ok-way.ensures.stays c.in_ok-way.ensures.below
    c.requires.stand

pub returns-clause-row : goal.returns-clause-row
returns-clause-row g c =
    ok_refs_advance c.args.known.now c.args.fixed.now c.args.counts c.args.one c.args.frames.now c.run.new.frames c.args.heap.now c.run.new.heap
    c.in_ok-way.way c.step_laws.ensures.at c.behind_laws.ensures c.requires.fixed c.requires.here c.requires.fetches c.in_ok-way.ensures.row
    c.in_ok-way.ensures.missing c.in_ok-way.ensures.below c.settle.new.frames c.settle.new.heap c.settle.result c.settle.ensures.row c.settle.ensures.quiet

pub returns-clause-celled : goal.returns-clause-celled
returns-clause-celled g c =
    ok_celled c.settle.result c.args.fixed.now.shapes.now c.run.new.heap c.settle.new.heap c.in_ok-way.ensures.celled c.settle.ensures.celled

pub returns-clause-alike : goal.returns-clause-alike
returns-clause-alike g c =
    ok_refs_alike c.args.known.now c.args.fixed.now c.args.counts c.args.heap.now.objects c.run.new.heap.objects c.settle.new.heap.objects
    c.in_ok-way.way c.requires.fixed c.in_ok-way.ensures.alike c.settle.result c.settle.ensures.stuck c.settle.ensures.alike
