use Rattle.std.specs.Prelude.{length}
use Rattle.jcalling.specs.jexecute.FastSteps.{program_of}
use Rattle.jcalling.proofs.JexecuteProofs.QuickSteps.{quick_stands, ref_hastens, ref_stands, row_hastens}
use Rattle.jcalling.proofs.JexecuteProofs.ReferenceSteps.{fetched_exact, fetched_here}
use Rattle.jstepping.specs.jrefs.ReferenceRows as refs
use Rattle.jstepping.specs.jstep.InstructionRows as rows
use Rattle.jcalling.proofs.jexecute.hastening.hasten_at.Goals as goal

-- a row with numbers, a local, or the newest items of the stack

pub run-requires-clause-place : goal.run-requires-clause-place
run-requires-clause-place g c =
    let x = c.args.fixed.now in
    let here : rows.IsHere c.args.one = rw c.in-Row.is at c.haste_of.ensures in
    let stand = quick_stands (program_of x) x c.args.frames.now c.args.one c.requires.fetches (length x.marks.now) c.requires.stand here in
    stand.0.place

pub run-requires-clause-numbers : goal.run-requires-clause-numbers
run-requires-clause-numbers g c = c.requires.fixed.numbers

pub run-requires-clause-here : goal.run-requires-clause-here
run-requires-clause-here g c = rw c.in-Row.is at c.haste_of.ensures

pub returns-in_ok-way-in-Row : goal.returns-in_ok-way-in-Row
returns-in_ok-way-in-Row g c =
    let x = c.args.fixed.now in
    let here : rows.IsHere c.args.one = rw c.in-Row.is at c.haste_of.ensures in
    let stand = quick_stands (program_of x) x c.args.frames.now c.args.one c.requires.fetches (length x.marks.now) c.requires.stand here in
    let way = c.in_ok-way-in-Row in
    rw c.quick_of.ensures
    (row_hastens (program_of x) x c.args.counts c.args.one c.args.frames.now c.run.new.frames c.args.heap.now c.run.new.heap c.step_laws.ensures.at c.behind_laws.ensures
    c.requires.fixed c.requires.fetches way.ensures.below stand way.ensures.built (way.ensures.celled x.shapes.now c.requires.celled) way.way way.ensures.rests
    way.ensures.kept here
    way.ensures.row way.ensures.stays way.ensures.alike)

-- a row with a static, or with a branch that tests references

pub run-requires-in-Reference-clause-place : goal.run-requires-in-Reference-clause-place
run-requires-in-Reference-clause-place g c =
    let x = c.args.fixed.now in
    let here : refs.IsHere c.args.one = rw c.in-Reference.is at c.haste_of.ensures in
    let stand = ref_stands (program_of x) x c.args.frames.now c.args.one c.requires.fetches (length x.marks.now) c.requires.stand here in
    stand.0.place

pub run-requires-in-Reference-clause-here : goal.run-requires-in-Reference-clause-here
run-requires-in-Reference-clause-here g c = rw c.in-Reference.is at c.haste_of.ensures

pub run-requires-in-Reference-clause-means : goal.run-requires-in-Reference-clause-means
run-requires-in-Reference-clause-means g c =
    fetched_here (program_of c.args.fixed.now) c.args.fixed.now c.args.one c.args.frames.now.newest c.requires.fixed c.requires.fetches

pub run-requires-in-Reference-clause-exact : goal.run-requires-in-Reference-clause-exact
run-requires-in-Reference-clause-exact g c =
    fetched_exact (program_of c.args.fixed.now) c.args.fixed.now c.args.one c.args.frames.now.newest c.requires.fixed c.requires.fetches

pub returns-in_ok-way-in-Reference : goal.returns-in_ok-way-in-Reference
returns-in_ok-way-in-Reference g c =
    let x = c.args.fixed.now in
    let here : refs.IsHere c.args.one = rw c.in-Reference.is at c.haste_of.ensures in
    let stand = ref_stands (program_of x) x c.args.frames.now c.args.one c.requires.fetches (length x.marks.now) c.requires.stand here in
    let way = c.in_ok-way-in-Reference in
    rw c.quick_of-in-Reference.ensures
    (ref_hastens (program_of x) x c.args.counts c.args.one c.args.frames.now c.run-in-Reference.new.frames c.args.heap.now c.run-in-Reference.new.heap
    c.step_laws.ensures.at c.behind_laws.ensures
    c.requires.fixed c.requires.fetches way.ensures.below stand way.ensures.built way.ensures.celled way.way way.ensures.rests way.ensures.kept here way.ensures.row
    way.ensures.missing
    way.ensures.stays way.ensures.alike)
