use Rattle.std.proofs.Common.{length}
use Rattle.jcalling.proofs.JexecuteProofs.InstructionFetch.{fetches_some}
use Rattle.jcalling.proofs.JexecuteProofs.QuickSteps.{all_turn, turn_stands}
use Rattle.jcalling.specs.jexecute.FrameSteps.{Fetches}
use Rattle.jcalling.proofs.jexecute.hastening.turn.Goals as goal

pub step-requires-clause-here : goal.step-requires-clause-here
step-requires-clause-here g c = (rw c.in-Turn.is at c.haste_of.ensures).1

pub step-requires-clause-stand : goal.step-requires-clause-stand
step-requires-clause-stand g c =
    let x = c.args.fixed.now in
    let fetches : Fetches c.args.calls.now x c.args.frames.now.newest c.fetch-one.result =
    fetches_some c.args.calls.now x c.args.frames.now.newest c.requires.fixed c.fetch-one.result c.args.row.id c.place.result c.requires.method c.place.ensures
    c.fetch-one.ensures.means c.fetch-one.ensures.within c.fetch-one.ensures.exact c.fetch-one.ensures.next in
    turn_stands c.args.calls.now x c.args.frames.now c.fetch-one.result fetches (length x.marks.now) c.requires.stand (rw c.in-Turn.is at c.haste_of.ensures).0

pub returns-in_ok-came-in-Turn-clause-turns : goal.returns-in_ok-came-in-Turn-clause-turns
returns-in_ok-came-in-Turn-clause-turns g c =
    let x = c.args.fixed.now in
    let came = c.in_ok-came-in-Turn in
    rw c.turned_of.ensures
    (all_turn c.args.calls.now x c.args.counts c.args.frames.now c.step.new.frames c.args.heap.now c.step.new.heap came.ensures.built
    (came.ensures.celled x.shapes.now c.requires.celled) came.came (came.ensures.row, came.ensures.stand, came.ensures.alike))
