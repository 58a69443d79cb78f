use Rattle.std.proofs.Common.{◌∙◌, ◌+◌, ◌-◌, arith, refl, subst, sym}
use Rattle.jresolution.specs.jprogram.ProgramClasses.{Program}
use Rattle.jstepping.specs.jstep.StepRelation.{IsFixed}
use Rattle.jcalling.proofs.JexecuteProofs.QuickSteps.{built_there, came_made, celled_there, few_there, fixed_itself, left_made, method_there, more_quiet, none_quiet, quiet_there, stand_there, stuck_so, within_so}
use Rattle.jcalling.specs.jexecute.FastSteps.{Turns}
use Rattle.jcalling.specs.declared.jexecute.hastening.Turned.TheVariants as turns
use Rattle.jcalling.proofs.jexecute.hastening.hasten_frames.Goals as goal

pub loop-steps-init : goal.loop-steps-init
loop-steps-init g c = record {
  same = refl;
  quiet = none_quiet c.args.calls.now c.args.fixed.now c.args.counts c.args.frames.now c.args.heap.now;
  stand = c.requires.stand;
  built = c.requires.built;
  celled = c.requires.celled;
  few = omega arith;
}

pub hasten_within-requires-clause-fixed : goal.hasten_within-requires-clause-fixed
hasten_within-requires-clause-fixed g c = fixed_itself c.args.calls.now c.args.fixed.now c.requires.fixed

pub returns-then-made-clause-made : goal.returns-then-made-clause-made
returns-then-made-clause-made g c =
    let x = c.args.fixed.now in
    let p = c.args.calls.now in
    let so = within_so p x c.args.counts c.in-Some.row.id (c.args.most - c.loop-steps.steps) c.loop-steps.frames c.hasten_within.new.frames c.loop-steps.heap c.hasten_within.new.heap
    c.in_ok-made.made c.requires.fixed.ready c.in_ok-made.ensures in
    rw c.before-then-made.ensures
    (stuck_so p x c.args.counts c.in-Some.row.id c.args.most c.loop-steps.steps c.args.frames.now c.loop-steps.frames c.hasten_within.new.frames
    c.args.heap.now c.loop-steps.heap c.hasten_within.new.heap c.loop-steps.invariant.quiet c.in_ok-made.made so c.if-made.true c.loop-steps.invariant.few)

pub returns-then-steps-most-clause-made : goal.returns-then-steps-most-clause-made
returns-then-steps-most-clause-made g c =
    let x = c.args.fixed.now in
    let p = c.args.calls.now in
    let so = within_so p x c.args.counts c.in-Some.row.id (c.args.most - c.loop-steps.steps) c.loop-steps.frames c.hasten_within.new.frames c.loop-steps.heap c.hasten_within.new.heap
    c.in_ok-made.made c.requires.fixed.ready c.in_ok-made.ensures in
    rw c.alone-then-steps-most.ensures
    (left_made p x c.args.counts c.args.most (c.loop-steps.steps + c.in_ok-made.made.steps) c.args.frames.now c.hasten_within.new.frames c.hasten_within.new.frames
    c.args.heap.now c.hasten_within.new.heap c.hasten_within.new.heap
    (quiet_there p x c.args.counts c.in-Some.row.id c.args.most c.loop-steps.steps c.args.frames.now c.loop-steps.frames c.hasten_within.new.frames
    c.args.heap.now c.loop-steps.heap c.hasten_within.new.heap c.loop-steps.invariant.quiet c.in_ok-made.made so c.if-made.false) (refl, refl)
    (few_there p x c.args.counts c.in-Some.row.id c.args.most c.loop-steps.steps c.args.frames.now c.loop-steps.frames c.hasten_within.new.frames
    c.args.heap.now c.loop-steps.heap c.hasten_within.new.heap c.loop-steps.invariant.quiet c.in_ok-made.made so c.if-made.false c.loop-steps.invariant.few))

pub turn-requires-clause-fixed : goal.turn-requires-clause-fixed
turn-requires-clause-fixed g c = subst (λ (q : Program). IsFixed q c.args.fixed.now) (sym c.loop-steps.invariant.same) c.requires.fixed

pub turn-requires-clause-method : goal.turn-requires-clause-method
turn-requires-clause-method g c =
    let x = c.args.fixed.now in
    let p = c.args.calls.now in
    let so = within_so p x c.args.counts c.in-Some.row.id (c.args.most - c.loop-steps.steps) c.loop-steps.frames c.hasten_within.new.frames c.loop-steps.heap c.hasten_within.new.heap
    c.in_ok-made.made c.requires.fixed.ready c.in_ok-made.ensures in
    method_there p x c.args.counts c.in-Some.row.id c.args.most c.loop-steps.steps c.args.frames.now c.loop-steps.frames c.hasten_within.new.frames
    c.args.heap.now c.loop-steps.heap c.hasten_within.new.heap c.loop-steps.invariant.quiet c.in_ok-made.made so c.if-made.false

pub turn-requires-clause-stand : goal.turn-requires-clause-stand
turn-requires-clause-stand g c =
    let x = c.args.fixed.now in
    let p = c.args.calls.now in
    let so = within_so p x c.args.counts c.in-Some.row.id (c.args.most - c.loop-steps.steps) c.loop-steps.frames c.hasten_within.new.frames c.loop-steps.heap c.hasten_within.new.heap
    c.in_ok-made.made c.requires.fixed.ready c.in_ok-made.ensures in
    stand_there p x c.args.counts c.in-Some.row.id c.args.most c.loop-steps.steps c.args.frames.now c.loop-steps.frames c.hasten_within.new.frames
    c.args.heap.now c.loop-steps.heap c.hasten_within.new.heap c.loop-steps.invariant.quiet c.in_ok-made.made so c.if-made.false

pub turn-requires-clause-built : goal.turn-requires-clause-built
turn-requires-clause-built g c =
    let x = c.args.fixed.now in
    let p = c.args.calls.now in
    let so = within_so p x c.args.counts c.in-Some.row.id (c.args.most - c.loop-steps.steps) c.loop-steps.frames c.hasten_within.new.frames c.loop-steps.heap c.hasten_within.new.heap
    c.in_ok-made.made c.requires.fixed.ready c.in_ok-made.ensures in
    built_there p x c.args.counts c.in-Some.row.id c.args.most c.loop-steps.steps c.args.frames.now c.loop-steps.frames c.hasten_within.new.frames
    c.args.heap.now c.loop-steps.heap c.hasten_within.new.heap c.loop-steps.invariant.quiet c.in_ok-made.made so c.if-made.false

pub turn-requires-clause-celled : goal.turn-requires-clause-celled
turn-requires-clause-celled g c =
    let x = c.args.fixed.now in
    let p = c.args.calls.now in
    let so = within_so p x c.args.counts c.in-Some.row.id (c.args.most - c.loop-steps.steps) c.loop-steps.frames c.hasten_within.new.frames c.loop-steps.heap c.hasten_within.new.heap
    c.in_ok-made.made c.requires.fixed.ready c.in_ok-made.ensures in
    celled_there p x c.args.counts c.in-Some.row.id c.args.most c.loop-steps.steps c.args.frames.now c.loop-steps.frames c.hasten_within.new.frames
    c.args.heap.now c.loop-steps.heap c.hasten_within.new.heap c.loop-steps.invariant.quiet c.in_ok-made.made so c.if-made.false

pub loop-steps-preserved : goal.loop-steps-preserved
loop-steps-preserved g c =
    let x = c.args.fixed.now in
    let p = c.args.calls.now in
    let so = within_so p x c.args.counts c.in-Some.row.id (c.args.most - c.loop-steps.steps) c.loop-steps.frames c.hasten_within.new.frames c.loop-steps.heap c.hasten_within.new.heap
    c.in_ok-made.made c.requires.fixed.ready c.in_ok-made.ensures in
    let there : Turns c.loop-steps.calls x c.args.counts c.hasten_within.new.frames c.hasten_within.new.heap turns.On c.turn.new.frames c.turn.new.heap =
    rw c.in-On.is at c.in_ok-turn.ensures.turns in
    let turned : Turns p x c.args.counts c.hasten_within.new.frames c.hasten_within.new.heap turns.On c.turn.new.frames c.turn.new.heap =
    subst (λ (q : Program). Turns q x c.args.counts c.hasten_within.new.frames c.hasten_within.new.heap turns.On c.turn.new.frames c.turn.new.heap) c.loop-steps.invariant.same there in
    let quiet = quiet_there p x c.args.counts c.in-Some.row.id c.args.most c.loop-steps.steps c.args.frames.now c.loop-steps.frames c.hasten_within.new.frames
    c.args.heap.now c.loop-steps.heap c.hasten_within.new.heap c.loop-steps.invariant.quiet c.in_ok-made.made so c.if-made.false in
    let few = few_there p x c.args.counts c.in-Some.row.id c.args.most c.loop-steps.steps c.args.frames.now c.loop-steps.frames c.hasten_within.new.frames
    c.args.heap.now c.loop-steps.heap c.hasten_within.new.heap c.loop-steps.invariant.quiet c.in_ok-made.made so c.if-made.false c.loop-steps.invariant.few in
    record {
      same = c.in_ok-turn.ensures.same ∙ c.loop-steps.invariant.same;
      quiet = more_quiet p x c.args.counts (c.loop-steps.steps + c.in_ok-made.made.steps) c.args.frames.now c.hasten_within.new.frames c.turn.new.frames
          c.args.heap.now c.hasten_within.new.heap c.turn.new.heap quiet turned;
      stand = turned.stands;
      built = turned.built;
      celled = turned.celled;
      few = omega arith;
    }

pub returns-in-Came-clause-made : goal.returns-in-Came-clause-made
returns-in-Came-clause-made g c =
    let x = c.args.fixed.now in
    let p = c.args.calls.now in
    let so = within_so p x c.args.counts c.in-Some.row.id (c.args.most - c.loop-steps.steps) c.loop-steps.frames c.hasten_within.new.frames c.loop-steps.heap c.hasten_within.new.heap
    c.in_ok-made.made c.requires.fixed.ready c.in_ok-made.ensures in
    let there : Turns c.loop-steps.calls x c.args.counts c.hasten_within.new.frames c.hasten_within.new.heap (turns.Came c.in-Came.came) c.turn.new.frames c.turn.new.heap =
    rw c.in-Came.is at c.in_ok-turn.ensures.turns in
    let turned : Turns p x c.args.counts c.hasten_within.new.frames c.hasten_within.new.heap (turns.Came c.in-Came.came) c.turn.new.frames c.turn.new.heap =
    subst (λ (q : Program). Turns q x c.args.counts c.hasten_within.new.frames c.hasten_within.new.heap (turns.Came c.in-Came.came) c.turn.new.frames c.turn.new.heap) c.loop-steps.invariant.same there in
    let quiet = quiet_there p x c.args.counts c.in-Some.row.id c.args.most c.loop-steps.steps c.args.frames.now c.loop-steps.frames c.hasten_within.new.frames
    c.args.heap.now c.loop-steps.heap c.hasten_within.new.heap c.loop-steps.invariant.quiet c.in_ok-made.made so c.if-made.false in
    let few = few_there p x c.args.counts c.in-Some.row.id c.args.most c.loop-steps.steps c.args.frames.now c.loop-steps.frames c.hasten_within.new.frames
    c.args.heap.now c.loop-steps.heap c.hasten_within.new.heap c.loop-steps.invariant.quiet c.in_ok-made.made so c.if-made.false c.loop-steps.invariant.few in
    rw c.before-in-Came.ensures
    (came_made p x c.args.counts c.args.most (c.loop-steps.steps + c.in_ok-made.made.steps) c.args.frames.now c.hasten_within.new.frames c.turn.new.frames
    c.args.heap.now c.hasten_within.new.heap c.turn.new.heap quiet c.in-Came.came turned (omega arith))

pub returns-in-Left-clause-made : goal.returns-in-Left-clause-made
returns-in-Left-clause-made g c =
    let x = c.args.fixed.now in
    let p = c.args.calls.now in
    let so = within_so p x c.args.counts c.in-Some.row.id (c.args.most - c.loop-steps.steps) c.loop-steps.frames c.hasten_within.new.frames c.loop-steps.heap c.hasten_within.new.heap
    c.in_ok-made.made c.requires.fixed.ready c.in_ok-made.ensures in
    let there : Turns c.loop-steps.calls x c.args.counts c.hasten_within.new.frames c.hasten_within.new.heap turns.Left c.turn.new.frames c.turn.new.heap =
    rw c.in-Left.is at c.in_ok-turn.ensures.turns in
    let turned : Turns p x c.args.counts c.hasten_within.new.frames c.hasten_within.new.heap turns.Left c.turn.new.frames c.turn.new.heap =
    subst (λ (q : Program). Turns q x c.args.counts c.hasten_within.new.frames c.hasten_within.new.heap turns.Left c.turn.new.frames c.turn.new.heap) c.loop-steps.invariant.same there in
    let quiet = quiet_there p x c.args.counts c.in-Some.row.id c.args.most c.loop-steps.steps c.args.frames.now c.loop-steps.frames c.hasten_within.new.frames
    c.args.heap.now c.loop-steps.heap c.hasten_within.new.heap c.loop-steps.invariant.quiet c.in_ok-made.made so c.if-made.false in
    let few = few_there p x c.args.counts c.in-Some.row.id c.args.most c.loop-steps.steps c.args.frames.now c.loop-steps.frames c.hasten_within.new.frames
    c.args.heap.now c.loop-steps.heap c.hasten_within.new.heap c.loop-steps.invariant.quiet c.in_ok-made.made so c.if-made.false c.loop-steps.invariant.few in
    rw c.alone-in-Left.ensures
    (left_made p x c.args.counts c.args.most (c.loop-steps.steps + c.in_ok-made.made.steps) c.args.frames.now c.hasten_within.new.frames c.turn.new.frames
    c.args.heap.now c.hasten_within.new.heap c.turn.new.heap quiet turned few)

pub returns-in_default-clause-made : goal.returns-in_default-clause-made
returns-in_default-clause-made g c =
    rw c.alone.ensures
    (left_made c.args.calls.now c.args.fixed.now c.args.counts c.args.most c.loop-steps.steps c.args.frames.now c.loop-steps.frames c.loop-steps.frames
    c.args.heap.now c.loop-steps.heap c.loop-steps.heap c.loop-steps.invariant.quiet (refl, refl) c.loop-steps.invariant.few)

pub returns-clause-made : goal.returns-clause-made
returns-clause-made g c =
    rw c.alone-2.ensures
    (left_made c.args.calls.now c.args.fixed.now c.args.counts c.args.most c.loop-steps.steps c.args.frames.now c.loop-steps.frames c.loop-steps.frames
    c.args.heap.now c.loop-steps.heap c.loop-steps.heap c.loop-steps.invariant.quiet (refl, refl) c.loop-steps.invariant.few)
