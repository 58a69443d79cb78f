use Rattle.std.proofs.Common.{◌∙◌, arith, refl, sym}
use Rattle.jcalling.proofs.JexecuteProofs.InstructionFetch.{fetches_some}
use Rattle.jcalling.proofs.JexecuteProofs.QuickSteps.{more_quiet, none_quiet}
use Rattle.jcalling.specs.jexecute.FastSteps.{Hastens, program_of}
use Rattle.jcalling.specs.declared.jexecute.hastening.Quick.TheVariants as tries
use Rattle.jcalling.proofs.jexecute.hastening.hasten_within.Goals as goal

pub loop-steps-init : goal.loop-steps-init
loop-steps-init g c = record {
  quiet = none_quiet (program_of c.args.fixed.now) c.args.fixed.now c.args.counts c.args.frames.now c.args.heap.now;
  method = c.requires.method;
  stand = c.requires.stand;
  built = c.requires.built;
  celled = c.requires.celled;
  few = omega arith;
}

pub hasten_at-requires-clause-fetches : goal.hasten_at-requires-clause-fetches
hasten_at-requires-clause-fetches g c =
    let x = c.args.fixed.now in
    fetches_some (program_of x) x c.loop-steps.frames.newest c.requires.fixed c.fetch-one.result c.args.row.id c.place.result c.loop-steps.invariant.method c.place.ensures
    c.fetch-one.ensures.means c.fetch-one.ensures.within c.fetch-one.ensures.exact c.fetch-one.ensures.next

pub loop-steps-preserved : goal.loop-steps-preserved
loop-steps-preserved g c =
    let x = c.args.fixed.now in
    let went : Hastens (program_of x) x c.args.counts c.loop-steps.frames c.loop-steps.heap tries.Went c.hasten_at.new.frames c.hasten_at.new.heap =
    rw c.in-Went.is at c.in_ok-hasten_at.ensures in
    record {
      quiet = more_quiet (program_of x) x c.args.counts c.loop-steps.steps c.args.frames.now c.loop-steps.frames c.hasten_at.new.frames c.args.heap.now c.loop-steps.heap
          c.hasten_at.new.heap c.loop-steps.invariant.quiet went.0;
      method = c.loop-steps.invariant.method ∙ sym went.1;
      stand = went.0.stands;
      built = went.0.built;
      celled = went.0.celled;
      few = omega arith;
    }

pub returns-in-Stuck : goal.returns-in-Stuck
returns-in-Stuck g c =
    let x = c.args.fixed.now in
    let stuck : Hastens (program_of x) x c.args.counts c.loop-steps.frames c.loop-steps.heap tries.Stuck c.hasten_at.new.frames c.hasten_at.new.heap =
    rw c.in-Stuck.is at c.in_ok-hasten_at.ensures in
    record {
      frames = c.loop-steps.frames;
      heap = c.loop-steps.heap;
      quiet = c.loop-steps.invariant.quiet;
      stays = c.loop-steps.invariant.method;
      stand = c.loop-steps.invariant.stand;
      built = c.loop-steps.invariant.built;
      celled = c.loop-steps.invariant.celled;
      ends = stuck;
      few = omega arith;
    }

pub returns-in-Left : goal.returns-in-Left
returns-in-Left g c =
    let x = c.args.fixed.now in
    let left : Hastens (program_of x) x c.args.counts c.loop-steps.frames c.loop-steps.heap tries.Left c.hasten_at.new.frames c.hasten_at.new.heap =
    rw c.in-Left.is at c.in_ok-hasten_at.ensures in
    record {
      frames = c.loop-steps.frames;
      heap = c.loop-steps.heap;
      quiet = c.loop-steps.invariant.quiet;
      stays = c.loop-steps.invariant.method;
      stand = c.loop-steps.invariant.stand;
      built = c.loop-steps.invariant.built;
      celled = c.loop-steps.invariant.celled;
      ends = left;
      few = c.loop-steps.invariant.few;
    }

pub returns : goal.returns
returns g c = record {
  frames = c.loop-steps.frames;
  heap = c.loop-steps.heap;
  quiet = c.loop-steps.invariant.quiet;
  stays = c.loop-steps.invariant.method;
  stand = c.loop-steps.invariant.stand;
  built = c.loop-steps.invariant.built;
  celled = c.loop-steps.invariant.celled;
  ends = (refl, refl);
  few = c.loop-steps.invariant.few;
}
