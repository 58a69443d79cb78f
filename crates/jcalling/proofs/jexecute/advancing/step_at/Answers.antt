use Rattle.std.proofs.Common.{refl}
use Rattle.std.specs.Prelude.{length}
use Rattle.jready.specs.declared.instr.Instr.TheVariants as instrs
use Rattle.jready.specs.declared.instr.Push.TheVariants as pushes
use Rattle.jcalling.proofs.JexecuteProofs.FrameSteps.{alike_there, all_alike_there, all_stand, fetches_same, is_there, load_there, off_advances, ok_celled, others_advance, refs_there}
use Rattle.jcalling.proofs.jexecute.advancing.step_at.Goals as goal

pub returns-in-Off-clause-row : goal.returns-in-Off-clause-row
returns-in-Off-clause-row g c =
    off_advances c.args.calls.now c.args.fixed.now c.args.frames.now c.args.one c.requires.fetches c.step_laws.ensures.at
    (rw c.in-Off.is at c.group_of.ensures) c.args.counts c.args.constants.now.constants c.args.heap.now

pub step_load-requires-clause-fetches : goal.step_load-requires-clause-fetches
step_load-requires-clause-fetches g c =
    fetches_same c.args.constants.now.program c.args.calls.now c.args.fixed.now c.args.frames.now.newest c.args.one
    (instrs.Push (pushes.Text c.in-Text.index)) c.requires.constants (rw c.in-Text.is at c.group_of.ensures) c.requires.fetches

pub returns-in-Text-clause-row : goal.returns-in-Text-clause-row
returns-in-Text-clause-row g c =
    load_there c.step_load.result c.args.constants.now.program c.args.calls.now c.requires.constants c.args.fixed.now c.args.counts c.args.frames.now
    c.step_load.new.frames c.args.heap.now c.step_load.new.heap c.args.constants.now.constants c.step_load.new.constants.constants c.step_load.ensures.row

pub returns-in-Text-clause-alike : goal.returns-in-Text-clause-alike
returns-in-Text-clause-alike g c =
    all_alike_there c.step_load.result c.args.constants.now.program c.args.calls.now c.requires.constants c.args.fixed.now.shapes.now c.args.counts
    c.args.heap.now.objects c.step_load.new.heap.objects c.step_load.ensures.alike

pub returns-in-References-clause-row : goal.returns-in-References-clause-row
returns-in-References-clause-row g c =
    refs_there c.step_refs.result c.known.result.now c.args.calls.now c.known.ensures c.args.fixed.now c.args.counts c.args.frames.now
    c.step_refs.new.frames c.args.heap.now c.step_refs.new.heap c.args.constants.now.constants c.step_refs.ensures.row

pub returns-in-References-clause-alike : goal.returns-in-References-clause-alike
returns-in-References-clause-alike g c =
    alike_there c.step_refs.result c.known.result.now c.args.calls.now c.known.ensures c.args.fixed.now.shapes.now c.args.counts
    c.args.heap.now.objects c.step_refs.new.heap.objects c.step_refs.ensures.alike

pub step_refs-requires-clause-fetches : goal.step_refs-requires-clause-fetches
step_refs-requires-clause-fetches g c =
    fetches_same c.known.result.now c.args.calls.now c.args.fixed.now c.args.frames.now.newest c.args.one c.args.one c.known.ensures refl c.requires.fetches

pub returns-in-Others-clause-row : goal.returns-in-Others-clause-row
returns-in-Others-clause-row g c =
    others_advance c.args.calls.now c.args.fixed.now c.args.counts c.args.frames.now c.step.new.frames c.args.heap.now c.step.new.heap c.step.result
    c.args.constants.now.constants c.args.constants.now.constants refl c.step.ensures.row

pub returns-in-Others-clause-celled : goal.returns-in-Others-clause-celled
returns-in-Others-clause-celled g c =
    ok_celled c.step.result c.args.fixed.now.shapes.now c.args.heap.now c.step.new.heap c.requires.celled c.step.ensures.celled

pub step-requires-clause-here : goal.step-requires-clause-here
step-requires-clause-here g c = (rw c.in-Others.is at c.group_of.ensures).1

pub step-requires-clause-stand : goal.step-requires-clause-stand
step-requires-clause-stand g c =
    all_stand c.args.calls.now c.args.fixed.now c.args.frames.now c.args.one c.requires.fetches (length c.args.fixed.now.marks.now) c.requires.stand
    (is_there c.args.one (rw c.in-Others.is at c.group_of.ensures).0)
