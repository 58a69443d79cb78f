use Rattle.std.proofs.Common.{ap}
use Rattle.jresolution.specs.juses.IndexedInstructions.{Return, Throw}
use Rattle.jready.specs.declared.instr.Instr.TheVariants as instr
use Rattle.jready.specs.DecodedInstructions.{flow_meant}
use Rattle.jstepping.proofs.JstepProofs.InstructionSteps.{flow_done, jump_done}
use Rattle.jstepping.proofs.JstepProofs.ObjectPreservation.{names_alike, same_alike}
use Rattle.jstepping.proofs.jstep.stepping.step_flow.Goals as goal

pub returns-in-Jump-clause-row : goal.returns-in-Jump-clause-row
returns-in-Jump-clause-row g c =
    jump_done c.args.known.now c.args.fixed.now c.args.counts c.args.frames.now c.step_row.new.frames c.args.heap.now c.step_row.new.heap c.step_row.result
    (instr.Flow c.args.f) c.step_row.ensures.row

pub returns-in-Return-clause-row : goal.returns-in-Return-clause-row
returns-in-Return-clause-row g c =
    flow_done c.args.known.now c.args.fixed.now c.args.counts c.args.frames.now c.step_return.new.frames c.args.heap.now c.args.heap.now
    c.step_return.result c.args.f (Return c.in-Return.kind) (ap flow_meant c.in-Return.is) (c.step_return.ensures.row c.args.known.now)

pub returns-in-Throw-clause-row : goal.returns-in-Throw-clause-row
returns-in-Throw-clause-row g c =
    flow_done c.args.known.now c.args.fixed.now c.args.counts c.args.frames.now c.step_throw.new.frames c.args.heap.now c.step_throw.new.heap
    c.step_throw.result c.args.f Throw (ap flow_meant c.in-Throw.is) c.step_throw.ensures.row

pub returns-in-Return-clause-alike : goal.returns-in-Return-clause-alike
returns-in-Return-clause-alike g c = same_alike c.step_return.result c.args.known.now c.args.fixed.now.shapes.now c.args.heap.now.objects

pub returns-in-Throw-clause-alike : goal.returns-in-Throw-clause-alike
returns-in-Throw-clause-alike g c =
    names_alike c.args.known.now c.args.fixed.now.shapes.now c.args.heap.now.objects c.step_throw.new.heap.objects c.step_throw.result
    c.step_throw.ensures.alike
