use Rattle.jready.specs.declared.instr.Instr.TheVariants as instr
use Rattle.jstepping.proofs.JstepProofs.InstructionSteps.{arm_steps, library_steps, off_steps, row_steps, user_steps}
use Rattle.jstepping.proofs.JstepProofs.ObjectPreservation.{alike_by, names_alike}
use Rattle.jstepping.proofs.jstep.stepping.step.Goals as goal

pub returns-in-Off-clause-row : goal.returns-in-Off-clause-row
returns-in-Off-clause-row g c =
    off_steps c.step_laws.ensures.at c.args.calls.now c.args.fixed.now c.args.counts c.args.frames.now c.args.heap.now c.args.one c.in-Off.is
    c.requires.means

pub returns-in-Plain-clause-row : goal.returns-in-Plain-clause-row
returns-in-Plain-clause-row g c =
    row_steps c.step_laws.ensures.at c.args.calls.now c.args.fixed.now c.args.counts c.args.frames.now c.step_row.new.frames c.args.heap.now
    c.step_row.new.heap c.step_row.result c.known.result.now c.known.ensures c.args.one c.requires.means c.step_row.ensures.row

pub returns-in-Push-clause-row : goal.returns-in-Push-clause-row
returns-in-Push-clause-row g c =
    row_steps c.step_laws.ensures.at c.args.calls.now c.args.fixed.now c.args.counts c.args.frames.now c.step_row-in-Push.new.frames c.args.heap.now
    c.step_row-in-Push.new.heap c.step_row-in-Push.result c.known-in-Push.result.now c.known-in-Push.ensures c.args.one c.requires.means c.step_row-in-Push.ensures.row

pub returns-in-Local-clause-row : goal.returns-in-Local-clause-row
returns-in-Local-clause-row g c =
    row_steps c.step_laws.ensures.at c.args.calls.now c.args.fixed.now c.args.counts c.args.frames.now c.step_row-in-Local.new.frames c.args.heap.now
    c.step_row-in-Local.new.heap c.step_row-in-Local.result c.known-in-Local.result.now c.known-in-Local.ensures c.args.one c.requires.means c.step_row-in-Local.ensures.row

pub returns-in-Stack-clause-row : goal.returns-in-Stack-clause-row
returns-in-Stack-clause-row g c =
    row_steps c.step_laws.ensures.at c.args.calls.now c.args.fixed.now c.args.counts c.args.frames.now c.step_row-in-Stack.new.frames c.args.heap.now
    c.step_row-in-Stack.new.heap c.step_row-in-Stack.result c.known-in-Stack.result.now c.known-in-Stack.ensures c.args.one c.requires.means c.step_row-in-Stack.ensures.row

pub returns-in-Table-clause-row : goal.returns-in-Table-clause-row
returns-in-Table-clause-row g c =
    row_steps c.step_laws.ensures.at c.args.calls.now c.args.fixed.now c.args.counts c.args.frames.now c.step_row-in-Table.new.frames c.args.heap.now
    c.step_row-in-Table.new.heap c.step_row-in-Table.result c.known-in-Table.result.now c.known-in-Table.ensures c.args.one c.requires.means c.step_row-in-Table.ensures.row

pub returns-in-Lookup-clause-row : goal.returns-in-Lookup-clause-row
returns-in-Lookup-clause-row g c =
    row_steps c.step_laws.ensures.at c.args.calls.now c.args.fixed.now c.args.counts c.args.frames.now c.step_row-in-Lookup.new.frames c.args.heap.now
    c.step_row-in-Lookup.new.heap c.step_row-in-Lookup.result c.known-in-Lookup.result.now c.known-in-Lookup.ensures c.args.one c.requires.means c.step_row-in-Lookup.ensures.row

pub returns-in-Array-clause-row : goal.returns-in-Array-clause-row
returns-in-Array-clause-row g c =
    row_steps c.step_laws.ensures.at c.args.calls.now c.args.fixed.now c.args.counts c.args.frames.now c.step_row-in-Array.new.frames c.args.heap.now
    c.step_row-in-Array.new.heap c.step_row-in-Array.result c.known-in-Array.result.now c.known-in-Array.ensures c.args.one c.requires.means c.step_row-in-Array.ensures.row

pub returns-in-Flow-clause-row : goal.returns-in-Flow-clause-row
returns-in-Flow-clause-row g c =
    arm_steps c.step_laws.ensures.at c.args.calls.now c.args.fixed.now c.args.counts c.args.frames.now c.step_flow.new.frames c.args.heap.now
    c.step_flow.new.heap c.step_flow.result c.known-in-Flow.result.now c.known-in-Flow.ensures c.args.one c.requires.means (instr.Flow c.in-Flow.f) c.in-Flow.is
    c.step_flow.ensures.row

pub returns-in-Call-clause-row : goal.returns-in-Call-clause-row
returns-in-Call-clause-row g c =
    user_steps c.step_laws.ensures.at c.args.calls.now c.args.fixed.now c.args.counts c.args.frames.now c.step_call.new.frames c.args.heap.now
    c.step_call.new.heap c.in-Call.how c.in-Call.pool c.in-Call.params c.args.one c.requires.means c.step_call.result c.in-Call.method c.in-Call.is
    c.requires.exact c.step_call.ensures.row

pub returns-in-Library-clause-row : goal.returns-in-Library-clause-row
returns-in-Library-clause-row g c =
    library_steps c.step_laws.ensures.at c.args.calls.now c.args.fixed.now c.args.counts c.args.frames.now c.step_call-in-Library.new.frames c.args.heap.now
    c.step_call-in-Library.new.heap c.in-Library.how c.in-Library.pool c.in-Library.params c.args.one c.requires.means c.step_call-in-Library.result
    c.in-Library.call c.in-Library.is c.requires.exact c.step_call-in-Library.ensures.row

pub returns-in-Plain-clause-alike : goal.returns-in-Plain-clause-alike
returns-in-Plain-clause-alike g c =
    alike_by c.step_row.result c.known.result.now c.args.calls.now c.known.ensures c.args.fixed.now.shapes.now c.args.heap.now.objects
    c.step_row.new.heap.objects c.step_row.ensures.alike

pub returns-in-Push-clause-alike : goal.returns-in-Push-clause-alike
returns-in-Push-clause-alike g c =
    alike_by c.step_row-in-Push.result c.known-in-Push.result.now c.args.calls.now c.known-in-Push.ensures c.args.fixed.now.shapes.now c.args.heap.now.objects
    c.step_row-in-Push.new.heap.objects c.step_row-in-Push.ensures.alike

pub returns-in-Local-clause-alike : goal.returns-in-Local-clause-alike
returns-in-Local-clause-alike g c =
    alike_by c.step_row-in-Local.result c.known-in-Local.result.now c.args.calls.now c.known-in-Local.ensures c.args.fixed.now.shapes.now c.args.heap.now.objects
    c.step_row-in-Local.new.heap.objects c.step_row-in-Local.ensures.alike

pub returns-in-Stack-clause-alike : goal.returns-in-Stack-clause-alike
returns-in-Stack-clause-alike g c =
    alike_by c.step_row-in-Stack.result c.known-in-Stack.result.now c.args.calls.now c.known-in-Stack.ensures c.args.fixed.now.shapes.now c.args.heap.now.objects
    c.step_row-in-Stack.new.heap.objects c.step_row-in-Stack.ensures.alike

pub returns-in-Table-clause-alike : goal.returns-in-Table-clause-alike
returns-in-Table-clause-alike g c =
    alike_by c.step_row-in-Table.result c.known-in-Table.result.now c.args.calls.now c.known-in-Table.ensures c.args.fixed.now.shapes.now c.args.heap.now.objects
    c.step_row-in-Table.new.heap.objects c.step_row-in-Table.ensures.alike

pub returns-in-Lookup-clause-alike : goal.returns-in-Lookup-clause-alike
returns-in-Lookup-clause-alike g c =
    alike_by c.step_row-in-Lookup.result c.known-in-Lookup.result.now c.args.calls.now c.known-in-Lookup.ensures c.args.fixed.now.shapes.now c.args.heap.now.objects
    c.step_row-in-Lookup.new.heap.objects c.step_row-in-Lookup.ensures.alike

pub returns-in-Array-clause-alike : goal.returns-in-Array-clause-alike
returns-in-Array-clause-alike g c =
    alike_by c.step_row-in-Array.result c.known-in-Array.result.now c.args.calls.now c.known-in-Array.ensures c.args.fixed.now.shapes.now c.args.heap.now.objects
    c.step_row-in-Array.new.heap.objects c.step_row-in-Array.ensures.alike

pub returns-in-Flow-clause-alike : goal.returns-in-Flow-clause-alike
returns-in-Flow-clause-alike g c =
    alike_by c.step_flow.result c.known-in-Flow.result.now c.args.calls.now c.known-in-Flow.ensures c.args.fixed.now.shapes.now c.args.heap.now.objects
    c.step_flow.new.heap.objects c.step_flow.ensures.alike

pub returns-in-Call-clause-alike : goal.returns-in-Call-clause-alike
returns-in-Call-clause-alike g c =
    names_alike c.args.calls.now c.args.fixed.now.shapes.now c.args.heap.now.objects c.step_call.new.heap.objects c.step_call.result c.step_call.ensures.alike

pub returns-in-Library-clause-alike : goal.returns-in-Library-clause-alike
returns-in-Library-clause-alike g c =
    names_alike c.args.calls.now c.args.fixed.now.shapes.now c.args.heap.now.objects c.step_call-in-Library.new.heap.objects c.step_call-in-Library.result
    c.step_call-in-Library.ensures.alike
