use Rattle.jresolution.specs.juses.IndexedInstructions.{Local, Stack}
use Rattle.jready.specs.DecodedInstructions.{flow_meant, lookup_meant}
use Rattle.jready.specs.declared.instr.Instr.TheVariants as instr
use Rattle.jstepping.proofs.JstepProofs.RowMeanings.{flow_means, local_means, lookup_means, ok_runs_as, runs_array, runs_as, runs_plain, runs_push, runs_table, stack_means}
use Rattle.jstepping.proofs.jstep.rows.run_row.Goals as goal

pub returns-in-Plain-clause-row : goal.returns-in-Plain-clause-row
returns-in-Plain-clause-row g c =
    rw c.in-Plain.is
    (runs_plain c.args.fixed.now.tables.now c.args.fixed.now.shapes.now c.args.frames.now.newest c.plain.new.frames.newest c.args.heap.now c.plain.result
    c.in-Plain.f c.plain.ensures.row)

pub returns-in-Push-clause-row : goal.returns-in-Push-clause-row
returns-in-Push-clause-row g c =
    rw c.in-Push.is
    (runs_push c.args.fixed.now.tables.now c.args.fixed.now.shapes.now c.args.frames.now.newest c.push.new.frames.newest c.args.heap.now c.push.result
    c.in-Push.f c.push.ensures.row)

pub returns-in-Local-clause-row : goal.returns-in-Local-clause-row
returns-in-Local-clause-row g c =
    let tables = c.args.fixed.now.tables.now in
    rw c.in-Local.is
    (ok_runs_as tables c.args.fixed.now.shapes.now c.args.frames.now.newest c.local.new.frames.newest c.args.heap.now c.local.result
    (instr.Local c.in-Local.f) (Local c.in-Local.f) (local_means tables c.args.fixed.now.shapes.now c.args.frames.now.newest c.local.new.frames.newest
    c.args.heap.now c.in-Local.f) c.local.ensures.row)

pub returns-in-Stack-clause-row : goal.returns-in-Stack-clause-row
returns-in-Stack-clause-row g c =
    let tables = c.args.fixed.now.tables.now in
    rw c.in-Stack.is
    (ok_runs_as tables c.args.fixed.now.shapes.now c.args.frames.now.newest c.stack.new.frames.newest c.args.heap.now c.stack.result
    (instr.Stack c.in-Stack.op) (Stack c.in-Stack.op) (stack_means tables c.args.fixed.now.shapes.now c.args.frames.now.newest c.stack.new.frames.newest
    c.args.heap.now c.in-Stack.op) c.stack.ensures.row)

pub returns-in-Flow-clause-row : goal.returns-in-Flow-clause-row
returns-in-Flow-clause-row g c =
    let tables = c.args.fixed.now.tables.now in
    rw c.in-Flow.is
    (runs_as tables c.args.fixed.now.shapes.now c.args.frames.now.newest c.flow.new.frames.newest c.args.heap.now
    (instr.Flow c.in-Flow.f) (flow_meant c.in-Flow.f) c.flow.result (flow_means tables c.args.fixed.now.shapes.now
    c.args.frames.now.newest c.flow.new.frames.newest c.args.heap.now c.in-Flow.f) c.flow.ensures.row)

pub returns-in-Table-clause-row : goal.returns-in-Table-clause-row
returns-in-Table-clause-row g c =
    rw c.in-Table.is
    (runs_table c.args.fixed.now.tables.now c.args.fixed.now.shapes.now c.args.frames.now.newest c.table.new.frames.newest c.args.heap.now c.table.result
    c.in-Table.c c.table.ensures.row)

pub returns-in-Lookup-clause-row : goal.returns-in-Lookup-clause-row
returns-in-Lookup-clause-row g c =
    let tables = c.args.fixed.now.tables.now in
    rw c.in-Lookup.is
    (runs_as tables c.args.fixed.now.shapes.now c.args.frames.now.newest c.lookup.new.frames.newest c.args.heap.now
    (instr.Lookup c.in-Lookup.c) (lookup_meant tables c.in-Lookup.c) c.lookup.result (lookup_means tables c.args.fixed.now.shapes.now
    c.args.frames.now.newest c.lookup.new.frames.newest c.args.heap.now c.in-Lookup.c) c.lookup.ensures.row)

pub returns-in-Array-clause-row : goal.returns-in-Array-clause-row
returns-in-Array-clause-row g c =
    rw c.in-Array.is
    (runs_array c.args.fixed.now.tables.now c.args.fixed.now.shapes.now c.args.frames.now.newest c.array.new.frames.newest c.args.heap.now c.array.result
    c.in-Array.f c.array.new.heap c.array.ensures.row)
