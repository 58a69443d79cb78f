use Rattle.std.proofs.Common.{subst}
use Rattle.jready.specs.declared.instr.Instr.{Instr}
use Rattle.jready.specs.declared.instr.Instr.TheVariants as instrs
use Rattle.jready.specs.DecodedInstructions.{array_instr, flow_meant}
use Rattle.jstepping.specs.declared.jrefs.looking.FieldAt.{FieldAt}
use Rattle.jstepping.specs.jrefs.ReferenceRows.{IsExact, IsFetched}
use Rattle.jstepping.proofs.JrefsProofs.InstructionMeanings.{not_missing, runs_by}
use Rattle.jstepping.proofs.JrefsProofs.ClassInstructions.{as_one, field_missing, field_runs, flow_means, missing_is, missing_one, row_as, row_means}
use Rattle.jstepping.proofs.jrefs.rows.run_row.Goals as goal

pub returns-in-Flow-clause-row : goal.returns-in-Flow-clause-row
returns-in-Flow-clause-row g c =
    let x = c.args.x.now in
    let f = c.args.frames.now.newest in
    as_one x c.args.counts f c.flow.new.frames.newest c.args.heap.now c.args.heap.now c.args.one (instrs.Flow c.in-Flow.f) c.in-Flow.is c.flow.result
    (runs_by x c.args.counts (instrs.Flow c.in-Flow.f) f c.flow.new.frames.newest c.args.heap.now c.args.heap.now (flow_meant c.in-Flow.f)
    (flow_means x f.method.class c.in-Flow.f) c.flow.result c.flow.ensures.row)

pub returns-in-Flow-clause-missing : goal.returns-in-Flow-clause-missing
returns-in-Flow-clause-missing g c =
    let x = c.args.x.now in
    let f = c.args.frames.now.newest in
    missing_one x c.args.counts f f c.args.heap.now c.args.heap.now c.args.one (instrs.Flow c.in-Flow.f) c.in-Flow.is c.flow.result
    (not_missing x c.args.counts (instrs.Flow c.in-Flow.f) f f c.args.heap.now c.args.heap.now (flow_meant c.in-Flow.f) (flow_means x f.method.class c.in-Flow.f) c.flow.result)

pub returns-in-Array-clause-row : goal.returns-in-Array-clause-row
returns-in-Array-clause-row g c =
    let x = c.args.x.now in
    let f = c.args.frames.now.newest in
    as_one x c.args.counts f c.array.new.frames.newest c.args.heap.now c.array.new.heap c.args.one (instrs.Array c.in-Array.f) c.in-Array.is c.array.result
    (runs_by x c.args.counts (instrs.Array c.in-Array.f) f c.array.new.frames.newest c.args.heap.now c.array.new.heap (array_instr c.in-Array.f)
    (row_means x f.method.class c.in-Array.f) c.array.result c.array.ensures.row)

pub returns-in-Array-clause-missing : goal.returns-in-Array-clause-missing
returns-in-Array-clause-missing g c =
    let x = c.args.x.now in
    let f = c.args.frames.now.newest in
    missing_one x c.args.counts f f c.args.heap.now c.args.heap.now c.args.one (instrs.Array c.in-Array.f) c.in-Array.is c.array.result
    (not_missing x c.args.counts (instrs.Array c.in-Array.f) f f c.args.heap.now c.args.heap.now (array_instr c.in-Array.f) (row_means x f.method.class c.in-Array.f) c.array.result)

pub returns-in-Field-clause-row : goal.returns-in-Field-clause-row
returns-in-Field-clause-row g c =
    let x = c.args.x.now in
    let f = c.args.frames.now.newest in
    let a : FieldAt = record { op = c.in-Field.op; cell = c.in-Field.cell; narrow = c.in-Field.narrow; pool = c.in-Field.pool; slot = c.in-Field.slot; owner = c.in-Field.owner } in
    let one = instrs.Field a.op a.cell a.narrow a.pool a.slot a.owner in
    let exact = subst (λ (o : Instr). IsExact x o f) c.in-Field.is c.requires.exact in
    let here = subst (λ (o : Instr). IsFetched x o f) c.in-Field.is c.requires.means in
    row_as x c.args.counts f c.field.new.frames.newest c.args.heap.now c.field.new.heap c.field.result c.args.one one c.in-Field.is
    (field_runs x c.args.counts f c.field.new.frames.newest c.args.heap.now c.field.new.heap c.field.result c.field_law.ensures c.requires.lasting a exact here c.field.ensures.row)

pub returns-in-Field-clause-missing : goal.returns-in-Field-clause-missing
returns-in-Field-clause-missing g c =
    let x = c.args.x.now in
    let f = c.args.frames.now.newest in
    let a : FieldAt = record { op = c.in-Field.op; cell = c.in-Field.cell; narrow = c.in-Field.narrow; pool = c.in-Field.pool; slot = c.in-Field.slot; owner = c.in-Field.owner } in
    let one = instrs.Field a.op a.cell a.narrow a.pool a.slot a.owner in
    let exact = subst (λ (o : Instr). IsExact x o f) c.in-Field.is c.requires.exact in
    missing_is x c.args.counts f f c.args.heap.now c.args.heap.now c.field.result c.args.one one c.in-Field.is
    (field_missing x c.args.counts f f c.args.heap.now c.args.heap.now c.field.result a exact)
