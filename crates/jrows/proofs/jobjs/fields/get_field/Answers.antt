use Rattle.std.proofs.Common.{◌≡◌, rules}
use Rattle.std.specs.Prelude.{true, false}
use Rattle.jrows.proofs.JobjsProofs.FieldReads.{get_none, get_not, get_null, get_other, get_some}
use Rattle.jrows.proofs.JobjsProofs.ServedOperands.{has_target, target_there}
use Rattle.jrows.proofs.jobjs.fields.get_field.Goals as goal

pub slot_at-requires : goal.slot_at-requires
slot_at-requires g c = target_there c.args.heap.now c.args.frames.now.newest.operands c.in-Object.o c.in-Object.field-1 c.in-Object.ensures

pub give_one-requires-clause-few : goal.give_one-requires-clause-few
give_one-requires-clause-few g c = has_target c.args.heap.now c.args.frames.now.newest.operands c.in-Object.o c.in-Object.field-1 c.in-Object.ensures

pub returns-then-not-serve-clause-row : goal.returns-then-not-serve-clause-row
returns-then-not-serve-clause-row g c p shapes things constants f =
    let serve : c.args.serve ≡ false = search rules in
    rw serve (get_not p shapes things constants c.args.heap.now c.args.frames.now.newest f c.args.slot c.args.of c.args.frames.now.newest)

pub returns-in-Other-clause-row : goal.returns-in-Other-clause-row
returns-in-Other-clause-row g c p shapes things constants f =
    let serve : c.args.serve ≡ true = search rules in
    rw serve (get_other p shapes things constants c.args.heap.now c.args.frames.now.newest f c.args.slot c.args.of c.heap_laws.ensures.each c.in-Other.ensures c.args.frames.now.newest)

pub returns-in-Null-clause-row : goal.returns-in-Null-clause-row
returns-in-Null-clause-row g c p shapes things constants f =
    let serve : c.args.serve ≡ true = search rules in
    rw serve (get_null p shapes things constants c.args.heap.now c.args.frames.now.newest f c.args.slot c.args.of c.in-Null.ensures)

pub returns-in-None-clause-row : goal.returns-in-None-clause-row
returns-in-None-clause-row g c p shapes things constants f =
    let serve : c.args.serve ≡ true = search rules in
    rw serve (get_none p shapes things constants c.args.heap.now c.args.frames.now.newest f c.args.slot c.args.of c.heap_laws.ensures.each c.in-Object.o c.in-Object.field-1 c.in-Object.ensures c.cell_laws.ensures.none c.in-None.ensures c.args.frames.now.newest)

pub returns-in-Some-clause-row : goal.returns-in-Some-clause-row
returns-in-Some-clause-row g c p shapes things constants f =
    let serve : c.args.serve ≡ true = search rules in
    rw (serve, c.give_one.ensures.way, c.give_one.ensures.frames)
    (get_some p shapes things constants c.args.heap.now c.args.frames.now.newest f c.args.slot c.args.of c.heap_laws.ensures.each c.in-Object.o c.in-Object.field-1 c.in-Object.ensures c.cell_laws.ensures.reads c.way_laws.ensures
    c.in-Some.value c.in-Some.ensures)
