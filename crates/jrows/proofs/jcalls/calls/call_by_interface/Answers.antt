use Rattle.jrows.proofs.JcallsProofs.Outcomes.{all_faces_at, face_missing_at, face_null_at, hidden_fails_at, without_face_at}
use Rattle.jrows.proofs.jcalls.calls.call_by_interface.Goals as goal

pub returns-then-not-has-clause-row : goal.returns-then-not-has-clause-row
returns-then-not-has-clause-row g c =
    without_face_at c.args.count c.args.what c.args.room.depth c.args.frames.now c.raise-then-not-has.new.frames c.raise-then-not-has.result
    c.raise-then-not-has.ensures.frames
    c.heap_laws.ensures.each c.args.has c.args.hidden c.args.receiver c.in-Object.field-0 c.in-Object.is c.if-not-has.true c.raise-then-not-has.ensures.way

pub returns-then-hidden-clause-row : goal.returns-then-hidden-clause-row
returns-then-hidden-clause-row g c =
    hidden_fails_at c.args.count c.args.what c.args.room.depth c.args.frames.now c.raise-then-hidden.new.frames c.raise-then-hidden.result
    c.raise-then-hidden.ensures.frames
    c.heap_laws.ensures.each c.args.has c.args.hidden c.args.receiver c.in-Object.field-0 c.in-Object.is c.if-not-has.false c.if-hidden.true
    c.raise-then-hidden.ensures.way

pub returns-in-Missing-clause-row : goal.returns-in-Missing-clause-row
returns-in-Missing-clause-row g c =
    face_missing_at c.args.count c.args.what c.args.room.depth c.args.frames.now c.args.frames.now c.heap_laws.ensures.each c.args.has c.args.hidden
    c.args.receiver c.in-Missing.is

pub returns-in-Null-clause-row : goal.returns-in-Null-clause-row
returns-in-Null-clause-row g c =
    face_null_at c.args.count c.args.what c.args.room.depth c.args.frames.now c.raise.new.frames c.raise.result c.raise.ensures.frames
    c.args.has c.args.hidden c.args.receiver c.in-Null.is c.raise.ensures.way

pub returns-else-hidden-clause-row : goal.returns-else-hidden-clause-row
returns-else-hidden-clause-row g c =
    all_faces_at c.args.count c.args.what c.args.room.depth c.args.frames.now c.reach.new.frames c.heap_laws.ensures.each c.reach.result
    c.args.receiver c.args.has c.args.hidden c.in-Object.field-0 c.in-Object.is c.if-not-has.false c.if-hidden.false c.reach.ensures.row
