use Rattle.jrows.proofs.JcallsProofs.Outcomes.{all_on_at, on_missing_at, on_null_at}
use Rattle.jrows.proofs.jcalls.calls.call_on.Goals as goal

pub returns-in-Missing-clause-row : goal.returns-in-Missing-clause-row
returns-in-Missing-clause-row g c =
    on_missing_at c.args.count c.args.what c.args.room.depth c.args.frames.now c.args.frames.now c.heap_laws.ensures.each c.args.receiver c.in-Missing.is

pub returns-in-Null-clause-row : goal.returns-in-Null-clause-row
returns-in-Null-clause-row g c =
    on_null_at c.args.count c.args.what c.args.room.depth c.args.frames.now c.raise.new.frames c.raise.result c.raise.ensures.frames c.args.receiver
    c.in-Null.is c.raise.ensures.way

pub returns-in-Object-clause-row : goal.returns-in-Object-clause-row
returns-in-Object-clause-row g c =
    all_on_at c.args.count c.args.what c.args.room.depth c.args.frames.now c.reach.new.frames c.heap_laws.ensures.each c.reach.result c.args.receiver
    c.in-Object.field-0 c.in-Object.is c.reach.ensures.row
