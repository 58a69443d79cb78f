use Rattle.std.proofs.Common.{◌≡◌, ◌<◌, true, false, length, rules}
use Rattle.jvalues.specs.jops.ValueKinds.{is_of}
use Rattle.jrows.proofs.JcallsProofs.MethodReturns.{all_number, number_other, number_short}
use Rattle.jrows.proofs.jcalls.returns.return_number.Goals as goal

pub returns-then-count-lt1-clause-row : goal.returns-then-count-lt1-clause-row
returns-then-count-lt1-clause-row g c =
    let few : length c.args.frames.now.newest.operands < 1 = search rules in
    number_short c.args.marks.now c.args.frames.now c.args.frames.now c.args.kind c.requires.number few

pub returns-then-not-is_of-clause-row : goal.returns-then-not-is_of-clause-row
returns-then-not-is_of-clause-row g c =
    let other : is_of c.args.kind c.operand-value.result ≡ false = search rules in
    number_other c.args.marks.now c.args.frames.now c.args.frames.now c.args.kind c.operand-value.result c.requires.number c.operand-value.ensures other

pub returns-clause-row : goal.returns-clause-row
returns-clause-row g c =
    let fits : is_of c.args.kind c.operand-value.result ≡ true = search rules in
    all_number c.args.marks.now c.args.frames.now c.leave.new.frames c.leave.result c.args.kind c.operand-value.result c.requires.number
    c.operand-value.ensures fits c.leave.ensures.row
