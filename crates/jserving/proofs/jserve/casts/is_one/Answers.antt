use Rattle.std.proofs.Common.{◌<◌, length, rules}
use Rattle.jserving.proofs.JserveProofs.ReferenceTypes.{none_found, one_found}
use Rattle.jserving.proofs.jserve.casts.is_one.Goals as goal

pub returns-then-count-lt1 : goal.returns-then-count-lt1
returns-then-count-lt1 g c s store =
    let few : length c.args.frames.now.newest.operands < 1 = search rules in
    none_found c.heap_laws.ensures.each c.args.a.now c.args.x.now s store c.args.frames.now.newest.operands c.args.t _ few

pub returns : goal.returns
returns g c s store =
    one_found c.heap_laws.ensures.each c.args.a.now c.args.x.now s store c.args.frames.now.newest.operands c.operand.result c.args.t c.value_is.result
    c.operand.ensures c.value_is.ensures
