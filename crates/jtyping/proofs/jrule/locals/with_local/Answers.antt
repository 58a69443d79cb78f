use Rattle.std.proofs.Common.{arith, ◌≡◌, length}
use Rattle.jtyping.proofs.JruleProofs.OperandSlots.{size_parts}
use Rattle.jtyping.proofs.JruleProofs.LocalWrites.{long_named, same_length}
use Rattle.jtyping.proofs.jrule.locals.with_local.Goals as goal

pub set-requires : goal.set-requires
set-requires c =
    let same : length c.in_ok-locals.locals ≡ length c.args.locals = same_length c.args.p.now c.args.locals c.in_ok-locals.locals c.args.n c.in_ok-locals.ensures in
    let parts = size_parts c.args.t in
    omega (arith, same, parts, c.requires)

pub returns-in_ok-set-in-Long : goal.returns-in_ok-set-in-Long
returns-in_ok-set-in-Long c =
    long_named c.args.p.now c.args.locals c.in_ok-locals.locals c.set.new.self c.set-in-Long.new.self c.args.n c.args.t
    c.in-Long.is c.in_ok-locals.ensures c.in_ok-set.ensures.ok c.in_ok-set-in-Long.ensures.ok
