use Rattle.std.proofs.Common.{arith, ◌≡◌, suc, ◌-◌}
use Rattle.jtyping.proofs.JruleProofs.LocalWrites.{broken_named}
use Rattle.jtyping.proofs.jrule.locals.broken.Goals as goal

pub returns-then-is_long_at : goal.returns-then-is_long_at
returns-then-is_long_at c =
    let behind : c.args.n ≡ suc (c.args.n - 1) = omega arith in
    broken_named c.args.p.now c.args.locals c.set.new.self c.args.n (c.args.n - 1) behind
    (grind (arith, c.is_long_at.ensures, c.if-is_long_at.true)) c.in_ok-set.ensures.ok
