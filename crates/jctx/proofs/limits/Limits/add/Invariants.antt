use Rattle.std.proofs.Common.{◌≡◌, drop}
use Rattle.jctx.specs.PrivilegeLimits.{add_limits}
use Rattle.jctx.proofs.limits.Limits.add.Given as goal

-- adding what is left gives what adding all gives
abbrev pub invariant-loop-p : goal.invariant-loop-p
invariant-loop-p l = add_limits l.self (drop l.p-index l.new) ≡ add_limits l.fn.self l.fn.new
