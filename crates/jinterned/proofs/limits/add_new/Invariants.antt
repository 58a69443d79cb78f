use Rattle.std.proofs.Common.{◌≡◌, drop}
use Rattle.jctx.specs.PrivilegeLimits.{add_limits}
use Rattle.jinterned.proofs.limits.add_new.Given as goal

-- adding what is left gives what adding all gives
abbrev pub invariant-loop-p : goal.invariant-loop-p
invariant-loop-p l = add_limits l.made (drop l.p-index l.new) ≡ add_limits l.fn.made l.fn.new
