use Rattle.std.proofs.Common.{◌≡◌, take}
use Rattle.jctx.proofs.limits.Limits.copy.Given as goal

abbrev pub invariant-loop-p : goal.invariant-loop-p
invariant-loop-p l = l.made-inside.members.items ≡ take l.p-index l.p-items
