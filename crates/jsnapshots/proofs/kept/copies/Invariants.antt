use Rattle.std.proofs.Common.{◌≡◌, take}
use Rattle.jsnapshots.proofs.kept.copies.Given as goal

abbrev pub invariant-loop-limit : goal.invariant-loop-limit
invariant-loop-limit l = l.made ≡ take l.limit-index l.limits
