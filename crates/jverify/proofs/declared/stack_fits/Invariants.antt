use Rattle.std.proofs.Common.{◌≡◌}
use Rattle.jverify.proofs.ChainComparison.{rest_fits}
use Rattle.jverify.proofs.declared.stack_fits.Given as goal

abbrev pub invariant-loop-i : goal.invariant-loop-i
invariant-loop-i l = rest_fits l.p l.from l.to l.i ≡ rest_fits l.p l.from l.to 0
