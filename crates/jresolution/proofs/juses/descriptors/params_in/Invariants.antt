use Rattle.std.proofs.Common.{◌≤◌, length}
use Rattle.jresolution.proofs.JusesProofs.DescriptorCaches.{Params}
use Rattle.jresolution.proofs.juses.descriptors.params_in.Given as goal

abbrev pub invariant-loop-i : goal.invariant-loop-i
invariant-loop-i l = (l.i ≤ length l.params) × Params l.p l.params l.i l.types

abbrev pub decreases-loop-i : goal.decreases-loop-i
decreases-loop-i l = l.i
