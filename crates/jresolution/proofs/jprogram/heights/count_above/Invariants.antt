use Rattle.std.proofs.Common.{◌≡◌, ◌+◌}
use Rattle.jlib.specs.LibraryClasses as library
use Rattle.jresolution.proofs.jprogram.heights.count_above.Given as goal

abbrev pub invariant-loop-above : goal.invariant-loop-above
invariant-loop-above l = l.count + library.height l.at ≡ library.height l.fn.class

abbrev pub decreases-loop-above : goal.decreases-loop-above
decreases-loop-above l = library.height l.at
