use Rattle.std.proofs.Common.{◌≡◌, ◌≤◌, false, length, drop}
use Rattle.std.specs.List.{list_any}
use Rattle.jparts.specs.jpool.ClassNames.{is_slash}
use Rattle.jresolution.proofs.jprogram.parts.package_of.Given as goal

abbrev pub invariant-loop-end : goal.invariant-loop-end
invariant-loop-end l = (l.end ≤ length l.name) × (list_any is_slash (drop l.end l.name) ≡ false)

abbrev pub decreases-loop-end : goal.decreases-loop-end
decreases-loop-end l = l.end
