use Rattle.std.proofs.Common.{◌≡◌, take}
use Rattle.std.specs.List.{filter}
use Rattle.jmoveclass.specs.KeptAttributes.{class_keeps}
use Rattle.jmoveclass.proofs.kept.kept_of_class.Given as goal

abbrev pub invariant-loop-one : goal.invariant-loop-one
invariant-loop-one l = l.kept ≡ filter (class_keeps l.pool) (take l.one-index l.attributes)
