use Rattle.std.proofs.Common.{◌≡◌, take}
use Rattle.std.specs.List.{sum_by}
use Rattle.jshow.specs.CheckCounts.{methods_in}
use Rattle.jshow.proofs.counting.methods_of.Given as goal

abbrev pub invariant-loop-part : goal.invariant-loop-part
invariant-loop-part l = l.count ≡ sum_by methods_in (take l.part-index l.parts)
