use Rattle.std.proofs.Common.{◌≡◌, take}
use Rattle.std.specs.List.{count_by}
use Rattle.jresolution.specs.jprogram.ClassFileParts.{has_code}
use Rattle.jshow.proofs.counting.methods_in.Given as goal

abbrev pub invariant-loop-method : goal.invariant-loop-method
invariant-loop-method l = l.count ≡ count_by has_code (take l.method-index l.methods)
