use Rattle.std.proofs.Common.{◌≡◌, take}
use Rattle.jlinking.specs.jmembers.PoolTexts.{desc_marks}
use Rattle.jlinking.proofs.jmembers.descs.desc_marks.Given as goal

abbrev pub invariant-loop-one : goal.invariant-loop-one
invariant-loop-one l = l.marks.items ≡ desc_marks l.program (take l.one-index l.entries)
