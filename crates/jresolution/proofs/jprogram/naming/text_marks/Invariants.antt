use Rattle.std.proofs.Common.{◌≡◌, take}
use Rattle.jresolution.specs.jprogram.NameChecks.{text_marks}
use Rattle.jresolution.proofs.jprogram.naming.text_marks.Given as goal

abbrev pub invariant-loop-one : goal.invariant-loop-one
invariant-loop-one l = l.marks.items ≡ text_marks (take l.one-index l.entries)
