use Rattle.std.proofs.Common.{◌≡◌, ◌++◌, drop}
use Rattle.jgen.specs.GeneratedFiles.{class_files}
use Rattle.jgen.proofs.making.put_classes.Given as goal

abbrev pub invariant-loop-i : goal.invariant-loop-i
invariant-loop-i l = l.files ++ class_files l.size l.i (drop l.i l.kinds) ≡ l.fn.files ++ class_files l.size 0 l.kinds
