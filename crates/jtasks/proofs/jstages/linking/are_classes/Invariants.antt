use Rattle.std.proofs.Common.{take}
use Rattle.std.specs.List.{AllByRecursion}
use Rattle.jrewriting.proofs.JrewriteProofs.MovedParts.{IsFile}
use Rattle.jtasks.proofs.jstages.linking.are_classes.Given as goal

abbrev pub invariant-loop-part : goal.invariant-loop-part
invariant-loop-part l = AllByRecursion IsFile (take l.part-index l.program.parts)
