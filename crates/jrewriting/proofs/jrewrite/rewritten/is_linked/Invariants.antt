use Rattle.std.proofs.Common.{take}
use Rattle.std.specs.List.{AllByRecursion}
use Rattle.jrewriting.proofs.JrewriteProofs.MovedParts.{IsFile}
use Rattle.jrewriting.proofs.jrewrite.rewritten.is_linked.Given as goal

abbrev pub invariant-loop-part : goal.invariant-loop-part
invariant-loop-part l = AllByRecursion IsFile (take l.part-index l.p.parts)
