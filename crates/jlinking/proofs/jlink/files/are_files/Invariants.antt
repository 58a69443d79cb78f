use Rattle.std.proofs.Common.{take}
use Rattle.std.specs.List.{AllByRecursion}
use Rattle.jlinking.specs.jlink.ProgramFiles.{IsFile}
use Rattle.jlinking.proofs.jlink.files.are_files.Given as goal

abbrev pub invariant-loop-part : goal.invariant-loop-part
invariant-loop-part l = AllByRecursion IsFile (take l.part-index l.p.parts)
