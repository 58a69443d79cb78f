use Rattle.std.proofs.Common.{◌≡◌, map, take}
use Rattle.jrewriting.specs.jrewrite.RewrittenFiles.{out_file}
use Rattle.jrewriting.proofs.jrewrite.rewritten.out_files.Given as goal

abbrev pub invariant-loop-part : goal.invariant-loop-part
invariant-loop-part l = l.files ≡ map out_file (take l.part-index l.parts)
