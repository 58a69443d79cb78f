use Rattle.std.proofs.Common.{◌≡◌, ◌-◌, ◌++◌}
use Rattle.jgen.specs.GeneratedFiles.{sources}
use Rattle.jgen.proofs.texts.put_sources.Given as goal

abbrev pub invariant-loop-i : goal.invariant-loop-i
invariant-loop-i l = l.out ++ sources l.i (l.size - l.i) ≡ l.fn.out ++ sources 0 l.size
