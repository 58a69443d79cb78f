use Rattle.std.proofs.Common.{◌≡◌, map}
use Rattle.jrewriting.specs.jrewrite.RewrittenPrograms.{seen_part}
use Rattle.jrewriting.proofs.jrewrite.rewritten.code_parts.Given as goal

abbrev pub invariant-loop-part : goal.invariant-loop-part
invariant-loop-part l = l.made ≡ map seen_part l.yielded
