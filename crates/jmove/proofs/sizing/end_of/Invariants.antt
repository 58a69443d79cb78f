use Rattle.std.proofs.Common.{◌≡◌, drop}
use Rattle.jmove.specs.AssemblyLines.{end_of}
use Rattle.jmove.specs.MethodExpansion.{expansions}
use Rattle.jmove.proofs.sizing.end_of.Given as goal

abbrev pub invariant-loop-i : goal.invariant-loop-i
invariant-loop-i l = end_of l.at (expansions l.s (drop l.i l.kinds) (drop l.i l.ops)) ≡ end_of l.fn.at (expansions l.s l.kinds l.ops)
