use Rattle.std.proofs.Common.{◌≡◌, take}
use Rattle.jmoveclass.specs.CallExpansion.{expands}
use Rattle.jmoveclass.proofs.calls.expands.Given as goal

abbrev pub invariant-loop-one : goal.invariant-loop-one
invariant-loop-one l = l.all ≡ expands l.c.program.now l.c.class.now.pool (take l.one-index l.ops)
