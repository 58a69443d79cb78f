use Rattle.std.proofs.Common.{◌≡◌, drop}
use Rattle.jground.specs.jbase.FirstFaults.{first_some}
use Rattle.jclass.specs.PoolOperands.{misnamed}
use Rattle.jclass.proofs.operand.first_misnamed.Given as goal

abbrev pub invariant-loop-one : goal.invariant-loop-one
invariant-loop-one l = first_some (misnamed l.known) (drop l.one-index l.ops) ≡ first_some (misnamed l.known) l.ops
