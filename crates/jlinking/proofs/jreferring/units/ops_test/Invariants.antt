use Rattle.std.proofs.Common.{◌≡◌, drop}
use Rattle.jground.specs.jbase.FirstFaults.{first_some}
use Rattle.jlinking.specs.jreferring.CodeUnits.{op_test}
use Rattle.jlinking.proofs.jreferring.units.ops_test.Given as goal

abbrev pub invariant-loop-one : goal.invariant-loop-one
invariant-loop-one l = first_some (op_test l.table) (drop l.one-index l.ops) ≡ first_some (op_test l.table) l.ops
