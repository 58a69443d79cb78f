use Rattle.std.proofs.Common.{◌≡◌, drop}
use Rattle.jground.specs.jbase.FirstFaults.{first_some}
use Rattle.jlinking.specs.jreferring.CodeUnits.{handler_test}
use Rattle.jlinking.proofs.jreferring.units.handlers_test.Given as goal

abbrev pub invariant-loop-one : goal.invariant-loop-one
invariant-loop-one l = first_some (handler_test l.table) (drop l.one-index l.handlers) ≡ first_some (handler_test l.table) l.handlers
