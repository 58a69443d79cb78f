use Rattle.std.proofs.Common.{◌≡◌, drop}
use Rattle.jground.specs.jbase.FirstFaults.{first_some}
use Rattle.jlinking.specs.jreferring.ClassNameAccess.{type_test}
use Rattle.jlinking.proofs.jreferring.names.types_test.Given as goal

abbrev pub invariant-loop-one : goal.invariant-loop-one
invariant-loop-one l = first_some (type_test l.program l.from) (drop l.one-index l.types) ≡ first_some (type_test l.program l.from) l.types
