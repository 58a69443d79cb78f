use Rattle.std.proofs.Common.{◌≡◌, ◌++◌, take}
use Rattle.joutput.specs.jio.TextOutput.{written}
use Rattle.jstore.proofs.storing.put_units.Given as goal

abbrev pub invariant-loop-unit : goal.invariant-loop-unit
invariant-loop-unit l = l.out ≡ l.fn.out ++ written (take l.unit-index l.units)
