use Rattle.std.proofs.Common.{◌≡◌, drop}
use Rattle.jground.specs.jbase.FirstFaults.{first_along}
use Rattle.jresolution.specs.jprogram.NameChecks.{in_class}
use Rattle.jresolution.specs.jprogram.SuperChecks.{supers_test}
use Rattle.jresolution.proofs.jprogram.classes.NamedProgram.supers_fault.Given as goal

abbrev pub invariant-loop-i : goal.invariant-loop-i
invariant-loop-i l = first_along (λ i part. in_class i (supers_test l.self part)) l.i (drop l.i l.self.parts) ≡ first_along (λ i part. in_class i (supers_test l.self part)) 0 l.self.parts
