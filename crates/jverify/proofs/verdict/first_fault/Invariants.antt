use Rattle.std.proofs.Common.{◌≡◌, drop}
use Rattle.jground.specs.jbase.FirstFaults.{first_along}
use Rattle.jtyping.specs.jwelltyped.VerifierTests.{class_fault, type_fault}
use Rattle.jverify.proofs.verdict.first_fault.Given as goal

abbrev pub invariant-loop-i : goal.invariant-loop-i
invariant-loop-i l = first_along (class_fault l.p) l.i (drop l.i l.p.parts) ≡ type_fault l.p
