use Rattle.std.proofs.Common.{◌≡◌, drop}
use Rattle.jground.specs.jbase.FirstFaults.{first_along}
use Rattle.jtyping.specs.jwelltyped.VerifierTests.{in_method, member_fault}
use Rattle.jverify.specs.MethodStarts.{methods_fault}
use Rattle.jverify.proofs.verdict.methods_fault.Given as goal

abbrev pub invariant-loop-j : goal.invariant-loop-j
invariant-loop-j l = first_along (λ j m. in_method l.i j (member_fault l.p l.class m)) l.j (drop l.j l.class.methods) ≡ methods_fault l.p l.i l.class
