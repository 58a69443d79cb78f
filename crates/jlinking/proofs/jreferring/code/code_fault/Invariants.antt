use Rattle.std.proofs.Common.{◌≡◌, drop}
use Rattle.jground.specs.jbase.FirstFaults.{first_along}
use Rattle.jlinking.specs.jreferring.CodeChecks.{class_fault}
use Rattle.jlinking.proofs.jreferring.code.code_fault.Given as goal

abbrev pub invariant-loop-i : goal.invariant-loop-i
invariant-loop-i l = first_along (λ i part. class_fault l.program i part.class) l.i (drop l.i l.program.parts) ≡ first_along (λ i part. class_fault l.program i part.class) 0 l.program.parts
