use Rattle.std.proofs.Common.{◌≡◌, drop}
use Rattle.jground.specs.jbase.FirstFaults.{first_along}
use Rattle.jlinking.specs.jreferring.CodeChecks.{method_test}
use Rattle.jlinking.specs.ProofNames.{methods_fault}
use Rattle.jlinking.specs.jreferring.PoolTextCache.{AreHanded}
use Rattle.jlinking.proofs.jreferring.code.methods_fault.Given as goal
use Rattle.jlinking.specs.jmembers.MemberDeclarations.{at_member as in_method}

abbrev pub invariant-loop-j : goal.invariant-loop-j
invariant-loop-j l =
    (first_along (λ j m. in_method l.i j (method_test l.home.program.now l.home.from.now l.home.pool.now l.table m)) l.j (drop l.j l.methods)
    ≡ methods_fault l.home.program.now l.i l.home.from.now l.home.pool.now l.table l.methods)
    × AreHanded l.home.program.now l.home.from.now l.home.pool.now l.handed
