use Rattle.std.proofs.Common.{◌≡◌, drop}
use Rattle.jground.specs.jbase.FirstFaults.{first_along}
use Rattle.jmoveclass.specs.ClassLimits.{at_method, method_limit}
use Rattle.jmoveclass.proofs.limits.methods_limit.Given as goal

abbrev pub invariant-loop-j : goal.invariant-loop-j
invariant-loop-j l =
    first_along (λ j m. at_method j (method_limit l.c.program.now l.c.class.now m)) l.j (drop l.j l.c.class.now.methods)
    ≡ first_along (λ j m. at_method j (method_limit l.c.program.now l.c.class.now m)) 0 l.c.class.now.methods
