use Rattle.std.proofs.Common.{◌≡◌, drop, map}
use Rattle.jresolution.specs.juses.InternedTypes.{named}
use Rattle.jtyping.specs.jrule.StackEffects.{Fits}
use Rattle.jserving.specs.jserve.OperandChecks.{all_serve, serves_in}
use Rattle.jserving.proofs.jserve.serving.params_serve.Given as goal

abbrev pub invariant-loop-i : goal.invariant-loop-i
invariant-loop-i g l =
    all_serve (serves_in l.a l.x) (map Fits (map (named l.a) (drop l.i l.params))) (drop l.i l.frames.newest.operands)
    ≡ all_serve (serves_in l.a l.x) (map Fits (map (named l.a) l.params)) l.frames.newest.operands
