use Rattle.std.proofs.Common.{◌≡◌, drop, map}
use Rattle.jresolution.specs.jprogram.ProgramClasses.{tree}
use Rattle.jresolution.specs.juses.InternedTypes.{named}
use Rattle.jtyping.specs.jrule.StackEffects.{Fits}
use Rattle.jtyping.specs.jrule.StackOperands.{taken}
use Rattle.jtyping.specs.jrule.InternedFrames.{seen}
use Rattle.jtyping.proofs.jrule.operands.take_arguments.Given as goal

abbrev pub invariant-loop-t : goal.invariant-loop-t
invariant-loop-t l = taken (tree l.p) (map Fits (map (named l.p) (drop l.t-index l.types))) (seen l.p l.left) ≡ taken (tree l.p) (map Fits (map (named l.p) l.types)) (seen l.p l.fn.f)
