use Rattle.std.proofs.Common.{◌≡◌, map, take}
use Rattle.jresolution.specs.declared.jprogram.part.CodePart.{CodePart}
use Rattle.jforms.proofs.jtables.grounds.marks_by.Given as goal

abbrev pub invariant-loop-part : goal.invariant-loop-part
invariant-loop-part g l = l.marks ≡ map (λ (part : CodePart). g.G.Guard.mark part.domain) (take l.part-index l.program.parts)
