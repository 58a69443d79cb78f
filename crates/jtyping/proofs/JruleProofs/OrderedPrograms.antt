-- In a program whose classes stand in order the rule keeps frames of more precise types.
use Rattle.std.proofs.Common.{ap, ◌∙◌}
use Rattle.jresolution.specs.jprogram.ProgramClasses.{Program, extends, tree}
use Rattle.jresolution.specs.jprogram.OrderedPrograms.{StandsInOrder}
use Rattle.jresolution.proofs.JprogramProofs.SuperclassOrder as extending
use Rattle.jtyping.specs.jrule.PreciseFrames.{IsPreciseItself, KeepsPrecise, PreciseFits}
use Rattle.jtyping.proofs.JruleProofs.RuleMonotonicity.{form_kept, frame_fit, precise_is, sharp_frame, sharp_is}
use Rattle.jtyping.proofs.JruleProofs.PreciseTypes.{InOrder}

in_order : (p : Program) → StandsInOrder p → InOrder (tree p)
in_order p stands = record {
  itself = λ c. extending.extends_itself p c.0;
  chain = λ c d e first second. extending.extends_chain p stands c.0 d.0 e.0 first second;
  below_object = λ c d at. ap (extends p c.0) at ∙ extending.extends_object p c.0;
  interfaces = extending.interfaces_extend p stands;
}

pub precise_itself : (p : Program) → IsPreciseItself p
precise_itself p f stands = precise_is (tree p) (in_order p stands) f f (sharp_frame (tree p) (in_order p stands) f)

pub precise_fits : (p : Program) → PreciseFits p
precise_fits p a b c stands s f = let o = in_order p stands in frame_fit (tree p) o a b c (sharp_is (tree p) o a b s) f

pub keeps_precise : (S : Type 0) (p : Program) → KeepsPrecise S p
keeps_precise S p here pool form a b c stands s e =
    let o = in_order p stands in
    let found = form_kept p o here pool form a b c (sharp_is (tree p) o a b s) e in
    (found.frame, found.is, precise_is (tree p) o found.frame c found.sharp)
