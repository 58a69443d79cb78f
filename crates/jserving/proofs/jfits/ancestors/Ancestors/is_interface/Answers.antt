use Rattle.std.proofs.Common.{subst}
use Rattle.jresolution.specs.jprogram.ProgramClasses.{Program}
use Rattle.jserving.specs.jfits.SubtypeTables.{AreLines}
use Rattle.jserving.proofs.JfitsProofs.SuperclassWalks.{none_face}
use Rattle.jserving.proofs.jfits.ancestors.Ancestors.is_interface.Goals as goal

pub returns-in-None : goal.returns-in-None
returns-in-None c =
    let kept = subst (λ (p : Program). AreLines p c.self.inside.lines) c.self.view_is c.self.invariant in
    none_face c.args.self.now c.args.d c.in-User.i c.self.inside.lines c.as_slice.result.now c.requires c.in-User.is kept c.as_slice.ensures c.in-None.ensures.lookup.3
