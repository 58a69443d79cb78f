use Rattle.std.proofs.Common.{subst, ◌∙◌}
use Rattle.jresolution.specs.jprogram.ProgramClasses.{Program}
use Rattle.jresolution.specs.juses.EntryUses.{AreUses}
use Rattle.jstepping.proofs.jrefs.looking.uses_of.Goals as goal

pub returns : goal.returns
returns c =
    let P : Program → Type 0 = λ q. AreUses q c.uses.result.now in
    subst P (c.program.ensures ∙ c.requires.ready) c.uses.ensures
