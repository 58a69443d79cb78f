use Rattle.std.proofs.Common.{◌∙◌}
use Rattle.jresolution.proofs.JprogramProofs.NumberedWalks.{here_field}
use Rattle.jresolution.proofs.jprogram.classes.NamedProgram.field_here.Goals as goal

pub returns-in-User : goal.returns-in-User
returns-in-User c =
    c.field_of.ensures
    ∙ here_field c.args.self.now c.args.at.name.now c.args.key.name.now c.args.key.desc.now c.args.at.class c.in-Some.found c.in-User.i c.in-User.field-1 c.requires.at c.in-Some.is c.in-User.is
