use Rattle.std.proofs.Common.{◌∙◌}
use Rattle.jresolution.proofs.JprogramProofs.NumberedWalks.{here_user}
use Rattle.jresolution.proofs.jprogram.classes.NamedProgram.method_here.Goals as goal

pub returns-in-User : goal.returns-in-User
returns-in-User c =
    c.method_of.ensures
    ∙ here_user c.args.self.now c.args.at.name.now c.args.key.name.now c.args.key.desc.now c.args.at.class c.in-Some.found c.in-User.i c.in-User.field-1 c.requires.at c.in-Some.is c.in-User.is
