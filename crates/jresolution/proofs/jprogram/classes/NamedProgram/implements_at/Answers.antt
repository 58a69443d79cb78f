use Rattle.std.proofs.Common.{◌∙◌, ap, sym}
use Rattle.jresolution.specs.jprogram.ProgramClasses.{name_at}
use Rattle.jresolution.specs.jprogram.ImplementedInterfaces.{is_number}
use Rattle.jresolution.proofs.JprogramProofs.ImplementationRows.{at_lib, at_user, no_number_none, number_is}
use Rattle.jresolution.proofs.jprogram.classes.NamedProgram.implements_at.Goals as goal

pub returns-in_default : goal.returns-in_default
returns-in_default c =
    no_number_none c.args.self.now c.requires.order (name_at c.args.self.now c.args.interface) (name_at c.args.self.now c.args.class) (sym c.in_default.is ∙ c.number_at.ensures ∙ sym (number_is c.args.self.now c.args.interface c.requires.interface))

pub returns-in-User : goal.returns-in-User
returns-in-User c = at_user c.args.self.now c.requires.order c.args.table.now c.args.class c.args.interface c.in-User.i c.in-Some.number c.number_at.result c.has.result c.requires.table c.requires.class c.requires.interface c.in-User.is c.number_at.ensures c.in-Some.is c.has.ensures

pub returns-in-Lib : goal.returns-in-Lib
returns-in-Lib c =
    at_lib c.args.self.now c.requires.order c.args.class c.args.interface c.in-Lib.class c.in-Some.number c.number_at.result c.is_number.result c.requires.class c.requires.interface c.in-Lib.is c.number_at.ensures c.in-Some.is (c.is_number.ensures ∙ ap (is_number c.in-Some.number) c.listed_number.ensures)
