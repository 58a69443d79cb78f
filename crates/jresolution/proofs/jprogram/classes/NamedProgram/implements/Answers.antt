use Rattle.std.proofs.Common.{◌∙◌, ap, sym}
use Rattle.jresolution.specs.jprogram.ImplementedInterfaces.{is_number}
use Rattle.jresolution.proofs.JprogramProofs.ImplementationRows.{lib_has, no_number_none, nowhere_has, seen_lib, seen_none, seen_user, user_answer}
use Rattle.jresolution.proofs.jprogram.classes.NamedProgram.implements.Goals as goal

pub returns-in_default : goal.returns-in_default
returns-in_default c = no_number_none c.args.self.now c.requires.order c.args.interface.now c.args.class.now (sym c.in_default.is ∙ c.number_of.ensures)

pub returns-in-Some-User : goal.returns-in-Some-User
returns-in-Some-User c =
    c.has.ensures
    ∙ user_answer c.args.self.now c.requires.order c.args.table.now c.args.interface.now c.args.class.now c.in-Some-User.i c.in-Some.number _ c.requires.table (sym c.number_of.ensures ∙ c.in-Some.is)
    (seen_user c.args.self.now c.args.class.now c.find.result c.in-Some-User.field-0 c.in-Some-User.i c.in-Some-User.field-0-1 c.find.ensures c.in-Some-User.is c.in-Some-User.field-0-is)

pub returns-in-Some-Lib : goal.returns-in-Some-Lib
returns-in-Some-Lib c =
    c.is_number.ensures
    ∙ ap (is_number c.in-Some.number) c.listed_number.ensures
    ∙ sym (lib_has c.args.self.now c.requires.order c.args.interface.now c.args.class.now c.in-Some.number c.in-Some-Lib.class (sym c.number_of.ensures ∙ c.in-Some.is) (seen_lib c.args.self.now c.args.class.now c.find.result c.in-Some-Lib.field-0 c.in-Some-Lib.class c.find.ensures c.in-Some-Lib.is c.in-Some-Lib.field-0-is))

pub returns-in-None : goal.returns-in-None
returns-in-None c = sym (nowhere_has c.args.self.now c.requires.order c.args.interface.now c.args.class.now (seen_none c.args.self.now c.args.class.now c.find.result c.find.ensures c.in-None.is))
