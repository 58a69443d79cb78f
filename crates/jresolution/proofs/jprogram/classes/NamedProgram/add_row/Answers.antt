use Rattle.std.proofs.Common.{◌∙◌, ap, ◌≡◌, ◌||◌, true}
use Rattle.std.specs.Prelude.{IfSome, is_some, slice_get}
use Rattle.jresolution.specs.jprogram.BitSets.{Joins, has}
use Rattle.jresolution.specs.jprogram.ProgramClasses.{implements}
use Rattle.jresolution.specs.jprogram.ImplementedInterfaces.{Adds, is_number, row_in}
use Rattle.jresolution.proofs.JprogramProofs.ImplementationRows.{adds_found, adds_lib, adds_none, if_ok_both, seen_lib, seen_none, seen_user}
use Rattle.jresolution.proofs.jprogram.classes.NamedProgram.add_row.Goals as goal

pub returns-in-Some-User-clause-added : goal.returns-in-Some-User-clause-added
returns-in-Some-User-clause-added c =
    if_ok_both c.add_row_at.result (λ b. b ≡ is_some (row_in (slice_get c.args.rows.now c.in-Some-User.i))) (λ b. b ≡ true → IfSome (row_in (slice_get c.args.rows.now c.in-Some-User.i)) (λ other. Joins other c.args.row.now c.add_row_at.new.row)) (λ b. b ≡ true → Adds c.args.self.now (λ i. implements c.args.self.now c.args.name.now i) c.args.row.now c.add_row_at.new.row)
    (λ b made added. adds_found c.args.self.now c.args.rows.now c.args.name.now c.in-Some-User.i _ c.args.row.now c.add_row_at.new.row b c.requires.rows
    (seen_user c.args.self.now c.args.name.now c.find.result c.in-Some-User.field-0 c.in-Some-User.i c.in-Some-User.field-0-1 c.find.ensures c.in-Some-User.is c.in-Some-User.field-0-is) made added) c.add_row_at.ensures.made c.add_row_at.ensures.added

pub returns-in_ok-put_some-in-Some-Lib-clause-added : goal.returns-in_ok-put_some-in-Some-Lib-clause-added
returns-in_ok-put_some-in-Some-Lib-clause-added c = λ _.
    adds_lib c.args.self.now c.requires.order c.args.name.now c.in-Some-Lib.class c.args.row.now c.put_some.new.row
    (seen_lib c.args.self.now c.args.name.now c.find.result c.in-Some-Lib.field-0 c.in-Some-Lib.class c.find.ensures c.in-Some-Lib.is c.in-Some-Lib.field-0-is)
    (λ n. c.in_ok-put_some-in-Some-Lib.ensures n ∙ ap (λ o. has c.args.row.now n || is_number n o) c.listed_number.ensures)

pub returns-in-None-clause-added : goal.returns-in-None-clause-added
returns-in-None-clause-added c = λ _. adds_none c.args.self.now c.requires.order c.args.name.now c.args.row.now (seen_none c.args.self.now c.args.name.now c.find.result c.find.ensures c.in-None.is)
