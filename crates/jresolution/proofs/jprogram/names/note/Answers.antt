use Rattle.std.proofs.Common.{sym, ◌∙◌}
use Rattle.jresolution.proofs.JprogramProofs.NameTables.{noted, noted_before}
use Rattle.jresolution.proofs.jprogram.names.note.Goals as goal

pub returns : goal.returns
returns c = noted c.args.name.now c.args.i c.in_ok-own.own c.args.places.now c.insert.new.self c.in_ok-own.ensures.items (sym c.contains_key.ensures ∙ c.if-contains_key.false) c.in_ok-insert.ensures.updates

pub returns-then-contains_key : goal.returns-then-contains_key
returns-then-contains_key c = noted_before c.args.name.now c.args.i c.args.places.now (sym c.contains_key.ensures ∙ c.if-contains_key.true)
