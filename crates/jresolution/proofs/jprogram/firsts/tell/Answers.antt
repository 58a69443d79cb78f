use Rattle.std.proofs.Common.{sym, ◌∙◌}
use Rattle.jresolution.proofs.JprogramProofs.DigestTables.{tells_new, tells_before}
use Rattle.jresolution.proofs.jprogram.firsts.tell.Goals as goal

pub returns : goal.returns
returns c = tells_new c.args.sum c.args.k c.args.places.now c.insert.new.self (sym c.contains_key.ensures ∙ c.if-contains_key.false) c.in_ok-insert.ensures.updates

pub returns-then-contains_key : goal.returns-then-contains_key
returns-then-contains_key c = tells_before c.args.sum c.args.k c.args.places.now (sym c.contains_key.ensures ∙ c.if-contains_key.true)
