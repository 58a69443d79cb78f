use Rattle.std.proofs.Common.{ℕ}
use Rattle.jrows.proofs.JtextsProofs.BuilderRows.{given_back}
use Rattle.jrows.proofs.jtexts.builders.append_text.Goals as goal

pub returns-clause-row : goal.returns-clause-row
returns-clause-row g c =
    given_back ℕ _ c.args.heap.now c.append_units.new.heap c.append_units.result c.args.b c.last_of-last.result c.args.units.now c.last_of-last.ensures.is
    c.append_units.ensures.row
