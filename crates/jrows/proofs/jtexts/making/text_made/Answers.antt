use Rattle.std.proofs.Common.{arith}
use Rattle.jrows.proofs.JtextsProofs.TextRows.{text_row}
use Rattle.jrows.proofs.jtexts.making.text_made.Goals as goal

pub returns-in-Some-clause-row : goal.returns-in-Some-clause-row
returns-in-Some-clause-row g c p shapes things constants =
    text_row c.piece_laws.ensures.adds p shapes things constants c.args.units.now c.args.heap.now c.put_units.new.heap c.in-Some.o c.requires (λ i. omega (arith, c.type_inv.units i)) (rw c.in-Some.is at c.in_ok-put_units.ensures.puts)
