use Rattle.std.proofs.Common.{ℕ, arith}
use Rattle.jrows.proofs.JtextsProofs.BuilderAppends.{append_stays, cell_there, named_celled, piece_there, row_full, row_some}
use Rattle.jrows.proofs.jtexts.builders.append_units.Goals as goal

pub name_piece-requires-clause-cell : goal.name_piece-requires-clause-cell
name_piece-requires-clause-cell g c =
    cell_there c.args.heap.now c.put_units.new.heap c.args.units.now c.args.b c.in-Some.o c.requires.builder c.requires.cell
    (rw c.in-Some.is at c.in_ok-put_units.ensures.puts)

pub name_piece-requires-clause-piece : goal.name_piece-requires-clause-piece
name_piece-requires-clause-piece g c =
    piece_there c.args.heap.now c.put_units.new.heap c.args.units.now c.in-Some.o (rw c.in-Some.is at c.in_ok-put_units.ensures.puts)

pub returns-in-None-clause-row : goal.returns-in-None-clause-row
returns-in-None-clause-row g c p shapes things constants results gives =
    row_full ℕ c.args.heap.now c.put_units.new.heap c.args.units.now c.args.b c.args.last (rw c.in-None.is at c.in_ok-put_units.ensures.puts) p shapes
    things constants results

pub returns-in-Some-clause-row : goal.returns-in-Some-clause-row
returns-in-Some-clause-row g c =
    row_some ℕ c.piece_laws.ensures.adds c.piece_laws.ensures.keeps c.heap_laws.ensures.writes c.args.heap.now c.put_units.new.heap c.name_piece.new.heap c.args.units.now c.args.b c.args.last c.in-Some.o
    c.args.done
    c.requires.built c.requires.builder c.requires.cell c.requires.last (omega arith) (λ i. omega (arith, c.type_inv.units i))
    (rw c.in-Some.is at c.in_ok-put_units.ensures.puts)
    c.name_piece.ensures

pub returns-in-Some-clause-built : goal.returns-in-Some-clause-built
returns-in-Some-clause-built g c =
    append_stays c.piece_laws.ensures.more c.piece_laws.ensures.named c.args.heap.now c.put_units.new.heap c.name_piece.new.heap c.args.units.now c.args.b c.args.last c.in-Some.o c.requires.built
    c.requires.builder c.requires.cell
    c.requires.last (rw c.in-Some.is at c.in_ok-put_units.ensures.puts) c.name_piece.ensures

pub returns-in-Some-clause-celled : goal.returns-in-Some-clause-celled
returns-in-Some-clause-celled g c =
    named_celled c.celled_laws.ensures.behind c.celled_laws.ensures.written c.args.heap.now c.put_units.new.heap c.name_piece.new.heap c.args.b c.args.last c.in-Some.o
    c.in_ok-put_units.ensures.celled c.name_piece.ensures
