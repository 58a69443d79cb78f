use Rattle.jrows.proofs.JtextsProofs.BuilderAppends.{emptied, emptied_stays, written_celled}
use Rattle.jrows.proofs.JtextsProofs.BuilderRows.{init_stuck}
use Rattle.jrows.proofs.jtexts.builders.builder_init.Goals as goal

pub set_cell-requires : goal.set_cell-requires
set_cell-requires g c = c.requires.cell c.in-Some.b c.in-Some.ensures

pub returns-in_default-clause-row : goal.returns-in_default-clause-row
returns-in_default-clause-row g c p shapes things constants =
    init_stuck _ c.heap_laws.ensures.each c.args.heap.now p shapes things constants c.args.builder c.in_default.ensures

pub returns-clause-row : goal.returns-clause-row
returns-clause-row g c =
    emptied _ c.heap_laws.ensures.each c.heap_laws.ensures.writes c.args.heap.now c.set_cell.new.self c.args.builder c.in-Some.b c.in-Some.ensures
    (c.requires.cell c.in-Some.b c.in-Some.ensures) c.set_cell.ensures

pub returns-clause-built : goal.returns-clause-built
returns-clause-built g c =
    emptied_stays c.piece_laws.ensures.named c.args.heap.now c.set_cell.new.self c.args.builder c.in-Some.b c.requires.built c.in-Some.ensures
    (c.requires.cell c.in-Some.b c.in-Some.ensures) c.set_cell.ensures

pub returns-clause-celled : goal.returns-clause-celled
returns-clause-celled g c = written_celled c.celled_laws.ensures.written c.args.heap.now c.set_cell.new.self c.in-Some.b 0 0 c.set_cell.ensures
