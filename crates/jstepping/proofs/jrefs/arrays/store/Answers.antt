use Rattle.jstepping.proofs.JrefsProofs.OperandRows.{store_row}
use Rattle.jstepping.proofs.jrefs.arrays.store.Goals as goal

pub returns-clause-row : goal.returns-clause-row
returns-clause-row g c =
    store_row c.args.x.now c.args.frames.now.newest c.store_ref.new.frames.newest c.args.heap.now c.store_ref.new.heap c.args.counts c.store_ref.result
    c.serves_store-serve.result c.holds_stored-is.result c.serves_store-serve.ensures c.holds_stored-is.ensures c.store_ref.ensures.row
