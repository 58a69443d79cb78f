use Rattle.jruntime.specs.jstate.HeapMeanings.{store_by}
use Rattle.jrows.proofs.JactsProofs.ArrayInstructions.{length_here, length_null, length_other}
use Rattle.jrows.proofs.jacts.arrays.array_length.Goals as goal

pub returns-in-Other-clause-row : goal.returns-in-Other-clause-row
returns-in-Other-clause-row g c p shapes things constants =
    length_other c.args.frames.now.newest p shapes things constants c.args.heap.now c.args.frames.now.newest c.in-Other.ensures

pub returns-in-Null-clause-row : goal.returns-in-Null-clause-row
returns-in-Null-clause-row g c p shapes things constants =
    length_null c.args.frames.now.newest (store_by p shapes things constants c.args.heap.now) c.args.heap.now c.in-Null.ensures

pub returns-in-Array-clause-row : goal.returns-in-Array-clause-row
returns-in-Array-clause-row g c p shapes things constants =
    rw (c.give_for.ensures, c.length_of-len.ensures)
    (length_here c.args.frames.now.newest p shapes things constants c.args.heap.now c.in-Array.o c.in-Array.field-1 c.in-Array.ensures)
