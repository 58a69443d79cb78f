use Rattle.std.proofs.Common.{◌≡◌, None, arith, of_z, rules, to_z}
use Rattle.std.specs.Prelude.{length, slice_get, true, false}
use Rattle.std.specs.Int.{w32}
use Rattle.jmemory.specs.jheap.Heaps.{cells_at}
use Rattle.jsemantics.specs.jmachine.ArrayInstructions.{within}
use Rattle.jsemantics.specs.jmachine.Narrowing.{place}
use Rattle.jrows.specs.jacts.RowOutcomes.{int_in}
use Rattle.jrows.proofs.JobjsProofs.RefStores.{row_there, store_no_index, store_not, store_null, store_other, store_row, stored_celled, stored_stays, three_there}
use Rattle.jrows.proofs.JobjsProofs.ObjectFailures.{stored}
use Rattle.jrows.proofs.jobjs.storing.store_ref.Goals as goal

pub returns-then-not-serve-clause-row : goal.returns-then-not-serve-clause-row
returns-then-not-serve-clause-row g c p shapes things constants =
    let serve : c.args.serve ≡ false = search rules in
    rw serve (store_not p shapes things constants c.args.heap.now c.args.frames.now.newest c.args.is c.args.frames.now.newest)

pub returns-in_default-clause-row : goal.returns-in_default-clause-row
returns-in_default-clause-row g c p shapes things constants =
    let serve : c.args.serve ≡ true = search rules in
    let none : int_in (slice_get c.args.frames.now.newest.operands 1) ≡ None = search rules in
    rw serve (store_no_index p shapes things constants c.args.heap.now c.args.frames.now.newest c.args.is c.args.frames.now.newest none)

pub returns-in-Other-clause-row : goal.returns-in-Other-clause-row
returns-in-Other-clause-row g c p shapes things constants =
    let serve : c.args.serve ≡ true = search rules in
    rw serve (store_other p shapes things constants c.args.heap.now c.args.frames.now.newest c.heap_laws.ensures.each c.args.is c.in-Some.i c.args.frames.now.newest c.in-Some.ensures c.in-Other.ensures)

pub returns-in-Null-clause-row : goal.returns-in-Null-clause-row
returns-in-Null-clause-row g c p shapes things constants =
    let serve : c.args.serve ≡ true = search rules in
    rw serve (store_null p shapes things constants c.args.heap.now c.args.frames.now.newest c.args.is c.in-Some.i c.in-Some.ensures c.in-Null.ensures)

pub operand-value-requires : goal.operand-value-requires
operand-value-requires g c = let three = three_there c.args.heap.now c.args.frames.now.newest.operands c.in-Array.o c.in-Array.field-1 c.in-Array.ensures in omega (arith, three)

pub put_item-requires-clause-few : goal.put_item-requires-clause-few
put_item-requires-clause-few g c = three_there c.args.heap.now c.args.frames.now.newest.operands c.in-Array.o c.in-Array.field-1 c.in-Array.ensures

pub put_item-requires-clause-there : goal.put_item-requires-clause-there
put_item-requires-clause-there g c = row_there c.args.heap.now c.args.frames.now.newest.operands c.in-Array.o c.in-Array.field-1 c.in-Array.ensures

pub returns-in-Array-clause-row : goal.returns-in-Array-clause-row
returns-in-Array-clause-row g c p shapes things constants =
    let serve : c.args.serve ≡ true = search rules in
    let i_is : to_z w32 (of_z w32 c.in-Some.i) ≡ c.in-Some.i = search rules in
    let put = rw i_is at c.put_item.ensures in
    rw serve
    (store_row c.way_laws.ensures c.heap_laws.ensures.each c.heap_laws.ensures.writes c.heap_laws.ensures.item p shapes things constants c.args.frames.now c.put_item.new.frames c.args.heap.now c.put_item.new.heap
    c.operand-value.result c.operand-value.ensures c.in-Some.i c.in-Some.ensures c.in-Array.o c.in-Array.field-1 c.in-Array.ensures c.args.is c.put_item.result put)

pub returns-in-Array-clause-built : goal.returns-in-Array-clause-built
returns-in-Array-clause-built g c built =
    let i_is : to_z w32 (of_z w32 c.in-Some.i) ≡ c.in-Some.i = search rules in
    let put = rw i_is at c.put_item.ensures in
    stored_stays c.built_laws.ensures.written c.args.frames.now c.put_item.new.frames c.args.heap.now c.put_item.new.heap c.in-Array.o c.in-Array.field-1 c.operand-value.result c.put_item.result
    (slice_get c.args.frames.now.newest.operands 2) c.args.is (within (length (cells_at c.args.heap.now c.in-Array.o)) (place c.in-Some.i)) c.in-Array.ensures put built

pub returns-in-Array-clause-celled : goal.returns-in-Array-clause-celled
returns-in-Array-clause-celled g c =
    let i_is : to_z w32 (of_z w32 c.in-Some.i) ≡ c.in-Some.i = search rules in
    let put = rw i_is at c.put_item.ensures in
    stored_celled c.celled_laws.ensures.written c.args.frames.now c.put_item.new.frames c.args.heap.now c.put_item.new.heap c.in-Array.o c.operand-value.result c.put_item.result
    c.args.is (within (length (cells_at c.args.heap.now c.in-Array.o)) (place c.in-Some.i)) put

pub returns-in-Array-clause-rests : goal.returns-in-Array-clause-rests
returns-in-Array-clause-rests g c =
    let i_is : to_z w32 (of_z w32 c.in-Some.i) ≡ c.in-Some.i = search rules in
    let is = rw i_is at c.put_item.ensures in
    (stored c.in-Array.o c.operand-value.result c.args.frames.now c.put_item.new.frames c.args.heap.now c.put_item.new.heap c.put_item.result c.args.is
    (within (length (cells_at c.args.heap.now c.in-Array.o)) (place c.in-Some.i)) is).0

pub returns-in-Array-clause-kept : goal.returns-in-Array-clause-kept
returns-in-Array-clause-kept g c =
    let i_is : to_z w32 (of_z w32 c.in-Some.i) ≡ c.in-Some.i = search rules in
    let is = rw i_is at c.put_item.ensures in
    (stored c.in-Array.o c.operand-value.result c.args.frames.now c.put_item.new.frames c.args.heap.now c.put_item.new.heap c.put_item.result c.args.is
    (within (length (cells_at c.args.heap.now c.in-Array.o)) (place c.in-Some.i)) is).1
