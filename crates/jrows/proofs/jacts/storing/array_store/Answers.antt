use Rattle.std.proofs.Common.{◌≡◌, None, of_z, rules, to_z}
use Rattle.std.specs.Prelude.{length, slice_get}
use Rattle.std.specs.Int.{w32}
use Rattle.jparts.specs.jcode.InstructionForms.{element}
use Rattle.jmemory.specs.jheap.Heaps.{cells_at}
use Rattle.jsemantics.specs.jmachine.ArrayInstructions.{within}
use Rattle.jsemantics.specs.jmachine.Narrowing.{place}
use Rattle.jrows.specs.jacts.ArrayAccesses.{kept_if}
use Rattle.jrows.specs.jacts.ArrayOperands.{array_seen}
use Rattle.jrows.specs.jacts.RowOutcomes.{int_in}
use Rattle.jrows.proofs.JactsProofs.ArrayLoads.{kept_array, second_there}
use Rattle.jrows.proofs.JactsProofs.NumberStores.{has_third, is_third, put_celled, put_row, put_stays, store_no_index, store_no_value, store_null, store_other}
use Rattle.jrows.proofs.JactsProofs.ArrayFailures.{put}
use Rattle.jrows.proofs.jacts.storing.array_store.Goals as goal

pub returns-in_default-clause-row : goal.returns-in_default-clause-row
returns-in_default-clause-row g c p things constants =
    let none : None ≡ kept_if (element c.args.e) (slice_get c.args.frames.now.newest.operands 0) = search rules in
    store_no_value p c.args.shapes.now things constants c.args.heap.now c.args.frames.now.newest c.args.e c.requires.number c.args.frames.now.newest none

pub returns-in_default-int_at-clause-row : goal.returns-in_default-int_at-clause-row
returns-in_default-int_at-clause-row g c p things constants =
    let none : int_in (slice_get c.args.frames.now.newest.operands 1) ≡ None = search rules in
    store_no_index p c.args.shapes.now things constants c.args.heap.now c.args.frames.now.newest c.args.e c.requires.number c.args.frames.now.newest none

pub put_item-requires-clause-few : goal.put_item-requires-clause-few
put_item-requires-clause-few g c = has_third c.args.shapes.now c.args.e c.args.heap.now c.in-Array.o c.in-Array.a c.args.frames.now.newest.operands c.in-Array.ensures

pub put_item-requires-clause-there : goal.put_item-requires-clause-there
put_item-requires-clause-there g c = second_there c.args.shapes.now c.args.e c.args.heap.now c.in-Array.o c.in-Array.a (slice_get c.args.frames.now.newest.operands 2) c.in-Array.ensures

pub returns-in-Other-clause-row : goal.returns-in-Other-clause-row
returns-in-Other-clause-row g c p things constants =
    store_other p c.args.shapes.now things constants c.args.heap.now c.args.frames.now.newest c.args.e c.requires.number c.args.frames.now.newest c.in-Other.ensures

pub returns-in-Null-clause-row : goal.returns-in-Null-clause-row
returns-in-Null-clause-row g c p things constants =
    let third = is_third c.args.frames.now.newest.operands (element c.args.e) c.in-Some.value c.in-Some-int_at.i c.in-Some.ensures c.in-Some-int_at.ensures in
    store_null p c.args.shapes.now things constants c.args.heap.now c.args.frames.now.newest c.args.e c.requires.number c.in-Some.value c.in-Some-int_at.i third c.in-Null.ensures

pub returns-in-Array-clause-row : goal.returns-in-Array-clause-row
returns-in-Array-clause-row g c p things constants =
    let third = is_third c.args.frames.now.newest.operands (element c.args.e) c.in-Some.value c.in-Some-int_at.i c.in-Some.ensures c.in-Some-int_at.ensures in
    let i_is : to_z w32 (of_z w32 c.in-Some-int_at.i) ≡ c.in-Some-int_at.i = search rules in
    let put = rw i_is at c.put_item.ensures in
    put_row c.heap_laws.ensures.writes c.heap_laws.ensures.item p c.args.shapes.now things constants c.args.frames.now c.put_item.new.frames c.args.heap.now c.put_item.new.heap c.args.e c.requires.number
    c.in-Some.value c.held_in.result c.in-Some-int_at.i third c.in-Array.o c.in-Array.a c.in-Array.ensures (c.held_in.ensures p) c.put_item.result put

pub returns-in-Array-clause-built : goal.returns-in-Array-clause-built
returns-in-Array-clause-built g c built =
    let i_is : to_z w32 (of_z w32 c.in-Some-int_at.i) ≡ c.in-Some-int_at.i = search rules in
    let put = rw i_is at c.put_item.ensures in
    put_stays c.built_laws.ensures.written c.args.frames.now c.put_item.new.frames c.args.heap.now c.put_item.new.heap c.in-Array.o c.in-Array.a c.held_in.result c.put_item.result
    (slice_get c.args.frames.now.newest.operands 2) (within (length (cells_at c.args.heap.now c.in-Array.o)) (place c.in-Some-int_at.i))
    (kept_array c.args.shapes.now c.args.e c.in-Array.o c.in-Array.a (array_seen c.args.heap.now (slice_get c.args.frames.now.newest.operands 2)) c.in-Array.ensures).0 put built

pub returns-in-Array-clause-celled : goal.returns-in-Array-clause-celled
returns-in-Array-clause-celled g c =
    let i_is : to_z w32 (of_z w32 c.in-Some-int_at.i) ≡ c.in-Some-int_at.i = search rules in
    let put = rw i_is at c.put_item.ensures in
    put_celled c.celled_laws.ensures.written c.args.frames.now c.put_item.new.frames c.args.heap.now c.put_item.new.heap c.in-Array.o c.held_in.result c.put_item.result
    (within (length (cells_at c.args.heap.now c.in-Array.o)) (place c.in-Some-int_at.i)) put

pub returns-in-Array-clause-rests : goal.returns-in-Array-clause-rests
returns-in-Array-clause-rests g c =
    let i_is : to_z w32 (of_z w32 c.in-Some-int_at.i) ≡ c.in-Some-int_at.i = search rules in
    let is = rw i_is at c.put_item.ensures in
    (put c.in-Array.o c.held_in.result c.args.frames.now c.put_item.new.frames c.args.heap.now c.put_item.new.heap c.put_item.result
    (within (length (cells_at c.args.heap.now c.in-Array.o)) (place c.in-Some-int_at.i)) is).0

pub returns-in-Array-clause-kept : goal.returns-in-Array-clause-kept
returns-in-Array-clause-kept g c =
    let i_is : to_z w32 (of_z w32 c.in-Some-int_at.i) ≡ c.in-Some-int_at.i = search rules in
    let is = rw i_is at c.put_item.ensures in
    (put c.in-Array.o c.held_in.result c.args.frames.now c.put_item.new.frames c.args.heap.now c.put_item.new.heap c.put_item.result
    (within (length (cells_at c.args.heap.now c.in-Array.o)) (place c.in-Some-int_at.i)) is).1
