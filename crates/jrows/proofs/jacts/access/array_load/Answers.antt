use Rattle.std.proofs.Common.{◌≡◌, ◌∙◌, None, ap, of_z, rules, sym, to_z}
use Rattle.std.specs.Prelude.{slice_get}
use Rattle.std.specs.Int.{w32}
use Rattle.jruntime.specs.jstate.HeapMeanings.{store_by}
use Rattle.jrows.specs.jacts.ArrayAccesses.{item_in}
use Rattle.jrows.specs.jacts.ArrayOperands.{array_seen}
use Rattle.jrows.specs.jacts.RowOutcomes.{int_in}
use Rattle.jrows.proofs.JactsProofs.ArrayLoads.{cell_kept, has_second, load_none, load_null, load_other, load_some, load_stuck, second_there}
use Rattle.jrows.proofs.jacts.access.array_load.Goals as goal

pub returns-in_default-clause-row : goal.returns-in_default-clause-row
returns-in_default-clause-row g c p things constants =
    let none : int_in (slice_get c.args.frames.now.newest.operands 0) ≡ None = search rules in
    load_stuck c.args.frames.now.newest (store_by p c.args.shapes.now things constants c.args.heap.now) c.args.e c.args.frames.now.newest none

pub item_at-requires : goal.item_at-requires
item_at-requires g c = second_there c.args.shapes.now c.args.e c.args.heap.now c.in-Array.o c.in-Array.field-1 (slice_get c.args.frames.now.newest.operands 1) c.in-Array.ensures

pub give_for-requires-clause-few : goal.give_for-requires-clause-few
give_for-requires-clause-few g c = has_second c.args.shapes.now c.args.e c.args.heap.now c.in-Array.o c.in-Array.field-1 c.args.frames.now.newest.operands c.in-Array.ensures

pub returns-in-Other-clause-row : goal.returns-in-Other-clause-row
returns-in-Other-clause-row g c p things constants =
    load_other p c.args.shapes.now things constants c.args.heap.now c.args.frames.now.newest c.args.e c.in-Some.i c.in-Some.ensures c.args.frames.now.newest c.in-Other.ensures

pub returns-in-Null-clause-row : goal.returns-in-Null-clause-row
returns-in-Null-clause-row g c p things constants =
    load_null p c.args.shapes.now things constants c.args.heap.now c.args.frames.now.newest c.args.e c.in-Some.i c.in-Some.ensures c.in-Null.ensures

pub returns-in-None-clause-row : goal.returns-in-None-clause-row
returns-in-None-clause-row g c p things constants =
    let i_is : to_z w32 (of_z w32 c.in-Some.i) ≡ c.in-Some.i = search rules in
    let outside = rw i_is at c.in-None.ensures.there in
    load_none p c.args.shapes.now things constants c.args.heap.now c.args.frames.now.newest c.args.e c.in-Some.i c.in-Some.ensures c.in-Array.o c.in-Array.field-1 c.in-Array.ensures outside

pub returns-in-Some-item_at-clause-row : goal.returns-in-Some-item_at-clause-row
returns-in-Some-item_at-clause-row g c p things constants =
    let i_is : to_z w32 (of_z w32 c.in-Some.i) ≡ c.in-Some.i = search rules in
    let item = rw (i_is, c.cell_for.ensures) at c.in-Some-item_at.ensures.item in
    let cell = cell_kept c.args.shapes.now c.args.e c.in-Array.o c.in-Array.field-1 (array_seen c.args.heap.now (slice_get c.args.frames.now.newest.operands 1)) c.in-Array.ensures in
    rw c.give_for.ensures
    (load_some p c.args.shapes.now things constants c.args.heap.now c.args.frames.now.newest c.args.e c.in-Some.i c.in-Some.ensures c.in-Array.o c.in-Array.field-1 c.in-Some-item_at.value c.in-Array.ensures
    (item ∙ ap (λ of. item_in c.args.heap.now of c.in-Array.o c.in-Some.i) (sym cell)))
