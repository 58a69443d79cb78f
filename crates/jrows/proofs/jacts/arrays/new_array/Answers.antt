use Rattle.std.proofs.Common.{◌≡◌, ◌∙◌, Some, None, ap, of_z, pos, rules, sym, to_z}
use Rattle.std.specs.Prelude.{slice_get}
use Rattle.std.specs.Int.{w32}
use Rattle.jmemory.specs.declared.jheap.cell.Kind.TheVariants as kinds
use Rattle.jruntime.specs.jstate.HeapMeanings.{store_by}
use Rattle.jrows.specs.jacts.RowOutcomes.{int_in}
use Rattle.jrows.proofs.JactsProofs.NewArrays.{made_all, made_celled, made_stays, new_negative, new_stuck, of_place}
use Rattle.jrows.proofs.JactsProofs.ArrayFailures.{made_frames, made_heap}
use Rattle.jrows.proofs.jacts.arrays.new_array.Goals as goal

pub returns-in_default-clause-row : goal.returns-in_default-clause-row
returns-in_default-clause-row g c p shapes things constants kind type =
    let none : int_in (slice_get c.args.frames.now.newest.operands 0) ≡ None = search rules in
    new_stuck c.args.frames.now.newest kind (store_by p shapes things constants c.args.heap.now) c.args.frames.now.newest none

pub returns-in-None-clause-row : goal.returns-in-None-clause-row
returns-in-None-clause-row g c p shapes things constants kind type =
    let n_is : to_z w32 (of_z w32 c.in-Some.n) ≡ c.in-Some.n = search rules in
    let none = rw n_is at c.in-None.ensures in
    new_negative c.args.frames.now.newest kind (store_by p shapes things constants c.args.heap.now) c.in-Some.n c.in-Some.ensures none

pub returns-in-Some-count_of-clause-row : goal.returns-in-Some-count_of-clause-row
returns-in-Some-count_of-clause-row g c =
    let n_is : to_z w32 (of_z w32 c.in-Some.n) ≡ c.in-Some.n = search rules in
    let some = rw n_is at c.in-Some-count_of.ensures in
    let here : Some (pos c.in-Some-count_of.count) ≡ int_in (slice_get c.args.frames.now.newest.operands 0) = ap (λ z. Some z) (sym (of_place c.in-Some.n c.in-Some-count_of.count some)) ∙ c.in-Some.ensures in
    made_all c.heap_laws.ensures.makes c.make_array.result c.args.number c.in-Some-count_of.count c.args.frames.now c.make_array.new.frames c.args.heap.now c.make_array.new.heap
    c.make_array.ensures c.requires.built here

pub returns-in-Some-count_of-clause-built : goal.returns-in-Some-count_of-clause-built
returns-in-Some-count_of-clause-built g c =
    made_stays c.built_laws.ensures.made c.make_array.result c.args.number c.in-Some-count_of.count c.args.frames.now c.make_array.new.frames c.args.heap.now c.make_array.new.heap
    c.make_array.ensures c.requires.built

pub returns-in-Some-count_of-clause-celled : goal.returns-in-Some-count_of-clause-celled
returns-in-Some-count_of-clause-celled g c =
    made_celled c.celled_laws.ensures.made c.make_array.result c.args.number c.in-Some-count_of.count c.args.frames.now c.make_array.new.frames c.args.heap.now c.make_array.new.heap
    c.make_array.ensures

pub returns-in-Some-count_of-clause-rests : goal.returns-in-Some-count_of-clause-rests
returns-in-Some-count_of-clause-rests g c =
    made_frames c.make_array.result (kinds.Array c.args.number) c.in-Some-count_of.count c.args.frames.now c.make_array.new.frames c.args.heap.now c.make_array.new.heap c.make_array.ensures

pub returns-in-Some-count_of-clause-kept : goal.returns-in-Some-count_of-clause-kept
returns-in-Some-count_of-clause-kept g c =
    made_heap c.make_array.result (kinds.Array c.args.number) c.in-Some-count_of.count c.args.frames.now c.make_array.new.frames c.args.heap.now c.make_array.new.heap c.make_array.ensures
