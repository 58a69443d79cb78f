use Rattle.std.proofs.Common.{◌+◌}
use Rattle.jrows.proofs.JobjsProofs.NewObjects.{new_stays, user_celled, user_none, user_row}
use Rattle.jruntime.specs.jstate.HeapMeanings.{store_by}
use Rattle.jmemory.specs.declared.jheap.cell.Kind.TheVariants as kinds
use Rattle.jrows.proofs.JobjsProofs.ObjectFailures.{new_frames, new_heap}
use Rattle.jrows.proofs.jobjs.making.new_object.Goals as goal

pub returns-in-None-clause-row : goal.returns-in-None-clause-row
returns-in-None-clause-row g c p things constants name =
    let all = store_by p c.args.shapes.now things constants c.args.heap.now in
    user_none c.args.shapes.now c.args.class name c.in-None.ensures c.args.frames.now.newest c.args.frames.now.newest all all

pub returns-in-Some-clause-row : goal.returns-in-Some-clause-row
returns-in-Some-clause-row g c =
    user_row c.heap_laws.ensures.makes c.number_laws.ensures c.make_object.result c.args.shapes.now c.args.class c.in-Some.count c.in-Some.ensures c.args.frames.now c.make_object.new.frames c.args.heap.now c.make_object.new.heap c.make_object.ensures
    c.requires.built

pub returns-in-Some-clause-built : goal.returns-in-Some-clause-built
returns-in-Some-clause-built g c =
    new_stays c.built_laws.ensures.made c.make_object.result (46 + c.args.class) c.in-Some.count c.args.frames.now c.make_object.new.frames c.args.heap.now c.make_object.new.heap c.make_object.ensures c.requires.built

pub returns-in-Some-clause-celled : goal.returns-in-Some-clause-celled
returns-in-Some-clause-celled g c =
    user_celled c.celled_laws.ensures.made c.celled_laws.ensures.wants c.make_object.result c.args.shapes.now c.args.class c.in-Some.count c.in-Some.ensures c.args.frames.now c.make_object.new.frames
    c.args.heap.now c.make_object.new.heap c.make_object.ensures

pub returns-in-Some-clause-rests : goal.returns-in-Some-clause-rests
returns-in-Some-clause-rests g c =
    new_frames c.make_object.result (kinds.Object (46 + c.args.class)) c.in-Some.count c.args.frames.now c.make_object.new.frames c.args.heap.now c.make_object.new.heap c.make_object.ensures

pub returns-in-Some-clause-kept : goal.returns-in-Some-clause-kept
returns-in-Some-clause-kept g c =
    new_heap c.make_object.result (kinds.Object (46 + c.args.class)) c.in-Some.count c.args.frames.now c.make_object.new.frames c.args.heap.now c.make_object.new.heap c.make_object.ensures
