use Rattle.jrows.proofs.JobjsProofs.NewObjects.{library_celled, library_row, new_stays}
use Rattle.jmemory.specs.declared.jheap.cell.Kind.TheVariants as kinds
use Rattle.jrows.proofs.JobjsProofs.ObjectFailures.{new_frames, new_heap}
use Rattle.jrows.proofs.jobjs.making.new_library.Goals as goal

pub returns-clause-row : goal.returns-clause-row
returns-clause-row g c =
    let made = rw (c.library_number.ensures, c.cells_of.ensures) at c.make_object.ensures in
    library_row c.heap_laws.ensures.makes c.number_laws.ensures c.make_object.result c.args.class c.args.frames.now c.make_object.new.frames c.args.heap.now c.make_object.new.heap made c.requires.built

pub returns-clause-built : goal.returns-clause-built
returns-clause-built g c =
    new_stays c.built_laws.ensures.made c.make_object.result c.library_number.result c.cells_of.result c.args.frames.now c.make_object.new.frames c.args.heap.now c.make_object.new.heap c.make_object.ensures c.requires.built

pub returns-clause-celled : goal.returns-clause-celled
returns-clause-celled g c =
    let made = rw (c.library_number.ensures, c.cells_of.ensures) at c.make_object.ensures in
    library_celled c.celled_laws.ensures.made c.celled_laws.ensures.wants c.make_object.result c.args.class c.args.frames.now c.make_object.new.frames c.args.heap.now c.make_object.new.heap made

pub returns-clause-rests : goal.returns-clause-rests
returns-clause-rests g c =
    new_frames c.make_object.result (kinds.Object c.library_number.result) c.cells_of.result c.args.frames.now c.make_object.new.frames c.args.heap.now c.make_object.new.heap c.make_object.ensures

pub returns-clause-kept : goal.returns-clause-kept
returns-clause-kept g c =
    new_heap c.make_object.result (kinds.Object c.library_number.result) c.cells_of.result c.args.frames.now c.make_object.new.frames c.args.heap.now c.make_object.new.heap c.make_object.ensures
