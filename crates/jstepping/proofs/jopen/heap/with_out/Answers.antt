use Rattle.std.proofs.Common.{refl}
use Rattle.jstepping.proofs.JopenProofs.InitialHeap.{out_is}
use Rattle.jstepping.proofs.jopen.heap.with_out.Goals as goal

pub returns-in-Some : goal.returns-in-Some
returns-in-Some c =
    out_is c.args.constants.now.program c.args.cells c.library_number.result c.in-Some.field-0 c.args.constants.now c.in_ok-heap.heap c.make.new.self refl c.requires.none
    c.heap_laws.ensures.makes c.built_laws.ensures.made c.celled_laws.ensures.none c.celled_laws.ensures.made c.in_ok-heap.ensures c.library_number.ensures
    (rw c.in-Some.is at c.make.ensures)
