use Rattle.std.proofs.Common.{◌≡◌, ◌<◌, ◌≤◌, rules}
use Rattle.std.specs.Prelude.{true, false, length}
use Rattle.std.proofs.lemmas.Option.{slice_get_past}
use Rattle.jmemory.specs.jheap.Heaps.{cells_at}
use Rattle.jmemory.specs.jheap.RawValues.{raw}
use Rattle.jruntime.specs.jstate.ClassNumbers.{library_count}
use Rattle.jrows.proofs.JobjsProofs.FieldWrites.{put_inside, put_low, put_not, put_null, put_other, put_outside, put_stays, two_there}
use Rattle.jrows.proofs.jobjs.fields.put_field.Goals as goal

pub returns-then-not-serve-clause-row : goal.returns-then-not-serve-clause-row
returns-then-not-serve-clause-row g c p shapes things constants f of =
    let serve : c.args.serve ≡ false = search rules in
    rw serve (put_not p shapes things constants c.args.heap.now c.args.frames.now.newest f c.args.slot of c.args.narrow c.args.frames.now.newest)

pub returns-in-Other-clause-row : goal.returns-in-Other-clause-row
returns-in-Other-clause-row g c p shapes things constants f of =
    let serve : c.args.serve ≡ true = search rules in
    rw serve (put_other p shapes things constants c.args.heap.now c.args.frames.now.newest f c.args.slot of c.args.narrow c.heap_laws.ensures.each c.in-Other.ensures c.args.frames.now.newest)

pub returns-in-Null-clause-row : goal.returns-in-Null-clause-row
returns-in-Null-clause-row g c p shapes things constants f of =
    let serve : c.args.serve ≡ true = search rules in
    rw serve (put_null p shapes things constants c.args.heap.now c.args.frames.now.newest f c.args.slot of c.args.narrow c.in-Null.ensures)

pub returns-then-n-lt-LIBRARY_CLASSES-clause-row : goal.returns-then-n-lt-LIBRARY_CLASSES-clause-row
returns-then-n-lt-LIBRARY_CLASSES-clause-row g c p shapes things constants f of =
    let serve : c.args.serve ≡ true = search rules in
    let low : c.in-Object.n < library_count = search rules in
    rw serve (put_low p shapes things constants c.args.heap.now c.args.frames.now.newest f c.args.slot of c.args.narrow c.heap_laws.ensures.each c.in-Object.o c.in-Object.n c.in-Object.ensures low c.args.frames.now.newest)

pub returns-then-slot-look-clause-row : goal.returns-then-slot-look-clause-row
returns-then-slot-look-clause-row g c p shapes things constants f of =
    let serve : c.args.serve ≡ true = search rules in
    let high : length (cells_at c.args.heap.now c.in-Object.o) ≤ c.args.slot = search rules in
    rw serve
    (put_outside p shapes things constants c.args.heap.now c.args.frames.now.newest f c.args.slot of c.args.narrow c.heap_laws.ensures.each c.in-Object.o c.in-Object.n c.in-Object.ensures c.cell_laws.ensures.none
    (slice_get_past (cells_at c.args.heap.now c.in-Object.o) c.args.slot high) c.args.frames.now.newest)

pub shrink-requires : goal.shrink-requires
shrink-requires g c = two_there c.args.heap.now c.args.frames.now.newest.operands c.in-Object.o c.in-Object.n c.in-Object.ensures

pub returns-else-slot-look-clause-row : goal.returns-else-slot-look-clause-row
returns-else-slot-look-clause-row g c p shapes things constants f of =
    let serve : c.args.serve ≡ true = search rules in
    let few : c.args.slot < length (cells_at c.args.heap.now c.in-Object.o) = search rules in
    rw (serve, c.go_on.ensures, c.shrink.ensures, c.put_at.ensures.heap, c.looked-look.ensures.object)
    (put_inside p shapes things constants c.args.heap.now c.args.frames.now.newest f c.args.slot of c.args.narrow c.heap_laws.ensures.each c.in-Object.o c.in-Object.n c.in-Object.ensures c.cell_laws.ensures.reads
    c.heap_laws.ensures.writes c.heap_laws.ensures.field c.way_laws.ensures few c.operand.result c.narrowed-value.result c.operand.ensures (c.narrowed-value.ensures p) c.put_at.ensures.back)

pub returns-else-slot-look-clause-built : goal.returns-else-slot-look-clause-built
returns-else-slot-look-clause-built g c built =
    let high : library_count ≤ c.in-Object.n = search rules in
    rw (c.put_at.ensures.heap, c.looked-look.ensures.object)
    (put_stays c.built_laws.ensures.written c.args.heap.now c.args.frames.now.newest.operands c.in-Object.o c.in-Object.n c.args.slot (raw c.narrowed-value.result) c.in-Object.ensures high built)

pub returns-else-slot-look-clause-celled : goal.returns-else-slot-look-clause-celled
returns-else-slot-look-clause-celled g c shapes all =
    rw (c.put_at.ensures.heap, c.looked-look.ensures.object) (c.celled_laws.ensures.written c.args.heap.now c.in-Object.o c.args.slot (raw c.narrowed-value.result) shapes all)
