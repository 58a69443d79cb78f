use Rattle.std.proofs.Common.{◌≡◌, Some, rules}
use Rattle.jmemory.specs.jheap.Heaps as heaps
use Rattle.jruntime.specs.jstate.HeapMeanings.{place_in}
use Rattle.jlibcalls.specs.jchecks.PermissionQueries.{number_held}
use Rattle.jlibcalls.proofs.JchecksProofs.CheckRequests.{asks_one}
use Rattle.jlibcalls.proofs.jchecks.asking.asked_of.Goals as goal

pub returns-in-Some : goal.returns-in-Some
returns-in-Some g c p shapes things constants kept =
    let is : Some c.in-Some.one.now ≡ place_in c.args.permissions.now (number_held (heaps.object_at c.args.heap.now c.args.o)) = search rules in
    asks_one _ c.heap_laws.ensures.each p shapes things constants c.args.heap.now c.args.permissions.now kept c.args.o c.in-Some.one.now c.if-o-eq0.false is
