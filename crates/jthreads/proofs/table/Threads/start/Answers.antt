use Rattle.std.proofs.Common.{◌<◌, ap, arith, length}
use Rattle.jthreads.proofs.ThreadUpdates.{here, named_now}
use Rattle.jthreads.proofs.table.Threads.start.Goals as goal

pub put-requires-clause-named : goal.put-requires-clause-named
put-requires-clause-named c =
    let all = c.self.inside.all.items in
    let lt : c.args.t < length all = omega (arith, c.requires, ap length c.self.view_is) in
    named_now all c.args.self.now c.args.t c.index-old.result.now c.self.invariant.2 (ap length c.self.view_is) (here all c.args.t c.index-old.result.now lt c.index-old.ensures)
