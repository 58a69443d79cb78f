use Rattle.std.proofs.Common.{◌<◌, ap, arith, length, map, subst, sym, ◌∙◌}
use Rattle.std.specs.Prelude.{IfSome}
use Rattle.std.proofs.Math.Seq.{map-set_same}
use Rattle.jthreads.specs.ThreadTables.{thread_at, unstarted, woken}
use Rattle.jthreads.proofs.ThreadUpdates.{here, named_now}
use Rattle.jthreads.proofs.Waits.{woken_named, woken_twice}
use Rattle.jthreads.proofs.table.Threads.wake_one.Goals as goal

pub put-requires-clause-named : goal.put-requires-clause-named
put-requires-clause-named c =
    let all = c.self.inside.all.items in
    let lt : c.args.waits < length all = omega (arith, c.if-waits-len.false, c.len.ensures, c.self.inside.all.ok) in
    let here_is = here all c.args.waits c.index-thread.result.now lt c.index-thread.ensures in
    subst (λ x. IfSome x.waits_for (λ k. k < length c.args.self.now)) (sym c.without_wait.ensures)
    (woken_named (λ k. k < length c.args.self.now) c.args.t c.index-thread.result.now
    (named_now all c.args.self.now c.args.waits c.index-thread.result.now c.self.invariant.2 (ap length c.self.view_is) here_is))

pub returns : goal.returns
returns c =
    let all = c.self.inside.all.items in
    let lt : c.args.waits < length all = omega (arith, c.if-waits-len.false, c.len.ensures, c.self.inside.all.ok) in
    let here_is = here all c.args.waits c.index-thread.result.now lt c.index-thread.ensures in
    ap (map (woken c.args.t)) c.put.ensures
    ∙ map-set_same (woken c.args.t) c.args.self.now c.args.waits c.without_wait.result unstarted
    (ap (woken c.args.t) c.without_wait.ensures ∙ woken_twice c.args.t c.index-thread.result.now
    ∙ ap (woken c.args.t) (here_is ∙ ap (λ ts. thread_at ts c.args.waits) c.self.view_is))
