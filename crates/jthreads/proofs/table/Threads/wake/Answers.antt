use Rattle.std.proofs.Common.{◌≡◌, ◌<◌, ap, arith, length, map, sym, ◌∙◌}
use Rattle.std.proofs.lemmas.List.{get_or_default}
use Rattle.jthreads.specs.ThreadQueues.{nobody, queue_at, waiting}
use Rattle.jthreads.specs.ThreadTables.{woken}
use Rattle.jthreads.proofs.WaiterCounts.{none_wait}
use Rattle.jthreads.proofs.table.Threads.wake.Goals as goal

pub returns-else-index-ne0 : goal.returns-else-index-ne0
returns-else-index-ne0 c =
    let all = c.self-2.inside.all.items in
    let queues = c.self-2.inside.queues.items in
    let lt : c.args.t < length all = omega (arith, c.requires, c.loop.invariant.1, ap length c.self-2.view_is) in
    let here : c.index-3.result.now ≡ queue_at queues c.args.t =
    c.index-3.ensures ∙ get_or_default queues c.args.t c.index-3.result.now nobody (omega (arith, lt, c.self-2.invariant.1.0)) in
    let none : waiting c.args.t all ≡ 0 = sym (c.self-2.invariant.1.1 c.args.t lt) ∙ sym (ap (λ q. q.waiting) here) ∙ c.if-index-ne0.false in
    sym c.self-2.view_is ∙ sym (none_wait c.args.t all none) ∙ ap (map (woken c.args.t)) c.self-2.view_is ∙ c.loop.invariant.0
