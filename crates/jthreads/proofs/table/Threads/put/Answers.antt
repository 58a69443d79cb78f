use Rattle.std.proofs.Common.{◌<◌, ap, arith, length, sym, ◌∙◌}
use Rattle.std.proofs.lemmas.List.{length-set}
use Rattle.jthreads.specs.ThreadTables.{is_runnable}
use Rattle.jthreads.proofs.ThreadUpdates.{here, less_named, less_some, put_counted, put_named, put_order, runnable_few, within}
use Rattle.jthreads.proofs.table.Threads.put.Goals as goal

pub one_less-requires-clause-some : goal.one_less-requires-clause-some
one_less-requires-clause-some c =
    let lt : c.args.t < length c.self.inside.all.items = omega (arith, c.requires.there, ap length c.self.view_is) in
    less_some c.self.inside.all.items c.self.inside.queues.items c.args.t c.index.result.now.waits_for c.self.invariant.1 c.self.invariant.2 lt
    (ap (λ y. y.waits_for) (sym (here c.self.inside.all.items c.args.t c.index.result.now lt c.index.ensures)))

pub one_less-requires-clause-named : goal.one_less-requires-clause-named
one_less-requires-clause-named c =
    let lt : c.args.t < length c.self.inside.all.items = omega (arith, c.requires.there, ap length c.self.view_is) in
    less_named c.self.inside.all.items c.self.inside.queues.items c.args.t c.index.result.now.waits_for c.self.invariant.1 c.self.invariant.2
    (ap (λ y. y.waits_for) (sym (here c.self.inside.all.items c.args.t c.index.result.now lt c.index.ensures)))

pub keep_order-requires : goal.keep_order-requires
keep_order-requires c = record {
  room = omega (arith, runnable_few c.self.inside.all.items, ap length c.self.invariant.3, c.self.invariant.4);
}

pub invariant_of-self : goal.invariant_of-self
invariant_of-self c =
    let all = c.self.inside.all.items in
    let lt : c.args.t < length all = omega (arith, c.requires.there, ap length c.self.view_is) in
    let is = here all c.args.t c.index.result.now lt c.index.ensures in
    let len = length-set all c.args.t c.args.thread in (
      omega (arith, c.self.invariant.0, len),
      put_counted all c.args.t c.args.thread c.index.result.now c.self.inside.queues.items c.one_less.new.queues.items c.one_more.new.queues.items
          c.self.invariant.1 lt is c.one_less.ensures.len c.one_less.ensures.counts c.one_more.ensures.len c.one_more.ensures.counts,
      put_named all c.args.t c.args.thread c.self.invariant.2 lt (within c.args.thread.waits_for (length c.args.self.now) (length all) (ap length (sym c.self.view_is)) c.requires.named),
      put_order all c.args.t c.args.thread c.may_run.result c.may_run-2.result c.self.inside.order.items c.keep_order.new.order.items c.self.invariant.3 lt
          (c.may_run.ensures ∙ ap is_runnable is) c.may_run-2.ensures c.keep_order.ensures.items,
      omega (arith, len, c.self.invariant.4, c.keep_order.ensures.capacity),
    )
