use Rattle.std.proofs.Common.{◌<◌, ap, arith, length, subst, sym, ◌∙◌}
use Rattle.std.specs.Prelude.{IfSome, get_or, slice_set}
use Rattle.std.proofs.lemmas.List.{length-set}
use Rattle.std.proofs.lemmas.List.Edits.{map_over_more}
use Rattle.jthreads.specs.ThreadTables.{woken}
use Rattle.jthreads.proofs.ThreadUpdates.{here, named_now}
use Rattle.jthreads.proofs.Waits.{woken_named}
use Rattle.jthreads.proofs.table.Threads.wake_each.Goals as goal

pub put-requires-clause-named : goal.put-requires-clause-named
put-requires-clause-named c =
    let all = c.self-in-loop-i.inside.all.items in
    let lt : c.loop-i.i < length all = omega (arith, c.loop-i-test.true, c.loop-i.invariant.1, c.loop-i.invariant.2, ap length c.self-in-loop-i.view_is) in
    let is = here all c.loop-i.i c.index-thread.result.now lt c.index-thread.ensures in
    subst (λ x. IfSome x.waits_for (λ k. k < length c.loop-i.self)) (sym c.without_wait.ensures)
    (woken_named (λ k. k < length c.loop-i.self) c.args.t c.index-thread.result.now
    (named_now all c.loop-i.self c.loop-i.i c.index-thread.result.now c.self-in-loop-i.invariant.2 (ap length c.self-in-loop-i.view_is) is))

pub loop-i-preserved : goal.loop-i-preserved
loop-i-preserved c =
    let lt : c.loop-i.i < length c.args.self.now = omega (arith, c.loop-i-test.true, c.loop-i.invariant.2) in (
      c.put.ensures ∙ ap (slice_set c.loop-i.self c.loop-i.i) c.without_wait.ensures
          ∙ map_over_more (woken c.args.t) c.args.self.now c.loop-i.self c.loop-i.i c.index-thread.result.now lt c.loop-i.invariant.0
          (c.index-thread.ensures ∙ ap (λ ts. get_or ts c.loop-i.i c.index-thread.result.now) c.self-in-loop-i.view_is),
      ap length c.put.ensures ∙ length-set c.loop-i.self c.loop-i.i c.without_wait.result ∙ c.loop-i.invariant.1,
      c.loop-i.invariant.2,
    )
