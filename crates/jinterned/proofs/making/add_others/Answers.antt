use Rattle.std.proofs.Common.{[], arith}
use Rattle.std.specs.Prelude.{get_or}
use Rattle.jinterned.specs.ContextStores.{item_of}
use Rattle.jinterned.proofs.ListRuns.{no_further, others_run}
use Rattle.jinterned.proofs.making.add_others.Goals as goal

pub overflow_add-i : goal.overflow_add-i
overflow_add-i c =
    omega (arith, no_further (get_or c.args.lists.now c.args.n []) c.run-run.result.now c.loop-i.i c.run-run.ensures, c.count-count.ensures, c.count-count.type_inv)

pub loop-i-preserved : goal.loop-i-preserved
loop-i-preserved c = (
  others_run (item_of c.args.sets.now) (get_or c.args.lists.now c.args.n []) c.run-run.result.now c.args.d _ _ _ c.loop-i.i c.run-run.ensures c.in_ok-add_run.ensures.added c.loop-i.invariant.0,
  c.in_ok-add_run.ensures.named,
  no_further (get_or c.args.lists.now c.args.n []) c.run-run.result.now c.loop-i.i c.run-run.ensures,
)
