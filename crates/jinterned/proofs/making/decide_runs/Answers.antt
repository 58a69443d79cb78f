use Rattle.std.proofs.Common.{[], sym, arith}
use Rattle.std.specs.Prelude.{get_or}
use Rattle.jdomain.specs.Domains.{has}
use Rattle.jinterned.specs.ContextStores.{item_of}
use Rattle.jinterned.proofs.ListRuns.{no_further, run_denies, run_grants}
use Rattle.jinterned.proofs.making.decide_runs.Goals as goal

pub returns-in-Denied : goal.returns-in-Denied
returns-in-Denied c =
    run_denies (item_of c.args.sets.now) (has c.args.domains.now) c.args.asked.now (get_or c.args.lists.now c.args.n []) c.run-run.result.now c.loop-i.i c.run-run.ensures
    c.in-Denied.d _ (sym c.in-Denied.ensures) c.loop-i.invariant.0

pub overflow_add-i : goal.overflow_add-i
overflow_add-i c =
    omega (arith, no_further (get_or c.args.lists.now c.args.n []) c.run-run.result.now c.loop-i.i c.run-run.ensures, c.count-count.ensures, c.count-count.type_inv)

pub loop-i-preserved : goal.loop-i-preserved
loop-i-preserved c = (
  run_grants (item_of c.args.sets.now) (has c.args.domains.now) c.args.asked.now (get_or c.args.lists.now c.args.n []) c.run-run.result.now c.loop-i.i c.run-run.ensures
      _ (sym c.in_default.ensures) c.loop-i.invariant.0,
  no_further (get_or c.args.lists.now c.args.n []) c.run-run.result.now c.loop-i.i c.run-run.ensures,
)
