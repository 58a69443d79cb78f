use Rattle.std.proofs.Common.{◌∙◌, [], sym, arith}
use Rattle.std.specs.Prelude.{get_or}
use Rattle.jinterned.proofs.ListRuns.{no_further, run_differs, run_same}
use Rattle.jinterned.proofs.alike.holds_at.Goals as goal

pub split_at-requires : goal.split_at-requires
split_at-requires c = omega (arith, no_further (get_or c.args.lists.now c.args.n []) c.run-run.result.now c.loop-i.i c.run-run.ensures, c.loop-i.invariant.1)

pub returns-then-not-same_pairs : goal.returns-then-not-same_pairs
returns-then-not-same_pairs c =
    run_differs (get_or c.args.lists.now c.args.n []) c.run-run.result.now c.args.pairs.now c.loop-i.rest.now c.split_at.result.0.now c.loop-i.i c.run-run.ensures
    c.split_at.ensures.front c.loop-i.invariant.1 (sym c.same_pairs.ensures ∙ c.if-not-same_pairs.true) c.loop-i.invariant.0

pub loop-i-preserved : goal.loop-i-preserved
loop-i-preserved c = (
  run_same (get_or c.args.lists.now c.args.n []) c.run-run.result.now c.loop-i.rest.now c.split_at.result.0.now c.split_at.result.1.now c.loop-i.i c.run-run.ensures
      c.split_at.ensures.front c.split_at.ensures.back c.loop-i.invariant.1 _ (sym c.same_pairs.ensures ∙ c.if-not-same_pairs.false) c.loop-i.invariant.0,
  omega (arith, no_further (get_or c.args.lists.now c.args.n []) c.run-run.result.now c.loop-i.i c.run-run.ensures, c.loop-i.invariant.1, c.split_at.ensures.back_len),
)
