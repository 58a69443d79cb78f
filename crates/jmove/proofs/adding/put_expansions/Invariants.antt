use Rattle.std.proofs.Common.{◌≡◌, drop}
use Rattle.jmove.specs.PoolAdditions.{IsFront, with_expansions}
use Rattle.jmove.proofs.ReferenceAdditions.{with_done}
use Rattle.jmove.proofs.adding.put_expansions.Given as goal

abbrev pub invariant-loop-kind : goal.invariant-loop-kind
invariant-loop-kind l = record {
  so_far : with_done l.named (with_expansions (drop l.kind-index l.kinds) l.pool) ≡ with_expansions l.kinds l.fn.pool;
  grown : IsFront l.fn.pool l.pool;
}
