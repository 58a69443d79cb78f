use Rattle.std.proofs.Common.{◌∷◌, arith, rules}
use Rattle.std.specs.Prelude.{nat_lt}
use Rattle.std.proofs.lemmas.List.Sorted.{IsPartitionPoint-from_clause}
use Rattle.jthreads.proofs.RunnableNeighbours.{parted, place, rest_high, rest_with}
use Rattle.jthreads.proofs.order.place_of.Goals as goal

pub returns-clause-bound : goal.returns-clause-bound
returns-clause-bound c = omega (arith, c.partition_point.ensures.bound, c.args.order.now.ok.0)

pub returns-clause-without : goal.returns-clause-without
returns-clause-without c front back is between =
    let high = rest_high c.args.t back between.1 in
    let point = IsPartitionPoint-from_clause (λ i. nat_lt i c.args.t) _ _ c.partition_point.ensures.partitioned
    (parted c.args.t c.args.order.now.items front back is between.0 high) (λ a r q k. search rules) in
    place c.args.t c.args.order.now.items front back is between.0 high c.partition_point.result
    (omega (arith, c.partition_point.ensures.bound, c.args.order.now.ok.0)) point

pub returns-clause-with : goal.returns-clause-with
returns-clause-with c front back is between =
    let high = rest_with c.args.t back between.1 in
    let point = IsPartitionPoint-from_clause (λ i. nat_lt i c.args.t) _ _ c.partition_point.ensures.partitioned
    (parted c.args.t c.args.order.now.items front (c.args.t ∷ back) is between.0 high) (λ a r q k. search rules) in
    place c.args.t c.args.order.now.items front (c.args.t ∷ back) is between.0 high c.partition_point.result
    (omega (arith, c.partition_point.ensures.bound, c.args.order.now.ok.0)) point
