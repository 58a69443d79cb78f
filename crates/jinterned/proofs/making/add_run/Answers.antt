use Rattle.std.proofs.Common.{◌∙◌, ◌≡◌, List, drop, length, sym, ap, subst, arith}
use Rattle.jinterned.specs.declared.pairs.Pair.{Pair}
use Rattle.jinterned.specs.ContextStores.{AreNamed}
use Rattle.jinterned.proofs.ListRuns.{before_few, named_both, named_drop, named_take, others_next}
use Rattle.jinterned.proofs.making.add_run.Goals as goal

pub split_at-requires : goal.split_at-requires
split_at-requires c = omega (arith, c.before-in-loop-rest.ensures, before_few c.args.d c.loop-rest.rest.now)

pub loop-rest-preserved : goal.loop-rest-preserved
loop-rest-preserved c =
    let count = length c.args.sets.now in
    let rest : List Pair = c.loop-rest.rest.now in
    let left : c.without_first-rest.result.now ≡ drop 1 (drop c.before-in-loop-rest.result rest) = c.without_first-rest.ensures ∙ ap (drop 1) c.split_at.ensures.back in (
      others_next c.args.sets.now c.args.d c.loop-rest.made.items _ rest c.split_at.result.0.now c.without_first-rest.result.now _ c.before-in-loop-rest.result
          c.in_ok-extend_from_slice.ensures.items c.split_at.ensures.front left c.before-in-loop-rest.ensures c.loop-rest.invariant.0,
      subst (AreNamed count) (sym (c.in_ok-extend_from_slice.ensures.items))
          (named_both count c.loop-rest.made.items c.split_at.result.0.now c.loop-rest.invariant.1
          (subst (AreNamed count) (sym c.split_at.ensures.front) (named_take count c.before-in-loop-rest.result rest c.loop-rest.invariant.2))),
      subst (AreNamed count) (sym left) (named_drop count 1 (drop c.before-in-loop-rest.result rest) (named_drop count c.before-in-loop-rest.result rest c.loop-rest.invariant.2)),
    )
