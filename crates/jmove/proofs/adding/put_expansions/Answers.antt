use Rattle.std.proofs.lemmas.Result.{err_from_is_err_and}
use Rattle.jmove.specs.PoolAdditions.{with_expansions}
use Rattle.jmove.proofs.ReferenceAdditions.{all_turned, grown_on, next_turn, turn_refused, turn_stops}
use Rattle.jmove.proofs.adding.put_expansions.Goals as goal

pub returns-in_err-i : goal.returns-in_err-i
returns-in_err-i c =
    let p = err_from_is_err_and c.from_residual.result c.from_residual.ensures.1 in
    rw (p.1, p.2) (turn_refused c.args.kinds.now c.loop-kind.named c.loop-kind.kind-index _ c.in_err-i.field-0.0 c.args.pool.now c.loop-kind.pool c.put_number.new.pool (with_expansions c.args.kinds.now c.args.pool.now)
    c.loop-kind-test.true c.loop-kind.invariant.grown c.in_err-i.ensures c.loop-kind.invariant.so_far)

pub returns-in_err-push : goal.returns-in_err-push
returns-in_err-push c =
    let p = err_from_is_err_and c.from_residual-in_err-push.result c.from_residual-in_err-push.ensures.1 in
    let so_far = next_turn c.args.kinds.now c.loop-kind.named c.loop-kind.kind-index _ c.loop-kind.pool c.put_number.new.pool c.in_ok-i.i (with_expansions c.args.kinds.now c.args.pool.now)
    c.loop-kind-test.true c.in_ok-i.ensures c.loop-kind.invariant.so_far in
    rw (p.1, p.2) (turn_stops c.args.kinds.now _ _ c.args.pool.now c.put_number.new.pool (with_expansions c.args.kinds.now c.args.pool.now)
    (grown_on _ c.args.pool.now c.loop-kind.pool c.put_number.new.pool c.in_ok-i.i c.loop-kind.invariant.grown c.in_ok-i.ensures) so_far)

pub loop-kind-preserved : goal.loop-kind-preserved
loop-kind-preserved c =
    let so_far = next_turn c.args.kinds.now c.loop-kind.named c.loop-kind.kind-index _ c.loop-kind.pool c.put_number.new.pool c.in_ok-i.i (with_expansions c.args.kinds.now c.args.pool.now)
    c.loop-kind-test.true c.in_ok-i.ensures c.loop-kind.invariant.so_far in
    record {
      so_far = rw (c.in_ok-push.ensures.ok, c.numbered.ensures) so_far;
      grown = grown_on _ c.args.pool.now c.loop-kind.pool c.put_number.new.pool c.in_ok-i.i c.loop-kind.invariant.grown c.in_ok-i.ensures;
    }

pub returns : goal.returns
returns c = all_turned c.args.kinds.now c.loop-kind.named c.loop-kind.kind-index c.loop-kind.pool (with_expansions c.args.kinds.now c.args.pool.now) c.loop-kind-test.false c.loop-kind.invariant.so_far
