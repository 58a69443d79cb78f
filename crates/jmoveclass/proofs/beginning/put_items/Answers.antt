use Rattle.std.proofs.Common.{[], ◌∷◌}
use Rattle.std.proofs.lemmas.Result.{err_from_is_err_and}
use Rattle.jmoveclass.specs.EntryLocals.{with_item}
use Rattle.jmoveclass.specs.PoolPuts.{with_each}
use Rattle.jmoveclass.proofs.Growth.{item_grows}
use Rattle.jmoveclass.proofs.ItemAdditions.{all_turned, next_turn, turn_refused}
use Rattle.jmoveclass.proofs.beginning.put_items.Goals as goal

pub returns-in_err-one : goal.returns-in_err-one
returns-in_err-one c =
    let p = err_from_is_err_and c.from_residual.result c.from_residual.ensures.1 in
    rw (p.1, p.2) (turn_refused with_item c.args.types.now c.loop-t.items c.loop-t.t-index c.t-item.result c.in_err-one.field-0.0 c.loop-t.pool (with_each with_item c.args.types.now c.args.pool.now)
    item_grows c.loop-t-test.true c.t-item.is c.in_err-one.ensures c.loop-t.invariant)

pub loop-t-preserved : goal.loop-t-preserved
loop-t-preserved c =
    rw c.in_ok-push.ensures.ok (next_turn with_item c.args.types.now c.loop-t.items (c.in_ok-one.one ∷ []) c.loop-t.t-index c.t-item.result c.loop-t.pool c.put_item.new.pool (with_each with_item c.args.types.now c.args.pool.now)
    c.loop-t-test.true c.t-item.is c.in_ok-one.ensures c.loop-t.invariant)

pub returns : goal.returns
returns c = all_turned with_item c.args.types.now c.loop-t.items c.loop-t.t-index c.loop-t.pool (with_each with_item c.args.types.now c.args.pool.now) c.loop-t-test.false c.loop-t.invariant
