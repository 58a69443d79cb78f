use Rattle.std.specs.Option.{option_to_list}
use Rattle.std.proofs.lemmas.Result.{err_from_is_err_and}
use Rattle.jmoveclass.specs.MovedMembers.{with_attribute}
use Rattle.jmoveclass.specs.PoolPuts.{with_each}
use Rattle.jmoveclass.proofs.Growth.{attribute_grows}
use Rattle.jmoveclass.proofs.ItemAdditions.{all_turned, next_turn, turn_refused}
use Rattle.jmoveclass.proofs.method.put_attributes.Goals as goal

pub returns-in_err-one : goal.returns-in_err-one
returns-in_err-one c =
    let p = err_from_is_err_and c.from_residual.result c.from_residual.ensures.1 in
    let f = with_attribute c.args.c.now.program.now c.args.c.now.class.now c.args.c.now.domain c.args.m.now in
    rw (p.1, p.2) (turn_refused f c.args.m.now.attributes c.loop-one.moved c.loop-one.one-index c.one-item.result c.in_err-one.field-0.0 c.loop-one.pool (with_each f c.args.m.now.attributes c.args.pool.now)
    (attribute_grows c.args.c.now.program.now c.args.c.now.class.now c.args.c.now.domain c.args.m.now) (rw c.as_slice-one-items.ensures at c.loop-one-test.true) (rw c.as_slice-one-items.ensures at c.one-item.is) c.in_err-one.ensures c.loop-one.invariant)

pub loop-one-preserved : goal.loop-one-preserved
loop-one-preserved c =
    let f = with_attribute c.args.c.now.program.now c.args.c.now.class.now c.args.c.now.domain c.args.m.now in
    rw c.in_ok-push_some.ensures (next_turn f c.args.m.now.attributes c.loop-one.moved (option_to_list c.in_ok-one.one) c.loop-one.one-index c.one-item.result c.loop-one.pool c.put_attribute.new.pool (with_each f c.args.m.now.attributes c.args.pool.now)
    (rw c.as_slice-one-items.ensures at c.loop-one-test.true) (rw c.as_slice-one-items.ensures at c.one-item.is) c.in_ok-one.ensures c.loop-one.invariant)

pub returns : goal.returns
returns c =
    let f = with_attribute c.args.c.now.program.now c.args.c.now.class.now c.args.c.now.domain c.args.m.now in
    all_turned f c.args.m.now.attributes c.loop-one.moved c.loop-one.one-index c.loop-one.pool (with_each f c.args.m.now.attributes c.args.pool.now) (rw c.as_slice-one-items.ensures at c.loop-one-test.false) c.loop-one.invariant
