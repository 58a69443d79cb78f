use Rattle.std.proofs.Common.{◌*◌, ◌≤◌, [], ◌∷◌, ◌++◌, length, arith}
use Rattle.jparts.specs.jpool.FieldTypes.{piece}
use Rattle.jparts.proofs.JpoolProofs.Params.{params_begin, params_close, params_bad, params_more, params_over, slots_begin, slots_none, slots_some, slots_next}
use Rattle.jparts.proofs.jpool.scan.params_slots.Goals as goal

pub loop-init : goal.loop-init
loop-init c = ([], slots_begin, omega arith, params_begin _ _ c.args.text.now (omega arith))

pub returns-in-Some : goal.returns-in-Some
returns-in-Some c =
    let i = c.loop.invariant in
    slots_some c.args.text.now c.in-Some.behind.now _ c.loop.count i.0 i.1
    (params_close i.0 (length c.args.text.now) c.loop.counter c.loop.rest.now c.in-Some.behind.now _ c.loop-test.true c.in-Some.ensures i.3)

pub returns-in_err-one : goal.returns-in_err-one
returns-in_err-one c =
    let i = c.loop.invariant in
    rw c.from_residual.ensures (slots_none c.args.text.now _ (params_bad i.0 (length c.args.text.now) c.loop.counter c.loop.rest.now _ c.loop-test.true c.in_default.ensures c.in_err-one.ensures i.3))

pub overflow_add-count : goal.overflow_add-count
overflow_add-count c =
    let i = c.loop.invariant in
    let few : c.loop.count ≤ 2 * c.loop.counter = i.2 in
    omega (arith, few, c.slots_in-count.ensures.few)

pub loop-preserved : goal.loop-preserved
loop-preserved c =
    let i = c.loop.invariant in
    let few : c.loop.count ≤ 2 * c.loop.counter = i.2 in
    let t = piece c.in_ok-one.one in (
      i.0 ++ t ∷ [],
      slots_next i.0 t c.loop.count c.slots_in-count.result i.1 c.slots_in-count.ensures.number,
      omega (arith, few, c.slots_in-count.ensures.few),
      params_more i.0 (length c.args.text.now) c.loop.counter c.loop.rest.now c.in_ok-one.behind.now t _ c.loop-test.true c.in_default.ensures c.in_ok-one.ensures i.3,
    )

pub returns : goal.returns
returns c =
    let i = c.loop.invariant in
    slots_none c.args.text.now _ (params_over i.0 (length c.args.text.now) c.loop.counter c.loop.rest.now _ (omega arith) i.3)
