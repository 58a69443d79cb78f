use Rattle.std.proofs.Common.{length, arith, sym}
use Rattle.jparts.specs.jpool.FieldTypes.{piece}
use Rattle.jparts.proofs.JpoolProofs.Params.{params_close, params_bad, params_more, params_over}
use Rattle.jparts.proofs.jpool.descriptor.params_of.Goals as goal

pub returns-in-Some : goal.returns-in-Some
returns-in-Some c = params_close c.loop.params (length c.args.text.now) c.loop.counter c.loop.rest.now c.in-Some.behind.now _ c.loop-test.true c.in-Some.ensures c.loop.invariant

pub returns-in_default-type_of : goal.returns-in_default-type_of
returns-in_default-type_of c = sym (params_bad c.loop.params (length c.args.text.now) c.loop.counter c.loop.rest.now _ c.loop-test.true c.in_default.ensures c.in_default-type_of.ensures c.loop.invariant)

pub loop-preserved : goal.loop-preserved
loop-preserved c =
    rw (c.in_ok-push.ensures.ok, c.in_ok-owned.ensures)
    (params_more c.loop.params (length c.args.text.now) c.loop.counter c.loop.rest.now c.in-Some-type_of.behind.now (piece c.in-Some-type_of.one) _ c.loop-test.true c.in_default.ensures c.in-Some-type_of.ensures c.loop.invariant)

pub returns : goal.returns
returns c = sym (params_over c.loop.params (length c.args.text.now) c.loop.counter c.loop.rest.now _ (omega arith) c.loop.invariant)
