use Rattle.std.proofs.Common.{arith, ◌∙◌}
use Rattle.jgen.proofs.MethodParts.{calls_end, calls_next}
use Rattle.jgen.proofs.class.put_calls.Goals as goal

pub put_call-requires-clause-room : goal.put_call-requires-clause-room
put_call-requires-clause-room c = omega (arith, c.loop-i.invariant.few, c.loop-i-test.true, c.requires.most, c.requires.room)

pub loop-i-preserved : goal.loop-i-preserved
loop-i-preserved c = record {
  so_far = calls_next c.loop-i.i c.args.size c.as_slice.result.now c.loop-i.draft c.put_call.new.draft _ c.loop-i-test.true (c.as_slice.ensures ∙ c.in_ok-name.ensures.name) c.in_ok-put_call.ensures.value c.loop-i.invariant.so_far;
  within = omega (arith, c.loop-i-test.true);
  few = omega (arith, c.in_ok-put_call.ensures.few, c.loop-i.invariant.few);
}

pub returns-clause-few : goal.returns-clause-few
returns-clause-few c = omega (arith, c.loop-i.invariant.within, c.loop-i.invariant.few)

pub returns-clause-value : goal.returns-clause-value
returns-clause-value c = calls_end c.loop-i.i c.args.size c.loop-i.draft _ (omega (arith, c.loop-i-test.false)) c.loop-i.invariant.so_far
