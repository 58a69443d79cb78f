use Rattle.std.proofs.Common.{arith}
use Rattle.jground.proofs.JbaseProofs.Cuts.{appended_next}
use Rattle.joutput.proofs.jio.sink.put_all.Goals as goal

pub loop-written-preserved : goal.loop-written-preserved
loop-written-preserved g c = record {
  within = omega (arith, c.in-Ok.ensures.within, c.split_at.ensures.back_len);
  so_far = appended_next _ _ _ c.loop-written.written c.in-Ok.count c.args.piece.now _ c.split_at.ensures.back c.loop-written.invariant.so_far c.in-Ok.ensures.ok;
  later = omega (arith, c.put.ensures.cause.later, c.loop-written.invariant.later);
}
