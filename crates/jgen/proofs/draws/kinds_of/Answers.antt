use Rattle.std.proofs.Common.{arith}
use Rattle.jgen.proofs.DrawnKinds.{all_length, kinds_end, kinds_next, state_next, state_three}
use Rattle.jgen.proofs.draws.kinds_of.Goals as goal

pub next-one-requires : goal.next-one-requires
next-one-requires c = c.loop-i.invariant.small

pub loop-i-preserved : goal.loop-i-preserved
loop-i-preserved c =
    let s = state_three c.args.seed c.loop-i.i c.loop-i.x c.next-one.result c.next-two.result c.next-three.result c.loop-i.invariant.state c.next-one.ensures.next c.next-two.ensures.next c.next-three.ensures.next in
    record {
      state = state_next c.args.seed c.loop-i.i c.next-three.result s.1.1;
      small = c.next-three.ensures.small;
      so_far = kinds_next c.args.seed c.args.size c.loop-i.i c.next-one.result c.next-two.result c.next-three.result c.loop-i.all c.push.new.self _ c.kind_of.result c.loop-i-test.true c.kind_of.ensures s c.in_ok-push.ensures.ok c.loop-i.invariant.so_far;
    }

pub returns-clause-kinds : goal.returns-clause-kinds
returns-clause-kinds c = kinds_end c.args.seed c.args.size c.loop-i.i c.loop-i.all _ (omega (arith, c.loop-i-test.false)) c.loop-i.invariant.so_far

pub returns-clause-length : goal.returns-clause-length
returns-clause-length c = all_length c.args.seed c.args.size c.loop-i.all (kinds_end c.args.seed c.args.size c.loop-i.i c.loop-i.all _ (omega (arith, c.loop-i-test.false)) c.loop-i.invariant.so_far)
