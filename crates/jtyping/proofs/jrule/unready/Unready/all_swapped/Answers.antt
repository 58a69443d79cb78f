use Rattle.std.proofs.Common.{arith, ◌+◌}
use Rattle.jtyping.specs.jrule.TypeSubstitution.{swapped}
use Rattle.jtyping.proofs.JruleProofs.TypeSubstitution.{done_at}
use Rattle.jtyping.proofs.jrule.unready.Unready.all_swapped.Goals as goal

pub loop-i-preserved : goal.loop-i-preserved
loop-i-preserved c =
    done_at (swapped c.args.self c.args.new) c.args.types.items c.loop-i.types.items c.loop-i.i (c.loop-i.i + 1) c.index.result.now c.swapped.result
    c.loop-i.invariant c.index.ensures c.swapped.ensures (omega arith) (omega (arith, c.loop-i-test.true, c.len-i-end.ensures))
