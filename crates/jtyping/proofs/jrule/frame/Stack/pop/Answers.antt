use Rattle.std.proofs.Common.{arith}
use Rattle.jtyping.proofs.JruleProofs.OperandSlots.{longs_pushed}
use Rattle.jtyping.proofs.jrule.frame.Stack.pop.Goals as goal

pub overflow_sub-self : goal.overflow_sub-self
overflow_sub-self c =
    let pushed = longs_pushed c.pop.new.self.items c.in_ok-kind.kind in
    grind (arith, pushed, c.self.invariant, c.longs_in.ensures, c.in_ok-kind.ensures.items)

pub invariant_of-self-2 : goal.invariant_of-self-2
invariant_of-self-2 c =
    let pushed = longs_pushed c.pop.new.self.items c.in_ok-kind.kind in
    grind (arith, pushed, c.self.invariant, c.longs_in.ensures, c.in_ok-kind.ensures.items)
