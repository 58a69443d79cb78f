use Rattle.std.proofs.Common.{arith, ◌∷◌, ◌++◌, []}
use Rattle.std.proofs.lemmas.Grind.{common_steps}
use Rattle.jtyping.proofs.JruleProofs.OperandSlots.{longs_pushed, longs_within}
use Rattle.jtyping.proofs.jrule.frame.Stack.push.Goals as goal

pub overflow_add-self : goal.overflow_add-self
overflow_add-self c =
    let pushed = longs_pushed c.self.inside.items.items c.args.kind in
    let within = longs_within (c.self.inside.items.items ++ c.args.kind ∷ []) in
    grind (arith, common_steps, pushed, within, c.self.invariant, c.longs_in.ensures, c.in_ok-push.ensures.items, c.push.new.self.small)

pub invariant_of-self-2 : goal.invariant_of-self-2
invariant_of-self-2 c =
    let pushed = longs_pushed c.self.inside.items.items c.args.kind in
    grind (arith, pushed, c.self.invariant, c.longs_in.ensures, c.in_ok-push.ensures.items)
