use Rattle.std.proofs.Common.{arith}
use Rattle.std.proofs.lemmas.Grind.{common_steps}
use Rattle.jtyping.proofs.JruleProofs.OperandSlots.{slots_reversed}
use Rattle.jtyping.proofs.jrule.frame.Stack.is_within.Goals as goal

pub returns-then-count-most : goal.returns-then-count-most
returns-then-count-most c =
    let slots = slots_reversed c.self.inside.items.items in
    grind (arith, common_steps, slots, c.self.view_is, c.self.invariant, c.if-count-most.true, c.len-count.ensures, c.from-most.ensures)

pub returns : goal.returns
returns c =
    let slots = slots_reversed c.self.inside.items.items in
    grind (arith, common_steps, slots, c.self.view_is, c.self.invariant, c.if-count-most.false, c.len-count.ensures, c.from-most.ensures)
