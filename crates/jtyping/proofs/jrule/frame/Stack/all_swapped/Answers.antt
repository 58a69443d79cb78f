use Rattle.jtyping.proofs.JruleProofs.TypeSubstitution.{longs_kept}
use Rattle.jtyping.proofs.jrule.frame.Stack.all_swapped.Goals as goal

pub invariant_of-result : goal.invariant_of-result
invariant_of-result c =
    longs_kept c.args.it c.args.new c.self.inside.items.items c.all_swapped.result.items c.self.inside.longs c.requires c.all_swapped.ensures c.self.invariant
