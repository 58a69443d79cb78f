use Rattle.std.proofs.Common.{rules, pos, ap, sym, ◌∙◌}
use Rattle.jground.specs.jbase.ListMaps.{each_some}
use Rattle.jresolution.specs.juses.IndexedInstructions.{target}
use Rattle.jresolution.proofs.JusesProofs.BranchNumbers.{none_next, some_next}
use Rattle.jresolution.proofs.juses.numbering.targets_of.Goals as goal

pub returns-in-None : goal.returns-in-None
returns-in-None c = sym (none_next (target c.args.ops.now c.args.at) c.loop-by.numbers c.args.branches.now c.loop-by.by-index (pos 0) (each_some (target c.args.ops.now c.args.at) c.args.branches.now) c.loop-by-test.true (ap (target c.args.ops.now c.args.at) (search rules) ∙ sym c.target.ensures ∙ c.in-None.is) c.loop-by.invariant)

pub loop-by-preserved : goal.loop-by-preserved
loop-by-preserved c = rw c.in_ok-push-in-Some.ensures.ok (some_next (target c.args.ops.now c.args.at) c.loop-by.numbers c.args.branches.now c.loop-by.by-index (pos 0) c.in-Some.to (each_some (target c.args.ops.now c.args.at) c.args.branches.now) c.loop-by-test.true (ap (target c.args.ops.now c.args.at) (search rules) ∙ sym c.target.ensures ∙ c.in-Some.is) c.loop-by.invariant)
