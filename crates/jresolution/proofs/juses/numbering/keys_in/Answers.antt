use Rattle.std.proofs.Common.{sym, ◌∙◌}
use Rattle.jground.specs.jbase.ListMaps.{each_some}
use Rattle.jresolution.specs.juses.InternedInstructions.{key_at}
use Rattle.jresolution.proofs.JusesProofs.BranchNumbers.{none_next, some_next}
use Rattle.jresolution.proofs.juses.numbering.keys_in.Goals as goal

pub returns-in-None : goal.returns-in-None
returns-in-None c = sym (none_next (key_at c.args.ops.now c.args.at) c.loop-case.keys c.args.cases.now c.loop-case.case-index _ (each_some (key_at c.args.ops.now c.args.at) c.args.cases.now) c.loop-case-test.true (sym c.key_of.ensures ∙ c.in-None.is) c.loop-case.invariant)

pub loop-case-preserved : goal.loop-case-preserved
loop-case-preserved c = rw c.in_ok-push-in-Some.ensures.ok (some_next (key_at c.args.ops.now c.args.at) c.loop-case.keys c.args.cases.now c.loop-case.case-index _ c.in-Some.key (each_some (key_at c.args.ops.now c.args.at) c.args.cases.now) c.loop-case-test.true (sym c.key_of.ensures ∙ c.in-Some.is) c.loop-case.invariant)
