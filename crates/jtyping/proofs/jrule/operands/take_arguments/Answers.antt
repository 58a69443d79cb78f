use Rattle.std.proofs.Common.{Some, None, sym, ◌∙◌}
use Rattle.jtyping.specs.jrule.InternedFrames.{seen}
use Rattle.jtyping.proofs.JruleProofs.Arguments.{next_taken, none_left}
use Rattle.jtyping.proofs.jrule.operands.take_arguments.Goals as goal

pub returns-in-None : goal.returns-in-None
returns-in-None c =
    sym (next_taken c.args.p.now c.args.types.now c.loop-t.t-index _ (seen c.args.p.now c.loop-t.left) None c.loop-t-test.true c.in-None.ensures)
    ∙ c.loop-t.invariant

pub loop-t-preserved : goal.loop-t-preserved
loop-t-preserved c =
    sym (next_taken c.args.p.now c.args.types.now c.loop-t.t-index _ (seen c.args.p.now c.loop-t.left) (Some (seen c.args.p.now c.in-Some.f)) c.loop-t-test.true c.in-Some.ensures)
    ∙ c.loop-t.invariant

pub returns : goal.returns
returns c = sym (none_left c.args.p.now c.args.types.now c.loop-t.t-index (seen c.args.p.now c.loop-t.left) c.loop-t-test.false) ∙ c.loop-t.invariant
