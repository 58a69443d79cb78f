use Rattle.std.proofs.Common.{◌∙◌}
use Rattle.jruntime.proofs.JstateProofs.FrameLists.{carries, carries_lies}
use Rattle.jruntime.proofs.jstate.frames.Frames.carry.Goals as goal

pub invariant_of-self : goal.invariant_of-self
invariant_of-self g c =
    carries_lies c.self.inside.mark c.args.mark c.self.inside.below.items c.self.inside.marks.items c.self.inside.locals c.self.inside.operands c.len-n.result c.self.invariant
    (c.len-n.ensures ∙ c.self.inside.below.ok.0)

pub returns : goal.returns
returns g c =
    carries c.self.inside.at c.self.inside.mark c.args.mark c.self.inside.below.items c.self.inside.marks.items c.self.inside.locals c.self.inside.operands c.args.self.now c.len-n.result
    c.self.view_is c.self.invariant (c.len-n.ensures ∙ c.self.inside.below.ok.0)
