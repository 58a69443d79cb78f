use Rattle.std.proofs.Common.{◌∙◌, sym}
use Rattle.jruntime.proofs.JstateProofs.FrameLists.{alone, left_to}
use Rattle.jruntime.proofs.jstate.frames.Frames.leave.Goals as goal

pub returns-in-None : goal.returns-in-None
returns-in-None g c =
    alone c.self.inside.at c.self.inside.mark c.self.inside.below.items c.pop.new.self.items c.self.inside.marks.items c.self.inside.locals c.self.inside.operands c.args.self.now c.self.view_is
    (sym c.self.inside.below.ok.0 ∙ c.in-None.ensures.cases.0) c.in-None.ensures.items

pub returns-in-Some : goal.returns-in-Some
returns-in-Some g c =
    left_to c.in-Some.at c.self.inside.at c.index.result.now c.self.inside.mark c.self.inside.below.items c.pop.new.self.items c.self.inside.marks.items c.pop-in-Some.new.self.items
    c.self.inside.locals c.close.new.self c.self.inside.operands c.close-in-Some.new.self c.args.self.now c.self.view_is c.self.invariant c.in-Some.ensures.items
    c.self.inside.marks.len c.len.result c.self.inside.marks.ok.0 c.pop-in-Some.ensures.rest (c.len.ensures ∙ c.pop.new.self.ok.0) c.index.ensures c.close.ensures c.close-in-Some.ensures
