use Rattle.std.proofs.Common.{◌∙◌, length, sym, ap, arith}
use Rattle.jruntime.specs.jstate.FrameLists.{Framed, all}
use Rattle.jruntime.proofs.JstateProofs.FrameLists.{deep}
use Rattle.jruntime.proofs.jstate.frames.Frames.depth.Goals as goal

pub returns : goal.returns
returns g c =
    let n = deep c.self.inside.at c.self.inside.mark c.self.inside.below.items c.self.inside.marks.items c.self.inside.locals c.self.inside.operands c.self.invariant in
    omega (arith, c.len.ensures, c.self.inside.below.ok.0, sym n ∙ ap (λ (f : Framed g.row.M.Denot). length (all f)) c.self.view_is)
