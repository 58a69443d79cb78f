use Rattle.std.proofs.Common.{◌∙◌, map, reverse, ap}
use Rattle.jsemantics.specs.jmachine.MachineStates.{FrameOf}
use Rattle.jruntime.specs.jstate.FrameLists.{Framed, all}
use Rattle.jruntime.proofs.JstateProofs.FrameLists.{all_carried}
use Rattle.jruntime.proofs.jstate.frames.Frames.marks.Goals as goal

pub returns : goal.returns
returns g c =
    let E = g.row.M.Denot in
    ap reverse c.as_slice.ensures.value
    ∙ all_carried c.self.inside.at c.self.inside.mark c.self.inside.below.items c.self.inside.marks.items c.self.inside.locals c.self.inside.operands c.self.invariant
    ∙ ap (λ (f : Framed E). map (λ (x : FrameOf _ E). x.entry) (all f)) c.self.view_is
