use Rattle.std.proofs.Common.{Some, length}
use Rattle.jrows.proofs.JcallsProofs.UnwoundFrames.{settled_with, unwound_some}
use Rattle.jrows.proofs.JcallsProofs.FrameStability.{handled_stands, unhandled_stands}
use Rattle.jrows.proofs.jcalls.unwinding.unwind.Goals as goal

pub handle-requires : goal.handle-requires
handle-requires g c = (c.settle.ensures.stand (length c.args.marks.now) c.requires).0.class

pub returns-clause-row : goal.returns-clause-row
returns-clause-row g c =
    let goes = g.H.Handlers.goes c.args.handlers.now in
    unwound_some goes c.args.marks.now c.args.object c.in-Some.to c.args.frames.now c.settle.new.frames c.handle.new.frames
    (settled_with goes c.args.frames.now c.settle.new.frames c.settle.result (Some c.in-Some.to) c.in-Some.is c.settle.ensures.row) c.in_ok-handle.ensures

pub returns-in_default-clause-stand : goal.returns-in_default-clause-stand
returns-in_default-clause-stand g c = unhandled_stands c.args.frames.now c.settle.new.frames c.settle.ensures.stand

pub returns-clause-stand : goal.returns-clause-stand
returns-clause-stand g c =
    handled_stands c.args.marks.now c.args.frames.now c.settle.new.frames c.handle.new.frames _ _ c.settle.ensures.stand c.in_ok-handle.ensures
