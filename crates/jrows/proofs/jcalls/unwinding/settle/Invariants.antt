use Rattle.std.proofs.Common.{ℕ, length}
use Rattle.jruntime.specs.jstate.FrameLists.{all}
use Rattle.jrows.specs.jcalls.FrameMarks.{Stand}
use Rattle.jrows.proofs.JcallsProofs.UnwoundFrames.{Reaches}
use Rattle.jrows.proofs.jcalls.unwinding.settle.Given as goal

abbrev pub invariant-loop-to : goal.invariant-loop-to
invariant-loop-to g l =
    Reaches (g.H.Handlers.goes l.handlers) l.fn.frames l.frames × ((classes : ℕ) → Stand classes (all l.fn.frames) → Stand classes (all l.frames))

abbrev pub decreases-loop-to : goal.decreases-loop-to
decreases-loop-to g l = length l.frames.below
