use Rattle.std.proofs.Common.{◌≡◌, ◌+◌, drop}
use Rattle.jmove.specs.MovedFrames.{items_of}
use Rattle.jmove.proofs.framing.too_many.Given as goal

abbrev pub invariant-loop-frame : goal.invariant-loop-frame
invariant-loop-frame l = l.left + items_of l.local l.frames ≡ 16777216 + items_of l.local (drop l.frame-index l.frames)
