use Rattle.std.proofs.Common.{◌≡◌, map, take}
use Rattle.jmove.specs.MovedFrames.{moved_frame}
use Rattle.jmove.specs.PlaceTables.{in_table}
use Rattle.jmove.proofs.framing.frames_moved.Given as goal

abbrev pub invariant-loop-frame : goal.invariant-loop-frame
invariant-loop-frame l = l.moved ≡ map (moved_frame (in_table l.places) l.local l.context) (take l.frame-index l.frames)
