use Rattle.std.proofs.Common.{◌≡◌, take}
use Rattle.jsnapshots.specs.SnapshotPath.{marks_of}
use Rattle.jsnapshots.proofs.path.common.Given as goal

abbrev pub invariant-loop-n : goal.invariant-loop-n
invariant-loop-n l = marks_of (take l.n l.frames) ≡ take l.n l.marks
