use Rattle.std.proofs.Common.{◌≡◌, drop}
use Rattle.jground.specs.jbase.FirstFaults.{first_some}
use Rattle.jlinking.specs.jreferring.CodeUnits.{frame_test}
use Rattle.jlinking.proofs.jreferring.units.frames_test.Given as goal

abbrev pub invariant-loop-one : goal.invariant-loop-one
invariant-loop-one l = first_some (frame_test l.table) (drop l.one-index l.frames) ≡ first_some (frame_test l.table) l.frames
