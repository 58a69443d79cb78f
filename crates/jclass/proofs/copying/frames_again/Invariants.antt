use Rattle.std.proofs.Common.{◌≡◌, take}
use Rattle.jclass.proofs.copying.frames_again.Given as goal

abbrev pub invariant-loop-one : goal.invariant-loop-one
invariant-loop-one l = l.same ≡ take l.one-index l.frames
