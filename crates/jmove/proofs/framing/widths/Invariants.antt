use Rattle.std.proofs.Common.{◌≡◌, ◌+◌, drop}
use Rattle.jmove.specs.MovedFrames.{widths}
use Rattle.jmove.proofs.framing.widths.Given as goal

abbrev pub invariant-loop-one : goal.invariant-loop-one
invariant-loop-one l = l.count + widths (drop l.one-index l.types) ≡ widths l.types
