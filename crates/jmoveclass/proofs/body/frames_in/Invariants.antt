use Rattle.std.proofs.Common.{◌≡◌, drop}
use Rattle.jground.specs.jbase.FirstFaults.{first_some}
use Rattle.jmoveclass.proofs.body.frames_in.Given as goal
use Rattle.jclass.specs.CodeFormat.{maps_of}

abbrev pub invariant-loop-attribute : goal.invariant-loop-attribute
invariant-loop-attribute l = first_some maps_of (drop l.attribute-index l.attributes) ≡ first_some maps_of l.attributes
