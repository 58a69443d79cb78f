use Rattle.std.proofs.Common.{◌≡◌, drop}
use Rattle.jground.specs.jbase.FirstFaults.{first_some}
use Rattle.jmoveclass.specs.MovedMembers.{maps_name}
use Rattle.jmoveclass.proofs.frames.maps_name.Given as goal

abbrev pub invariant-loop-attribute : goal.invariant-loop-attribute
invariant-loop-attribute l = first_some maps_name (drop l.attribute-index l.attributes) ≡ first_some maps_name l.attributes
