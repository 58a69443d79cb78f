use Rattle.std.proofs.Common.{◌≡◌, drop}
use Rattle.jground.specs.jbase.FirstFaults.{first_some}
use Rattle.jsemantics.specs.jmachine.OpeningState.{value_in}
use Rattle.jready.proofs.statics.constant_index.Given as goal

abbrev pub invariant-loop-attribute : goal.invariant-loop-attribute
invariant-loop-attribute l = first_some value_in (drop l.attribute-index l.field.attributes) ≡ first_some value_in l.field.attributes
