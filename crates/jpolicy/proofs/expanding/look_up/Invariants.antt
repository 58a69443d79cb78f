use Rattle.std.proofs.Common.{◌≡◌, drop}
use Rattle.jpolicy.specs.Expansion.{look_up}
use Rattle.jpolicy.proofs.expanding.look_up.Given as goal

abbrev pub invariant-loop-property : goal.invariant-loop-property
invariant-loop-property l = look_up (drop l.property-index l.properties) l.name ≡ look_up l.properties l.name
