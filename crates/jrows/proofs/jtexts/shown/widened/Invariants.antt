use Rattle.std.proofs.Common.{◌≡◌, take}
use Rattle.jrows.proofs.jtexts.shown.widened.Given as goal

abbrev pub invariant-loop-b : goal.invariant-loop-b
invariant-loop-b l = l.units.items ≡ take l.b-index l.text
