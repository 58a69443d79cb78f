use Rattle.std.proofs.Common.{◌≡◌, ◌<◌, length, take}
use Rattle.jresolution.specs.jprogram.NameSlots.{AreFilled}
use Rattle.jresolution.proofs.jprogram.slots.slots_of.Given as goal

abbrev pub invariant-loop-i : goal.invariant-loop-i
invariant-loop-i l = (0 < l.count) × ((length l.slots ≡ l.count) × AreFilled l.count (take l.i l.parts) l.slots)
