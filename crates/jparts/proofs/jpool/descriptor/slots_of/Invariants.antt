use Rattle.std.proofs.Common.{◌≡◌, ◌+◌, ◌*◌, ◌≤◌, drop}
use Rattle.jparts.specs.jpool.Descriptors.{slots_of}
use Rattle.jparts.proofs.jpool.descriptor.slots_of.Given as goal

abbrev pub invariant-loop-one : goal.invariant-loop-one
invariant-loop-one l = (l.count + slots_of (drop l.one-index l.types) ≡ slots_of l.types) × (l.count ≤ 2 * l.one-index)
