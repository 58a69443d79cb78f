use Rattle.std.proofs.Common.{◌≡◌, ◌-◌, ◌*◌, ◌≤◌, List, length}
use Rattle.jparts.specs.declared.jpool.descriptor.FieldType.{FieldType}
use Rattle.jparts.specs.jpool.Descriptors.{params_at, slots_of}
use Rattle.jparts.proofs.JpoolProofs.Params.{behind}
use Rattle.jparts.proofs.jpool.scan.params_slots.Given as goal

abbrev pub invariant-loop : goal.invariant-loop
invariant-loop l = (done : List FieldType) × (l.count ≡ slots_of done) × (l.count ≤ 2 * l.counter) × (behind done (params_at (length l.text - l.counter) l.rest) ≡ params_at (length l.text) l.text)
