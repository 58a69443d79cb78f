use Rattle.std.proofs.Common.{◌≡◌, ◌+◌, length, drop}
use Rattle.std.specs.List.{flat_map}
use Rattle.jparts.specs.jpool.Descriptors.{type_text}
use Rattle.jmove.proofs.descriptor.types_length.Given as goal

abbrev pub invariant-loop-one : goal.invariant-loop-one
invariant-loop-one l = l.count + length (flat_map type_text (drop l.one-index l.types)) ≡ length (flat_map type_text l.types)
