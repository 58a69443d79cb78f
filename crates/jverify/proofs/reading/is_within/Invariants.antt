use Rattle.std.proofs.Common.{◌≡◌, drop, nat_le}
use Rattle.jtyping.specs.jrule.OperandSlots.{slot_count}
use Rattle.jverify.proofs.reading.is_within.Given as goal

abbrev pub invariant-loop-kind : goal.invariant-loop-kind
invariant-loop-kind l = nat_le (slot_count (drop l.kind-index l.items)) l.left ≡ nat_le (slot_count l.items) l.most
