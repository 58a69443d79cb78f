-- Rows that cost nothing.
use Rattle.std.proofs.Common.{◌≡◌, ℕ, ◌-◌, List, ap, arith}
use Rattle.std.specs.Prelude.{nat_le, if◌then◌else◌}
use Rattle.std.proofs.Math.Dec.{leb-zero}
use Rattle.joutput.specs.declared.jtrace.event.Event.{Event}
use Rattle.jsemantics.specs.jmachine.Store.{Store, paid}
use Rattle.jrows.specs.jtexts.TextCallOutcomes.{Left, leaves}
use Rattle.jrows.specs.declared.jtexts.ran.Ran.{Ran}

unpaid : {K : Type 0} (s : Store K) → s ≡ paid 0 s
unpaid s = let e : s.left ≡ s.left - 0 = omega arith in ap (λ n. record { objects = s.objects; statics = s.statics; constants = s.constants; left = n }) e

pub at_no_cost : (s t : Store ℕ) (ran : Ran) (told : List Event) (full : Left) → leaves ran told t ≡ (if nat_le 0 s.left then leaves ran told (paid 0 t) else full)
at_no_cost s t ran told full = rw (leb-zero s.left) (ap (leaves ran told) (unpaid t))
