use Rattle.std.proofs.Common.{◌≡◌, ◌≤◌, ◌-◌, ℕ, false, length}
use Rattle.jresolution.specs.jprogram.ImplementedInterfaces.{is_made_at}
use Rattle.jresolution.proofs.jprogram.implemented.no_rows.Given as goal

abbrev pub invariant-loop-rows : goal.invariant-loop-rows
invariant-loop-rows l = (length l.rows ≤ l.count) × ((i : ℕ) → is_made_at l.rows i ≡ false)

abbrev pub decreases-loop-rows : goal.decreases-loop-rows
decreases-loop-rows l = l.count - length l.rows
