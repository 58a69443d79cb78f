use Rattle.std.proofs.Common.{◌≡◌, None, sym, arith, ◌∙◌}
use Rattle.jparts.specs.jpool.ConstantPools.{first_fault}
use Rattle.jclass.specs.PoolChecks.{entry_fault}
use Rattle.jclass.proofs.ClassLaws.{head_pool}
use Rattle.jreadclass.proofs.read.parts_of.Goals as goal

pub from_entries-pool-requires : goal.from_entries-pool-requires
from_entries-pool-requires c =
    let none : first_fault (entry_fault c.args.head.entries) c.saturating_sub-left.result c.args.head.entries ≡ None = rw c.as_slice.ensures at (sym c.in_ok-found.ensures ∙ c.in_default.is) in
    head_pool c.args.bytes.now c.args.rest.now _ _ (λ i. omega (arith, c.type_inv.bytes i)) c.requires none
