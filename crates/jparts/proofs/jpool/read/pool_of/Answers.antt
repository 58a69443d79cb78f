use Rattle.std.proofs.Common.{◌≡◌, None, sym, arith, ◌∙◌}
use Rattle.jparts.specs.jpool.ConstantPools.{entry_fault, first_fault}
use Rattle.jparts.proofs.JpoolProofs.PoolLaws.{read_is_pool}
use Rattle.jparts.proofs.jpool.read.pool_of.Goals as goal

pub from_entries-requires : goal.from_entries-requires
from_entries-requires c =
    let none : first_fault (entry_fault c.in_ok-entries.entries) c.saturating_sub-left.result c.in_ok-entries.entries ≡ None = rw (c.as_slice.ensures) at (sym c.in_ok-fault.ensures ∙ c.in_default.is) in
    read_is_pool c.args.bytes.now c.in_ok-entries.entries c.in_ok-entries.rest.now _ (λ i. omega (arith, c.type_inv.bytes i)) c.in_ok-entries.ensures none
