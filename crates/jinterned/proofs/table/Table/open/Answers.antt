use Rattle.jinterned.specs.ContextStores.{contexts_of}
use Rattle.jinterned.proofs.CacheInvariants.{right_none}
use Rattle.jinterned.proofs.TableInvariants.{opened}
use Rattle.jinterned.proofs.table.Table.open.Goals as goal

pub invariant_of-result : goal.invariant_of-result
invariant_of-result c = (opened c.in_ok-store.store c.in_ok-store.ensures, right_none (contexts_of c.in_ok-store.store) c.in_ok-known.known 4096 c.in_ok-known.ensures.empty)
