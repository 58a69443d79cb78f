use Rattle.std.proofs.Common.{arith}
use Rattle.jclass.proofs.CodeLaws.{ops_are, length_bytes}
use Rattle.jclass.proofs.code.ops_of.Goals as goal

pub returns-clause-size : goal.returns-clause-size
returns-clause-size c = ops_are c.args.known.now c.in_ok-count.count c.in_ok-count.rest.now (c.in_ok-found.found, c.in_ok-found.rest.now) (length_bytes c.args.bytes.now _ (λ i. omega (arith, c.type_inv.bytes i)) c.in_ok-count.ensures) c.in_ok-found.ensures
