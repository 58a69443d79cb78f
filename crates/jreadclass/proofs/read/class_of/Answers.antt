use Rattle.std.proofs.Common.{arith}
use Rattle.jclass.proofs.ClassLaws.{parts_fit}
use Rattle.jreadclass.proofs.read.class_of.Goals as goal

pub from_parts-requires : goal.from_parts-requires
from_parts-requires c = parts_fit c.args.bytes.now c.in_ok-parts.parts (λ i. omega (arith, c.type_inv.bytes i)) c.in_ok-parts.ensures
