use Rattle.std.proofs.Common.{arith}
use Rattle.jparts.specs.jmaps.StackMapFormat.{frames, frame}
use Rattle.jclass.proofs.CodeLaws.{maps_good}
use Rattle.jclass.proofs.code.maps_of.Goals as goal

pub returns-in-Ok : goal.returns-in-Ok
unfolding frames frame
returns-in-Ok c = maps_good c.args.known.now c.args.bytes.now c.in-Ok.found (λ i. omega (arith, c.type_inv.bytes i)) c.in-Ok.ensures
