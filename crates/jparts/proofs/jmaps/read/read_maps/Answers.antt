use Rattle.std.proofs.Common.{sym, ◌∙◌, arith}
use Rattle.jground.proofs.JformatProofs.FaultOffsets.{fails_at}
use Rattle.jparts.specs.jmaps.StackMapFormat.{maps}
use Rattle.jparts.proofs.JmapsProofs.MapLaws.{maps_law, read_is}
use Rattle.jparts.proofs.jmaps.read.read_maps.Goals as goal

pub returns-in-Ok-clause-found : goal.returns-in-Ok-clause-found
returns-in-Ok-clause-found c = rw c.into_vec.ensures (maps_law.takes c.args.bytes.now c.in-Ok.found (λ i. omega (arith, c.type_inv.bytes i)) c.in-Ok.ensures)

pub returns-in-Ok-clause-only : goal.returns-in-Ok-clause-only
returns-in-Ok-clause-only c = λ fs fit e. sym (read_is c.args.bytes.now fs fit e) ∙ rw c.into_vec.ensures c.in-Ok.ensures

pub returns-in-Err-clause-exact : goal.returns-in-Err-clause-exact
returns-in-Err-clause-exact c = rw c.stop_at.ensures (fails_at c.args.bytes.now c.in-Err.stop (maps.read c.args.bytes.now) (maps_law.within c.args.bytes.now) c.in-Err.ensures)

pub returns-in-Err-clause-only : goal.returns-in-Err-clause-only
returns-in-Err-clause-only c = λ fs fit e. rw (← read_is c.args.bytes.now fs fit e) (returns-in-Err-clause-exact c)
