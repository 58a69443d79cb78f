use Rattle.std.proofs.Common.{sym, ◌∙◌, arith}
use Rattle.jground.proofs.JformatProofs.FaultOffsets.{fails_at}
use Rattle.jclass.specs.Class.{class_file}
use Rattle.jclass.proofs.ClassLaws.{class_law, found_is, read_is}
use Rattle.jreadclass.proofs.read.read_class.Goals as goal

pub returns-in-Ok-clause-found : goal.returns-in-Ok-clause-found
returns-in-Ok-clause-found c = found_is c.args.bytes.now c.in-Ok.class (λ i. omega (arith, c.type_inv.bytes i)) c.in-Ok.ensures

pub returns-in-Ok-clause-only : goal.returns-in-Ok-clause-only
returns-in-Ok-clause-only c = λ class s. sym (read_is c.args.bytes.now class s) ∙ c.in-Ok.ensures

pub returns-in-Err-clause-exact : goal.returns-in-Err-clause-exact
returns-in-Err-clause-exact c = rw c.stop_at.ensures (fails_at c.args.bytes.now c.in-Err.stop (class_file.read c.args.bytes.now) (class_law.within c.args.bytes.now) c.in-Err.ensures)

pub returns-in-Err-clause-only : goal.returns-in-Err-clause-only
returns-in-Err-clause-only c = λ class s. rw (← read_is c.args.bytes.now class s) (returns-in-Err-clause-exact c)
