use Rattle.std.proofs.Common.{sym, arith}
use Rattle.jground.proofs.JformatProofs.FaultOffsets.{fails_at}
use Rattle.jparts.specs.jcode.Instructions.{code}
use Rattle.jparts.proofs.JcodeProofs.CodeLaws.{code_law}
use Rattle.jparts.proofs.JcodeProofs.Places.{good, lost_one, faulty, read_rises}
use Rattle.jparts.proofs.jcode.coding.code_of.Goals as goal

pub first_lost-requires : goal.first_lost-requires
first_lost-requires c = rw c.as_slice.ensures (read_rises c.args.bytes.now c.in-Ok.ops (λ i. omega (arith, c.type_inv.bytes i)) c.in-Ok.ensures)

pub returns-in-None : goal.returns-in-None
returns-in-None c = good c.args.bytes.now c.in-Ok.ops c.in-Ok.ensures (sym (rw c.as_slice.ensures at c.in-None.ensures))

pub returns-in-Some : goal.returns-in-Some
returns-in-Some c = lost_one c.args.bytes.now c.in-Ok.ops c.in-Some.at (λ i. omega (arith, c.type_inv.bytes i)) c.in-Ok.ensures (sym (rw c.as_slice.ensures at c.in-Some.ensures))

pub returns-in-Err : goal.returns-in-Err
returns-in-Err c = rw c.stop_at.ensures (fails_at c.args.bytes.now c.in-Err.stop (code.read c.args.bytes.now) (λ d e. code_law.within c.args.bytes.now d e) (faulty c.args.bytes.now c.in-Err.stop c.in-Err.ensures))
