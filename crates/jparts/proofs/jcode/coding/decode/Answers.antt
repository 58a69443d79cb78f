use Rattle.std.proofs.Common.{sym, ◌∙◌, arith}
use Rattle.jparts.proofs.JcodeProofs.CodeLaws.{code_law}
use Rattle.jparts.proofs.JcodeProofs.Places.{read_is}
use Rattle.jparts.proofs.jcode.coding.decode.Goals as goal

pub returns-in-Ok-clause-found : goal.returns-in-Ok-clause-found
returns-in-Ok-clause-found c = rw c.fitted.ensures (code_law.takes c.args.bytes.now c.in-Ok.ops (λ i. omega (arith, c.type_inv.bytes i)) c.in-Ok.ensures)

pub returns-in-Ok-clause-only : goal.returns-in-Ok-clause-only
returns-in-Ok-clause-only c = λ ps fit e. sym (read_is c.args.bytes.now ps fit e) ∙ rw c.fitted.ensures c.in-Ok.ensures

pub returns-in-Err-clause-only : goal.returns-in-Err-clause-only
returns-in-Err-clause-only c = λ ps fit e. rw (read_is c.args.bytes.now ps fit e) at c.in-Err.ensures
