use Rattle.std.proofs.Common.{◌∙◌, ap}
use Rattle.jparts.specs.jcode.Instructions.{code}
use Rattle.jparts.proofs.JcodeProofs.CodeLaws.{code_law}
use Rattle.jparts.proofs.JcodeProofs.Places.{written_fits, written_is}
use Rattle.jparts.proofs.jcode.coding.encode.Goals as goal

pub put_each-requires : goal.put_each-requires
put_each-requires c = written_fits c.args.ops.now c.requires

pub returns-clause-spelled : goal.returns-clause-spelled
returns-clause-spelled c = c.into_vec.ensures ∙ c.in_ok-put_each.ensures ∙ rw c.new-out.ensures (written_is c.args.ops.now c.requires)

pub returns-clause-again : goal.returns-clause-again
returns-clause-again c =
    let spelled = c.into_vec.ensures ∙ c.in_ok-put_each.ensures ∙ rw c.new-out.ensures (written_is c.args.ops.now c.requires) in
    ap code.read spelled ∙ code_law.again c.args.ops.now c.requires
