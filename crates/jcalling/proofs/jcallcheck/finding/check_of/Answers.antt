use Rattle.std.proofs.Common.{arith}
use Rattle.jcalling.proofs.JcallcheckProofs.Operands.{check_found, check_none, fewer}
use Rattle.jcalling.proofs.jcallcheck.finding.check_of.Goals as goal

pub returns-then-count-ne1 : goal.returns-then-count-ne1
returns-then-count-ne1 g c f runs = check_none c.args.m.now f c.args.count c.requires runs c.if-count-ne1.true

pub operand_at-operand-requires : goal.operand_at-operand-requires
operand_at-operand-requires g c = fewer c.args.m.now c.args.count _ (let one = c.if-count-ne1.false in omega (arith, one)) c.requires

pub returns : goal.returns
returns g c f runs = check_found c.args.m.now f c.args.count c.operand_at-operand.result c.if-count-ne1.false (c.operand_at-operand.ensures f runs)
