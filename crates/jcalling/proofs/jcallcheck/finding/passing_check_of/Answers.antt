use Rattle.std.proofs.Common.{◌∙◌, arith, sym}
use Rattle.jcalling.proofs.JcallcheckProofs.Operands.{fewer, passing_found, passing_none, passing_other}
use Rattle.jcalling.proofs.jcallcheck.finding.passing_check_of.Goals as goal

pub returns-then-count-ne2 : goal.returns-then-count-ne2
returns-then-count-ne2 g c f runs = passing_none c.args.m.now f c.args.count c.requires runs c.if-count-ne2.true

pub operand_at-given-requires : goal.operand_at-given-requires
operand_at-given-requires g c = fewer c.args.m.now c.args.count _ (let two = c.if-count-ne2.false in omega (arith, two)) c.requires

pub operand_at-operand-requires : goal.operand_at-operand-requires
operand_at-operand-requires g c = fewer c.args.m.now c.args.count _ (let two = c.if-count-ne2.false in omega (arith, two)) c.requires

pub returns-in-None : goal.returns-in-None
returns-in-None g c f runs =
    passing_other c.args.m.now f c.args.count c.operand_at-given.result c.operand_at-operand.result c.if-count-ne2.false (c.operand_at-given.ensures f runs)
    (c.operand_at-operand.ensures f runs) (sym c.context_in.ensures ∙ c.in-None.is)

pub returns-in-Some : goal.returns-in-Some
returns-in-Some g c f runs =
    passing_found c.args.m.now f c.args.count c.operand_at-given.result c.operand_at-operand.result c.if-count-ne2.false c.in-Some.k (c.operand_at-given.ensures f runs)
    (c.operand_at-operand.ensures f runs) (sym c.context_in.ensures ∙ c.in-Some.is)
