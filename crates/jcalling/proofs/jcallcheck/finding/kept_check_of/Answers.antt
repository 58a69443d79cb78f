use Rattle.std.proofs.Common.{◌∙◌, arith, sym}
use Rattle.jstepping.specs.jcore.MachineInvariants.{things_of}
use Rattle.jcalling.proofs.JcallcheckProofs.Operands.{fewer, kept_found, kept_none, kept_other}
use Rattle.jcalling.proofs.jcallcheck.finding.kept_check_of.Goals as goal

pub returns-then-count-ne2 : goal.returns-then-count-ne2
returns-then-count-ne2 g c f runs = kept_none c.args.m.now f c.args.count c.requires runs c.if-count-ne2.true

pub operand_at-operand-requires : goal.operand_at-operand-requires
operand_at-operand-requires g c = fewer c.args.m.now c.args.count _ (let two = c.if-count-ne2.false in omega (arith, two)) c.requires

pub operand_at-context-requires : goal.operand_at-context-requires
operand_at-context-requires g c = fewer c.args.m.now c.args.count _ (let two = c.if-count-ne2.false in omega (arith, two)) c.requires

pub returns-in-None : goal.returns-in-None
returns-in-None g c f runs =
    let m = c.args.m.now in
    let kept = c.kept_of.ensures m.calls m.fixed.shapes.now (things_of m) m.constants.constants (sym c.as_slice.ensures) in
    kept_other m f c.args.count c.operand_at-operand.result c.operand_at-context.result c.if-count-ne2.false (c.operand_at-operand.ensures f runs)
    (c.operand_at-context.ensures f runs) (sym kept ∙ c.in-None.is)

pub returns-in-Some : goal.returns-in-Some
returns-in-Some g c f runs =
    let m = c.args.m.now in
    let kept = c.kept_of.ensures m.calls m.fixed.shapes.now (things_of m) m.constants.constants (sym c.as_slice.ensures) in
    kept_found m f c.args.count c.operand_at-operand.result c.operand_at-context.result c.if-count-ne2.false c.in-Some.number (c.operand_at-operand.ensures f runs)
    (c.operand_at-context.ensures f runs) (sym kept ∙ c.in-Some.is)
