use Rattle.jserving.proofs.JcellsProofs.ObjectCells.{field_is}
use Rattle.jserving.proofs.jcells.fields.field_cell.Goals as goal

pub returns : goal.returns
returns c =
    field_is c.args.p.now c.named.result.now c.args.part.now c.parts.result.now c.args.field.now c.member_desc-desc.result.now c.in_ok-held.held c.cell_in.result
    c.named.ensures.same c.parts.ensures.same c.member_desc-desc.ensures c.in_ok-held.ensures c.cell_in.ensures
