use Rattle.std.proofs.Common.{map, ap, ◌∙◌}
use Rattle.std.proofs.lemmas.List.{take_all}
use Rattle.jresolution.specs.jlayout.InternedFields.{all_statics}
use Rattle.jserving.proofs.JcellsProofs.ObjectCells.{plain_of, static_cells}
use Rattle.jserving.proofs.jcells.shapes.statics_of.Goals as goal

pub returns : goal.returns
returns c =
    c.loop-row.invariant ∙ ap (map plain_of) (take_all c.loop-row.row-index c.statics-rows.result.now c.loop-row-test.false)
    ∙ static_cells c.args.ready.now.program (all_statics c.args.ready.now.program) c.statics-rows.result.now c.statics-rows.ensures
