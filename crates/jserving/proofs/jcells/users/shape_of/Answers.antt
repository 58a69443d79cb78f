use Rattle.std.proofs.Common.{List, ◌∙◌, ap, arith, length}
use Rattle.jmemory.specs.declared.jheap.cell.CellType.{CellType}
use Rattle.jresolution.specs.jprogram.ProgramClasses.{Program}
use Rattle.jserving.specs.jcells.UserClassCells.{cells_at}
use Rattle.jserving.proofs.JcellsProofs.ObjectCells.{world_cells}
use Rattle.jserving.proofs.jcells.users.shape_of.Goals as goal

pub returns : goal.returns
returns c = record {
  fields = c.in_ok-cells.ensures ∙ ap (λ (p : Program). cells_at p c.args.class) c.program.ensures ∙ world_cells c.args.ready.now.program c.args.class c.requires.there;
  message = c.shape-message.ensures.message;
  few = omega (arith, ap (λ (l : List CellType). length l) c.as_slice.ensures);
}
