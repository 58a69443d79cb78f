use Rattle.std.proofs.Common.{subst}
use Rattle.jresolution.specs.juses.PoolTables.{Grows}
use Rattle.jready.specs.declared.tables.Tables.{Tables}
use Rattle.jruntime.proofs.JstateProofs.ArrayTypeNumbers.{typed_there}
use Rattle.jserving.proofs.JcellsProofs.ObjectCells.{has_shape}
use Rattle.jserving.proofs.jcells.shapes.shapes_of.Goals as goal

pub returns-clause-tied : goal.returns-clause-tied
returns-clause-tied c = record {
  users = λ i lt. has_shape c.args.ready.now.program _ i c.in_ok-users.ensures lt;
  classes = c.in_ok-users.ensures.count;
  statics = c.in_ok-statics.ensures;
  arrays = subst (λ (t : Tables). Grows t.arrays c.in_ok-arrays.arrays.types) c.tables.ensures c.in_ok-arrays.ensures.grows;
  few = c.in_ok-arrays.ensures.few;
}

pub returns-clause-strings : goal.returns-clause-strings
returns-clause-strings c = typed_there _ c.in_ok-arrays.arrays.strings _ c.in_ok-arrays.ensures.few c.in_ok-arrays.ensures.strings

pub returns-clause-small : goal.returns-clause-small
returns-clause-small c = λ i shape at. (c.in_ok-users.ensures.each i shape at).few
