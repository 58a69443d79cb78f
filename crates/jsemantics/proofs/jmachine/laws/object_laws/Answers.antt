use Rattle.jsemantics.proofs.JmachineProofs.ArrayRows.{array_law, make_array_law}
use Rattle.jsemantics.proofs.JmachineProofs.FieldRows.{field_law}
use Rattle.jsemantics.proofs.JmachineProofs.CreationRows.{cast_law, make_law, push_law}
use Rattle.jsemantics.proofs.jmachine.laws.object_laws.Goals as goal

pub returns-clause-array : goal.returns-clause-array
returns-clause-array g c = array_law _ _ _ _

pub returns-clause-make_array : goal.returns-clause-make_array
returns-clause-make_array g c = make_array_law _ _ _ _

pub returns-clause-field : goal.returns-clause-field
returns-clause-field g c = field_law _ _ _ _

pub returns-clause-push : goal.returns-clause-push
returns-clause-push g c = push_law _ _ _ _

pub returns-clause-make : goal.returns-clause-make
returns-clause-make g c = make_law _ _ _ _

pub returns-clause-cast : goal.returns-clause-cast
returns-clause-cast g c = cast_law _ _ _ _
