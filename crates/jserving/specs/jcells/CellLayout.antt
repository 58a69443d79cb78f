-- What stands in a machine's cells is what its program lays out.
use Rattle.std.specs.Prelude.{◌≡◌, ◌<◌, ◌≤◌, ◌^◌, ℕ, map, length}
use Rattle.jclass.specs.declared.class.MemberInfo.{MemberInfo}
use Rattle.jresolution.specs.declared.jprogram.part.CodePart.{CodePart}
use Rattle.jresolution.specs.jprogram.ProgramClasses.{Program}
use Rattle.jresolution.specs.juses.PoolTables.{Grows}
use Rattle.jresolution.specs.jlayout.InternedFields.{all_statics}
use Rattle.jsemantics.specs.jmachine.World.{world}
use Rattle.jready.specs.declared.tables.Tables.{Tables}
use Rattle.jruntime.specs.declared.jstate.shapes.Shapes.{Shapes}
use Rattle.jrows.specs.jobjs.NewObjects.{HasShape}
use Rattle.jserving.specs.jcells.UserClassCells.{field_cell}

-- The shapes of a program's objects, of its statics and of its arrays.
pub record AreTied (p : Program) (t : Tables) (shapes : Shapes) : Type 0 where
  pub users : (i : ℕ) → i < length p.parts → HasShape (world p) shapes i
  pub classes : length shapes.users ≡ length p.parts
  pub statics : shapes.statics ≡ map (λ (x : CodePart × MemberInfo). field_cell p x.0 x.1) (all_statics p)
  -- arrays that instructions name stand first, by their numbers
  pub arrays : Grows t.arrays shapes.arrays
  -- no more types than there are numbers for rows
  pub few : length shapes.arrays ≤ 2 ^ 31
