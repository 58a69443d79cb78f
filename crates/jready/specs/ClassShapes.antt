-- What the objects of users' classes hold, by the places of their classes.
use Rattle.std.specs.Prelude.{◌≡◌, ℕ, List, length, Some, slice_get}
use Rattle.jresolution.specs.jprogram.ProgramClasses.{Program}
use Rattle.jsemantics.specs.jmachine.World.{can_be_thrown, world}
use Rattle.jready.specs.declared.shapes.Shape.{Shape}

pub record IsShape (p : Program) (i : ℕ) (s : Shape) : Type 0 where
  pub fields : s.fields ≡ length ((world p).layout i)
  pub message : s.message ≡ can_be_thrown (world p) ((world p).named i)

-- of the first classes
pub record AreShapesTo (p : Program) (shapes : List Shape) (n : ℕ) : Type 0 where
  pub count : length shapes ≡ n
  pub each : (i : ℕ) (s : Shape) → slice_get shapes i ≡ Some s → IsShape p i s

abbrev pub AreShapes : Program → List Shape → Type 0
AreShapes p shapes = AreShapesTo p shapes (length p.parts)
