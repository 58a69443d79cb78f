-- Where a frame stands behind a row.
use Rattle.std.specs.Prelude.{◌≡◌, ⊤, ℕ}
use Rattle.jlib.specs.declared.classes.LibClass.{LibClass}
use Rattle.jlib.specs.declared.classes.LibClass.TheVariants as lib
use Rattle.jlib.specs.declared.classes.Thrown.{Thrown as ThrownClass}
use Rattle.jsemantics.specs.jmachine.MachineStates.{FrameOf}
use Rattle.jrows.specs.declared.jacts.way.Way.{Way}
use Rattle.jrows.specs.declared.jacts.way.Way.TheVariants as ways

-- a class of what can be thrown
abbrev pub IsThrown : LibClass → Type 0
IsThrown class = (c : ThrownClass) × (class ≡ lib.Thrown c)

-- Nothing is thrown but what is raised; a frame that raises stands where it stood, and one that goes on is of the same method.
abbrev pub Stays : {E : Type 0} → Way → FrameOf ℕ E → FrameOf ℕ E → Type 0
Stays (ways.Raises class) f g = IsThrown class × (g.method ≡ f.method) × (g.place ≡ f.place)
Stays ways.Went f g = g.method ≡ f.method
Stays (ways.Throws n) f g = ⊥
Stays way f g = ⊤
