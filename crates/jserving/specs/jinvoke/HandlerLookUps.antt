-- What is thrown is handled where the machine's definition says.
use Rattle.std.specs.Prelude.{ℕ, List}
use Rattle.std.specs.List.{AllByRecursion}
use Rattle.jtypes.specs.declared.vtype.VType.{VType}
use Rattle.jresolution.specs.jprogram.ProgramClasses.{Program}
use Rattle.jsemantics.specs.jmachine.MachineStates.{FrameOf}
use Rattle.jsemantics.specs.jmachine.Unwinding.{handler_at}
use Rattle.jrows.specs.jcalls.Unwinds.{IsTold}

-- Of all frames it is told where they go on.
abbrev pub Told : Type 0 → Type 0
Told E = (p : Program) (thrown : VType) (frames : List (FrameOf ℕ E)) → AllByRecursion (IsTold p thrown (handler_at p thrown)) frames
