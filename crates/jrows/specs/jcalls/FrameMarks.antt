-- What frames carry by the classes of their methods, where nothing else marks them.
use Rattle.std.specs.Prelude.{ℕ, ◌+◌, ◌<◌, ◌^◌, List, map, Option, option_map, slice_get}
use Rattle.std.specs.List.{AllByRecursion}
use Rattle.jvalues.specs.declared.jops.value.Value.{Value}
use Rattle.jresolution.specs.jprogram.ProgramClasses.{Program}
use Rattle.jsemantics.specs.jmachine.MachineStates.{FrameOf}
use Rattle.jsemantics.specs.jmachine.FrameOperations.{carrying, standing}
use Rattle.jruntime.specs.jstate.FrameLists.{Framed, with_newest}

-- what frames carry of the methods of each of a program's classes: what the rules give for its domain
abbrev pub marks_of : {E : Type 0} → (ℕ → E) → Program → List E
marks_of entry_of p = map (λ part. entry_of part.domain) p.parts

-- A frame is of a method of one of so many classes, and may go on behind its instruction.
pub record Stands {E : Type 0} (classes : ℕ) (f : FrameOf ℕ E) : Type 0 where
  pub class : f.method.class < classes
  pub place : f.place + 1 < 2 ^ 32

abbrev pub Stand : {E : Type 0} → ℕ → List (FrameOf ℕ E) → Type 0
Stand classes frames = AllByRecursion (Stands classes) frames

-- Between steps: the newest frame is of one of so many classes, and those below it may go on behind their calls.
abbrev pub AreStanding : {E : Type 0} → ℕ → Framed E → Type 0
AreStanding classes f = (f.newest.method.class < classes) × Stand classes f.below

-- the newest frame goes on at a place with these operands, and carries what those of its class do
abbrev pub resumed_by : {E : Type 0} → List E → Framed E → ℕ → List (Value ℕ) → Option (Framed E)
resumed_by marks f place operands =
    option_map (λ mark. with_newest (carrying mark (standing f.newest place operands)) f) (slice_get marks f.newest.method.class)
