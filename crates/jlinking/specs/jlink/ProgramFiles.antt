-- What the instructions of a program stand on: its parts are class files, and the numbers to which they lead are those of instructions.
use Rattle.std.specs.Prelude.{◌≡◌, ℕ, ◌<◌, length, Some, IsTrue, slice_get}
use Rattle.std.specs.List.{AllByRecursion}
use Rattle.jclass.specs.Class.{class_file}
use Rattle.jclass.specs.declared.class.CodeBody.{CodeBody}
use Rattle.jresolution.specs.declared.jprogram.part.CodePart.{CodePart}
use Rattle.jresolution.specs.jprogram.ProgramClasses.{Program}
use Rattle.jresolution.specs.juses.IndexedInstructions.{Instruction, targets}

-- a part is a class file (JVMS 4.1)
abbrev pub IsFile : CodePart → Type 0
IsFile part = IsTrue (class_file.fits part.class)

-- each part is one
abbrev pub AreFiles : Program → Type 0
AreFiles p = (i : ℕ) (part : CodePart) → slice_get p.parts i ≡ Some part → IsFile part

-- each number to which an instruction leads is that of an instruction of the code
abbrev pub LeadsWithin : CodeBody → Instruction → Type 0
LeadsWithin body one = AllByRecursion (λ to. to < length body.ops) (targets one)
