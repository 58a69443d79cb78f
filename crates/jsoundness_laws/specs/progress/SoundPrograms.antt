-- What the typed states of a program rest on: it links and is well typed, and what linking says of its instructions.
use Rattle.std.specs.Prelude.{◌≡◌, ℕ, Some, slice_get}
use Rattle.jparts.specs.declared.jcode.op.Placed.{Placed}
use Rattle.jresolution.specs.declared.jprogram.member.MethodId.{MethodId}
use Rattle.jresolution.specs.jprogram.ProgramClasses.{Program}
use Rattle.jresolution.specs.declared.juses.meaning.InvokeKind.TheVariants as how
use Rattle.jresolution.specs.juses.IndexedInstructions.{Instruction, Used, instruction}
use Rattle.jresolution.specs.juses.InstructionMeanings as meanings
use Rattle.jlinking.specs.jlink.ProgramFiles.{AreFiles}
use Rattle.jlinking.specs.jlink.LinkedPrograms.{Links}
use Rattle.jtyping.specs.jrule.InstructionContext.{Here}
use Rattle.jtyping.specs.jwelltyped.MethodPremises.{here_of}
use Rattle.jtyping.specs.jwelltyped.WellTypedness.{ProgramIsTyped}
use Rattle.jsoundness_laws.specs.typed.TypedCalls.{Coded, IsAboveHere, IsCall, IsInit, method}
use Rattle.jsoundness_laws.specs.typed.ProgressLaws.{IsStraight}

-- what linking says of an instruction at its place
abbrev pub IsSaid : Program → Here → Instruction → Type 0
IsSaid p here (Used (meanings.Call how.Init c)) = IsAboveHere p here × IsInit p c
IsSaid p here (Used (meanings.Call by c)) = IsCall p by c
IsSaid p here i = IsStraight p here i

-- It links, its parts are class files, and it is well typed; and linking says of each instruction of a method's code what typing takes it for.
pub record IsSound (p : Program) : Type 0 where
  pub links : Links p
  pub files : AreFiles p
  pub well_typed : ProgramIsTyped p
  pub says : (m : MethodId) (x : Coded p m) (n : ℕ) (o : Placed) (i : Instruction) → slice_get x.body.ops n ≡ Some o
      → instruction p x.part.class.pool x.body.ops o ≡ Some i → IsSaid p (here_of p (method p m x) o.at) i
