-- What proofs take of a program: what it is asked to be, and what linking says besides.
use Rattle.std.specs.Prelude.{◌≡◌, ℕ, true, IsTrue, Some, slice_get}
use Rattle.std.specs.List.{AllByRecursion}
use Rattle.std.specs.Option.{IsSome}
use Rattle.jparts.specs.declared.jcode.op.Placed.{Placed}
use Rattle.jclass.specs.Class.{class_file}
use Rattle.jresolution.specs.declared.jprogram.member.MethodId.{MethodId}
use Rattle.jresolution.specs.declared.jprogram.part.CodePart.{CodePart}
use Rattle.jresolution.specs.jprogram.ProgramClasses.{Program}
use Rattle.jresolution.specs.jprogram.OrderedPrograms.{StandsInOrder}
use Rattle.jresolution.specs.juses.IndexedInstructions.{Instruction, instruction}
use Rattle.jlinking.specs.jlink.NamedFields.{is_plain}
use Rattle.jlinking.specs.jlink.ClassOrder.{in_order}
use Rattle.jtyping.specs.jwelltyped.MethodPremises.{here_of}
use Rattle.jtyping.specs.jwelltyped.WellTypedness.{ProgramIsTyped}
use Rattle.jsoundness_laws.specs.typed.TypedCalls.{AllHaveCode, Coded, IsParameter, method}
use Rattle.jsoundness_laws.specs.typed.TypedUses.{static_types}
use Rattle.jsoundness_laws.specs.progress.SoundPrograms.{IsSaid, IsSound}
use Rattle.jsoundness_laws.proofs.ProgressProofs.LinkedMethods.{begins, have_code, means, params_are, parts_fit}
use Rattle.jsoundness_laws.proofs.ProgressProofs.ContextFreeStatics.{statics_plain}

pub record IsFounded (p : Program) : Type 0 where
  pub stands : StandsInOrder p
  pub well_typed : ProgramIsTyped p
  pub files : AllByRecursion (λ (part : CodePart). IsTrue (class_file.fits part.class)) p.parts
  pub plain : AllByRecursion (λ t. is_plain t ≡ true) (static_types p)
  pub code : AllHaveCode p
  pub begun : (m : MethodId) (x : Coded p m) → IsSome (slice_get x.body.ops 0)
  pub params : (m : MethodId) (x : Coded p m) → AllByRecursion IsParameter (method p m x).params
  pub means : (m : MethodId) (x : Coded p m) (n : ℕ) (o : Placed) → slice_get x.body.ops n ≡ Some o → IsSome (instruction p x.part.class.pool x.body.ops o)
  pub says : (m : MethodId) (x : Coded p m) (n : ℕ) (o : Placed) (i : Instruction) → slice_get x.body.ops n ≡ Some o
      → instruction p x.part.class.pool x.body.ops o ≡ Some i → IsSaid p (here_of p (method p m x) o.at) i

pub founded : (p : Program) → IsSound p → IsFounded p
founded p sound = record {
  stands = in_order p sound.links;
  well_typed = sound.well_typed;
  files = parts_fit p sound.links sound.files;
  plain = statics_plain p sound.links sound.files;
  code = have_code p sound.links sound.files;
  begun = begins p sound.links sound.files;
  params = params_are p;
  means = means p sound.links sound.files;
  says = sound.says;
}
