-- A program that links, is of class files and is well typed is sound.
use Rattle.jresolution.specs.jprogram.ProgramClasses.{Program}
use Rattle.jtyping.specs.jwelltyped.VerifierTests.{WellTyped}
use Rattle.jtyping.proofs.JwelltypedProofs.Methods.{well_typed_exactly}
use Rattle.jlinking.specs.jlink.ProgramFiles.{AreFiles}
use Rattle.jlinking.specs.jlink.LinkedPrograms.{Links}
use Rattle.jsoundness_laws.specs.progress.SoundPrograms.{IsSound}
use Rattle.jsoundness_laws.proofs.ProgramProofs.LinkedInstructions.{says}

pub sound : (p : Program) → Links p → AreFiles p → WellTyped p → IsSound p
sound p links files well = record {
  links = links;
  files = files;
  well_typed = (well_typed_exactly p).0 well;
  says = λ m x n o i placed e. says p links files m x n o placed i e;
}
