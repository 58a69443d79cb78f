-- Runs of a program that links and is well typed.
use Rattle.jsoundness_laws.specs.progress.TypedStates.{RunsTyped}
use Rattle.jsoundness_laws.specs.program.SoundRuns.{LinkedRunsTyped}
use Rattle.jsoundness_laws.proofs.ProgramProofs.ProgramSoundness.{sound}

pub runs : (K E : Type 0) → RunsTyped K E → LinkedRunsTyped K E
runs K E law r p plan name k links files well side sided main = law r p plan name k (sound p links files well) side sided main
