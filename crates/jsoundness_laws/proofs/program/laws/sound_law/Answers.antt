use Rattle.jsoundness_laws.proofs.ProgramProofs.ProgramSoundness.{sound}
use Rattle.jsoundness_laws.proofs.program.laws.sound_law.Goals as goal

pub returns : goal.returns
returns c = λ p links files typed. sound p links files typed
