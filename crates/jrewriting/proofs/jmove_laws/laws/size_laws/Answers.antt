use Rattle.jmove.specs.AssemblyLines.{place_of}
use Rattle.jrewriting.proofs.JmoveLawsProofs.InstructionSizes.{size_same, laid_placed}
use Rattle.jrewriting.proofs.jmove_laws.laws.size_laws.Goals as goal

pub returns-clause-same : goal.returns-clause-same
returns-clause-same g f at op = size_same f at op

pub returns-clause-laid : goal.returns-clause-laid
returns-clause-laid g ls = laid_placed (λ old. place_of old 0 ls) 0 ls
