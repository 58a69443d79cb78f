use Rattle.jmoved_laws.proofs.NamesProofs.Worlds.{classes_stay}
use Rattle.jmoved_laws.proofs.CodeProofs.LinkedCode.{code_moves}
use Rattle.jmoved_laws.proofs.code.laws.code_law.Goals as goal

pub returns : goal.returns
returns g p is typed none m body at = code_moves p is typed none (classes_stay p is typed none) m body at
