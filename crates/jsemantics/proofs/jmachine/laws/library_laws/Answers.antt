use Rattle.jsemantics.proofs.JmachineProofs.LibraryRows.{library_law}
use Rattle.jsemantics.proofs.jmachine.laws.library_laws.Goals as goal

pub returns : goal.returns
returns g c = library_law _ _ _ _
