use Rattle.jsoundness_laws.proofs.LibraryProofs.LibraryRules.{library_yields}
use Rattle.jsoundness_laws.proofs.library.laws.library_law.Goals as goal

pub returns : goal.returns
returns g c = library_yields _ _
