use Rattle.jsoundness_laws.proofs.LibraryProofs.ThreadRows.{thread_yields}
use Rattle.jsoundness_laws.proofs.library.laws.thread_law.Goals as goal

pub returns : goal.returns
returns g c = thread_yields _ _
