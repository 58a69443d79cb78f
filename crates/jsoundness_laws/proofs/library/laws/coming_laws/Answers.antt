use Rattle.jsoundness_laws.proofs.LibraryProofs.LibraryCalls.{inits_yield, runs_yield}
use Rattle.jsoundness_laws.proofs.library.laws.coming_laws.Goals as goal

pub returns-clause-runs : goal.returns-clause-runs
returns-clause-runs g c = runs_yield _ _

pub returns-clause-inits : goal.returns-clause-inits
returns-clause-inits g c = inits_yield _ _
