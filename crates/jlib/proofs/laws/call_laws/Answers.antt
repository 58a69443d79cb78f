use Rattle.jlib.proofs.LibraryLookup.{call_found, call_only}
use Rattle.jlib.proofs.laws.call_laws.Goals as goal

pub returns-clause-found : goal.returns-clause-found
returns-clause-found g = call_found

pub returns-clause-only : goal.returns-clause-only
returns-clause-only g = call_only
