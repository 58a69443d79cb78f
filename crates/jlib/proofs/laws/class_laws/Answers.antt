use Rattle.jlib.proofs.LibraryLookup.{class_above, class_found, class_implements, class_only, lower, next_above, open_above, open_stands, top_is}
use Rattle.jlib.proofs.laws.class_laws.Goals as goal

pub returns-clause-found : goal.returns-clause-found
returns-clause-found g = class_found

pub returns-clause-only : goal.returns-clause-only
returns-clause-only g = class_only

pub returns-clause-extended : goal.returns-clause-extended
returns-clause-extended g = class_above

pub returns-clause-followed : goal.returns-clause-followed
returns-clause-followed g = class_implements

pub returns-clause-next : goal.returns-clause-next
returns-clause-next g = next_above

pub returns-clause-lower : goal.returns-clause-lower
returns-clause-lower g = lower

pub returns-clause-top : goal.returns-clause-top
returns-clause-top g = top_is

pub returns-clause-still_open : goal.returns-clause-still_open
returns-clause-still_open g = open_above

pub returns-clause-opened : goal.returns-clause-opened
returns-clause-opened g = open_stands
