use Rattle.jpolicy.proofs.Constructs.{clauses_walk, entries_walk, items_walk}
use Rattle.jpolicy.proofs.LexerProgress.{expansion_ends, string_ends, text_ends}
use Rattle.jpolicy.proofs.laws.walk_laws.Goals as goal

pub returns-clause-text : goal.returns-clause-text
returns-clause-text c = text_ends

pub returns-clause-string : goal.returns-clause-string
returns-clause-string c = string_ends

pub returns-clause-expansion : goal.returns-clause-expansion
returns-clause-expansion c = expansion_ends

pub returns-clause-clauses : goal.returns-clause-clauses
returns-clause-clauses c = clauses_walk

pub returns-clause-entries : goal.returns-clause-entries
returns-clause-entries c = entries_walk

pub returns-clause-items : goal.returns-clause-items
returns-clause-items c = items_walk
