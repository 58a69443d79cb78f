use Rattle.jruntime.proofs.JstateProofs.CellCounts.{behind_celled, has_wanted, made_celled, more_stay, none_celled, wants_as_class, written_celled}
use Rattle.jruntime.proofs.jstate.shapes.celled_laws.Goals as goal

pub returns-clause-none : goal.returns-clause-none
returns-clause-none c = none_celled

pub returns-clause-more : goal.returns-clause-more
returns-clause-more c = more_stay

pub returns-clause-made : goal.returns-clause-made
returns-clause-made c = made_celled

pub returns-clause-written : goal.returns-clause-written
returns-clause-written c = written_celled

pub returns-clause-behind : goal.returns-clause-behind
returns-clause-behind c = behind_celled

pub returns-clause-wants : goal.returns-clause-wants
returns-clause-wants c = wants_as_class

pub returns-clause-has : goal.returns-clause-has
returns-clause-has c = has_wanted
