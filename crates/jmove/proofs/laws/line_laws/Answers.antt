use Rattle.jmove.proofs.LineSequences.{end_above, end_reach, place_skip}
use Rattle.jmove.proofs.CodeLayout.{code_laid}
use Rattle.jmove.proofs.LabelTables.{place_within}
use Rattle.jmove.proofs.laws.line_laws.Goals as goal

pub returns-clause-end_behind : goal.returns-clause-end_behind
returns-clause-end_behind g at from os rest = end_reach at from os rest

pub returns-clause-place_behind : goal.returns-clause-place_behind
returns-clause-place_behind g old at from os rest = place_skip old at from os rest

pub returns-clause-end_above : goal.returns-clause-end_above
returns-clause-end_above g at ls = end_above at ls

pub returns-clause-place_within : goal.returns-clause-place_within
returns-clause-place_within g old at ls = place_within old at ls

pub returns-clause-code_laid : goal.returns-clause-code_laid
returns-clause-code_laid g is fits = code_laid is fits
