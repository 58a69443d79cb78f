use Rattle.jground.proofs.JbaseProofs.Firsts as firsts
use Rattle.jground.proofs.jbase.laws.first_along_laws.Goals as goal

pub returns-clause-none_fails : goal.returns-clause-none_fails
returns-clause-none_fails g c = firsts.none_fails

pub returns-clause-all_pass : goal.returns-clause-all_pass
returns-clause-all_pass g c = firsts.all_pass

pub returns-clause-first : goal.returns-clause-first
returns-clause-first g c = firsts.first_found
