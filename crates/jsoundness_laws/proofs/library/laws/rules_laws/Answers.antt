use Rattle.jsoundness_laws.proofs.LibraryProofs.RuleSides.{inspecting_sided, plain_sided}
use Rattle.jsoundness_laws.proofs.library.laws.rules_laws.Goals as goal

pub returns-clause-inspecting : goal.returns-clause-inspecting
returns-clause-inspecting c = inspecting_sided

pub returns-clause-plain : goal.returns-clause-plain
returns-clause-plain c = plain_sided
