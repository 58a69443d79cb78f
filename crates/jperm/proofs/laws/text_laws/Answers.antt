use Rattle.jperm.proofs.TextParts.{eleven, parts_join}
use Rattle.jperm.proofs.laws.text_laws.Goals as goal

pub returns-clause-count : goal.returns-clause-count
returns-clause-count c = eleven

pub returns-clause-whole : goal.returns-clause-whole
returns-clause-whole c = parts_join
