use Rattle.jground.proofs.JtextProofs.Groups.{spelled_once}
use Rattle.jground.proofs.jtext.modified.spelling_law.Goals as goal

pub returns : goal.returns
returns c = record { one = spelled_once }
