use Rattle.jlinking.proofs.JlinkProofs.FittingClassFiles.{has_name}
use Rattle.jlinking.proofs.jlink.laws.name_law.Goals as goal

pub returns : goal.returns
returns c p i part files at e = has_name part.class (files i part at) e
