use Rattle.jlinking.proofs.JlinkProofs.CallResolution.{named}
use Rattle.jlinking.proofs.jlink.laws.call_law.Goals as goal

pub returns : goal.returns
returns c = named
