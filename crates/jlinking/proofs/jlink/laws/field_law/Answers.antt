use Rattle.jlinking.proofs.JlinkProofs.FieldResolution.{named}
use Rattle.jlinking.proofs.jlink.laws.field_law.Goals as goal

pub returns : goal.returns
returns c = named
