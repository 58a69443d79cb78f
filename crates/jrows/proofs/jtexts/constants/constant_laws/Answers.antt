use Rattle.jrows.proofs.JtextsProofs.ConstantRows.{loads_known}
use Rattle.jrows.proofs.jtexts.constants.constant_laws.Goals as goal

pub returns : goal.returns
returns g c s bytes o known = loads_known _ s bytes o known
