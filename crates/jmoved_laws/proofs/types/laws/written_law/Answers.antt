use Rattle.jmoved_laws.proofs.TypesProofs.FrameRoundTrip.{are_read_back, says_full}
use Rattle.jmoved_laws.proofs.types.laws.written_law.Goals as goal

pub returns-clause-back : goal.returns-clause-back
returns-clause-back c = are_read_back

pub returns-clause-full : goal.returns-clause-full
returns-clause-full c = says_full
