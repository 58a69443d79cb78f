use Rattle.jresolution.specs.juses.IndexedInstructions.{Simple}
use Rattle.jready.specs.DecodedInstructions.{plain_meant}
use Rattle.jstepping.proofs.JstepProofs.PoolNumbers.{ok_meant}
use Rattle.jstepping.proofs.jstep.computing.plain.Goals as goal

pub returns-clause-row : goal.returns-clause-row
returns-clause-row g c =
    ok_meant c.simple.result (plain_meant c.args.tables.now c.args.f) (Simple c.form_of.result) c.args.frames.now.newest c.simple.new.frames.newest
    c.form_of.ensures c.simple.ensures.row
