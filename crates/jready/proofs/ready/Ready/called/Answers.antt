use Rattle.std.proofs.Common.{subst}
use Rattle.jready.specs.PreparedPrograms.{IsReady}
use Rattle.jready.proofs.ProgramLookups.{number_is}
use Rattle.jready.proofs.ready.Ready.called.Goals as goal

pub returns-clause-number : goal.returns-clause-number
returns-clause-number c m is =
    let ready = subst IsReady c.self.view_is c.self.invariant in
    number_is c.args.self.now c.args.k m ready is
