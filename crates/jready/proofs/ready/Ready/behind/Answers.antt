use Rattle.std.proofs.Common.{subst}
use Rattle.jready.specs.PreparedPrograms.{IsReady}
use Rattle.jready.proofs.ProgramLookups.{fetches_behind}
use Rattle.jready.proofs.ready.Ready.behind.Goals as goal

pub returns-clause-means : goal.returns-clause-means
returns-clause-means c =
    let ready = subst IsReady c.self.view_is c.self.invariant in
    fetches_behind c.args.self.now c.args.method.now c.args.place ready c.requires.row c.requires.place
