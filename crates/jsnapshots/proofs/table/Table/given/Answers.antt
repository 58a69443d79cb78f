use Rattle.jsnapshots.proofs.MarkResolution.{privilege_back}
use Rattle.jsnapshots.proofs.table.Table.given.Goals as goal

pub returns-in-Privilege-clause-back : goal.returns-in-Privilege-clause-back
returns-in-Privilege-clause-back c =
    privilege_back c.args.self.now c.args.k c.get.result.now c.in-Privilege.given _ c.get.ensures.back c.get.ensures.entry c.in-Privilege.is
