use Rattle.jsnapshots.proofs.MarkResolution.{frame_back, frame_stands, empty_stands, privilege_stands}
use Rattle.jsnapshots.proofs.table.Table.frame.Goals as goal

pub returns-in-Frame-clause-back : goal.returns-in-Frame-clause-back
returns-in-Frame-clause-back c =
    frame_back c.args.self.now c.args.n c.get.result.now c.in-Frame.frame c.get.ensures.back c.get.ensures.entry c.in-Frame.is

pub returns-in-Frame-clause-stands : goal.returns-in-Frame-clause-stands
returns-in-Frame-clause-stands c =
    frame_stands c.args.self.now c.args.n c.get.result.now c.in-Frame.frame c.get.ensures.back c.get.ensures.entry c.in-Frame.is

pub returns-in-Empty-clause-stands : goal.returns-in-Empty-clause-stands
returns-in-Empty-clause-stands c = empty_stands c.args.self.now c.args.n c.get.result.now c.get.ensures.back c.get.ensures.entry c.in-Empty.is

pub returns-in-Privilege-clause-stands : goal.returns-in-Privilege-clause-stands
returns-in-Privilege-clause-stands c =
    privilege_stands c.args.self.now c.args.n c.get.result.now _ _ c.get.ensures.back c.get.ensures.entry c.in-Privilege.is
