use Rattle.std.proofs.Common.{◌∙◌}
use Rattle.jsnapshots.proofs.MarkResolution.{privilege_settles, empty_settles, frame_settles}
use Rattle.jsnapshots.proofs.table.Table.mark_end.Goals as goal

pub returns-in-Privilege : goal.returns-in-Privilege
returns-in-Privilege c has verdict =
    c.privilege_end.ensures
    ∙ privilege_settles has c.args.asked.now c.args.self.now c.args.given c.args.k c.get.result.now _ c.in-Privilege.limits c.get.ensures.back c.get.ensures.entry c.in-Privilege.is verdict

pub returns-in-Empty : goal.returns-in-Empty
returns-in-Empty c has verdict = empty_settles has c.args.asked.now c.args.self.now c.args.k c.get.result.now c.get.ensures.back c.get.ensures.entry c.in-Empty.is

pub returns-in-Frame : goal.returns-in-Frame
returns-in-Frame c has verdict = frame_settles has c.args.asked.now c.args.self.now c.args.k c.get.result.now _ c.get.ensures.back c.get.ensures.entry c.in-Frame.is
