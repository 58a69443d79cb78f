use Rattle.std.proofs.Common.{◌∙◌, ap, []}
use Rattle.jstacks.specs.ListStacks.{on_top}
use Rattle.jruntime.proofs.JstateProofs.FrameLists.{opened}
use Rattle.jruntime.proofs.jstate.frames.Frames.open.Goals as goal

pub returns : goal.returns
returns g c =
    opened c.args.method c.args.most c.args.mark c.args.arguments.now c.new.result.items c.push.new.self.items c.open_from.new.self c.reserve.new.self
    c.in_ok-open_from.ensures.newest (c.reserve.ensures ∙ c.in_ok-open.ensures.ok ∙ ap (on_top []) c.new-operands.ensures) c.new.ensures.items
