use Rattle.std.proofs.Common.{sym, ◌∙◌}
use Rattle.jlinking.proofs.JlinkProofs.ResolvedReferences.{there_is}
use Rattle.jlinking.proofs.jlink.linked.LinkedProgram.resolve.Goals as goal

pub unreachable-requires : goal.unreachable-requires
unreachable-requires c = there_is c.args.self.now c.args.class c.args.pool c.member_at.ensures.links c.requires (sym c.member_at.ensures.member ∙ c.in-None.is)
