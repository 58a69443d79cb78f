use Rattle.std.proofs.Common.{◌∙◌}
use Rattle.jresolution.proofs.JusesProofs.EntryCaches.{member_is}
use Rattle.jresolution.proofs.juses.uses.Uses.member_at.Goals as goal

pub returns : goal.returns
returns c = λ p h. c.member.ensures ∙ member_is p c.args.self.now c.args.class c.args.i c.kept_at-kept.result c.kept_at-kept.ensures h
