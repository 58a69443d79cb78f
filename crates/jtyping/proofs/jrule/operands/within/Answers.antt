use Rattle.jtyping.specs.jrule.InternedFrames.{seen}
use Rattle.jtyping.proofs.JruleProofs.OperandRoom.{has_room, no_room}
use Rattle.jtyping.proofs.jrule.operands.within.Goals as goal

pub returns-then-not-is_within : goal.returns-then-not-is_within
returns-then-not-is_within c = no_room c.args.p.now c.args.most (seen c.args.p.now c.args.f) c.args.f.stack c.is_within.result c.is_within.ensures c.if-not-is_within.true

pub returns : goal.returns
returns c = has_room c.args.p.now c.args.most (seen c.args.p.now c.args.f) c.args.f.stack c.is_within.result c.is_within.ensures c.if-not-is_within.false
