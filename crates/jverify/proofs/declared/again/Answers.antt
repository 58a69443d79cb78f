use Rattle.std.proofs.Common.{length, reverse, ap, ◌∙◌}
use Rattle.jverify.specs.FrameFacts.{held_seen}
use Rattle.jverify.proofs.ChainComparison.{frame_with}
use Rattle.jverify.proofs.ServedFrames.{served_moved}
use Rattle.jverify.proofs.declared.again.Goals as goal

pub returns-clause-seen : goal.returns-clause-seen
returns-clause-seen c =
    frame_with c.args.p.now c.args.chains.now c.args.k.now (length c.args.old.frame.locals) (held_seen c.args.p.now c.args.old).locals c.in_ok-stack.stack c.flag-flag.result c.requires.same
    (c.in_ok-stack.ensures ∙ ap reverse c.as_slice.ensures) c.flag-flag.ensures

pub returns-clause-served : goal.returns-clause-served
returns-clause-served c = λ test h.
    served_moved test (held_seen c.args.p.now c.args.old).locals c.args.old.frame.flag c.flag-flag.result c.args.old.known.served c.served_by-served.result c.served_by-served.ensures h
