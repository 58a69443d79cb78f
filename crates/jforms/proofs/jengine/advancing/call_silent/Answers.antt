use Rattle.jguard.proofs.SingleAsks.{asked_nothing}
use Rattle.jstepping.specs.jcore.AnsweredCalls.{asked_of, outcome_of}
use Rattle.jforms.proofs.JtablesProofs.GuardQuestions.{answers_none, free_asks}
use Rattle.jforms.proofs.jengine.advancing.call_silent.Goals as goal

pub returns-clause-answered : goal.returns-clause-answered
returns-clause-answered g c f runs =
    let m = c.args.m.now in
    answers_none _ _ _ _ _ m c.call_plain.new.m (asked_of m f c.args.call c.args.count) (outcome_of m f c.args.call c.args.count) c.in_ok-done.done
    (free_asks m f c.args.call c.args.count c.requires.free) (c.in_ok-done.ensures.comes f runs)

pub returns-clause-once : goal.returns-clause-once
returns-clause-once g c f runs =
    let m = c.args.m.now in
    asked_nothing g.G.Guard.asked c.args.guard.now (asked_of m f c.args.call c.args.count) (free_asks m f c.args.call c.args.count c.requires.free)
