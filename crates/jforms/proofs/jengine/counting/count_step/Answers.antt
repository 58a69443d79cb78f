use Rattle.std.proofs.Common.{◌∙◌, ap}
use Rattle.jruntime.proofs.JrunProofs.Courses.{if_ok}
use Rattle.jforms.specs.jtables.RunPositions.{Stands, end_of, steps}
use Rattle.joutput.specs.jtally.EventCounts.{counted}
use Rattle.jforms.proofs.JengineProofs.RunPositions.{stands_next, told_next}
use Rattle.jforms.proofs.jengine.counting.count_step.Goals as goal

pub returns-clause-told : goal.returns-clause-told
returns-clause-told g c =
    let old = c.args.engine.now in
    let new = c.step.new.self in
    if_ok c.with_told.result (λ n is step r at. is ∙ ap (counted c.args.counts)
    (told_next (Stands (g.G.Guard.kept old.guard) (g.G.Guard.entry old.guard) old.course) (Stands (g.G.Guard.kept new.guard) (g.G.Guard.entry new.guard) new.course)
    (steps (g.G.Guard.rules old.guard) old.course) (steps (g.G.Guard.rules new.guard) new.course) step r
    (end_of old.course) c.requires.goes at c.in_ok-came.came c.in_ok-came.ensures.comes)) c.with_told.ensures

pub returns-clause-stands : goal.returns-clause-stands
returns-clause-stands g c =
    let old = c.args.engine.now in
    let new = c.step.new.self in
    if_ok c.with_told.result (λ n is step r at.
    stands_next (Stands (g.G.Guard.kept old.guard) (g.G.Guard.entry old.guard) old.course) (Stands (g.G.Guard.kept new.guard) (g.G.Guard.entry new.guard) new.course)
    (steps (g.G.Guard.rules old.guard) old.course) (steps (g.G.Guard.rules new.guard) new.course) step r
    (end_of old.course) c.requires.goes at c.in_ok-came.came c.in_ok-came.ensures.comes (end_of new.course) c.in_ok-came.ensures.ended c.in_ok-came.ensures.same) c.with_told.ensures
