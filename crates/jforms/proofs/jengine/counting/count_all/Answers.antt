use Rattle.std.proofs.Common.{◌≡◌, ◌∙◌, ap, arith, sym}
use Rattle.joutput.specs.declared.jtrace.event.End.{End}
use Rattle.jforms.specs.jtables.RunPositions.{Stands, end_of, steps}
use Rattle.jforms.proofs.JengineProofs.RunPositions.{at_end, at_first, at_last, at_next}
use Rattle.jforms.proofs.jengine.counting.count_all.Goals as goal

pub loop-made-init : goal.loop-made-init
loop-made-init g c = record {
  at = λ step first empty begins.
      let here = at_first (end_of c.args.engine.now.course) (Stands (g.G.Guard.kept c.args.engine.now.guard) (g.G.Guard.entry c.args.engine.now.guard) c.args.engine.now.course)
      (steps (g.G.Guard.rules c.args.engine.now.guard) c.args.engine.now.course) step first empty begins in
      (here.0, c.none-counts.ensures ∙ here.1);
  few = omega arith;
}

pub returns-in-Some : goal.returns-in-Some
returns-in-Some g c =
    at_end (end_of c.args.engine.now.course) (Stands (g.G.Guard.kept c.args.engine.now.guard) (g.G.Guard.entry c.args.engine.now.guard) c.args.engine.now.course)
    (steps (g.G.Guard.rules c.args.engine.now.guard) c.args.engine.now.course) c.loop-made.made c.loop-made.counts
    (end_of c.loop-made.engine.course) (Stands (g.G.Guard.kept c.loop-made.engine.guard) (g.G.Guard.entry c.loop-made.engine.guard) c.loop-made.engine.course)
    (steps (g.G.Guard.rules c.loop-made.engine.guard) c.loop-made.engine.course) c.loop-made.invariant.at
    c.tally_laws.ensures.counts c.args.most c.in-Some.end c.loop-made.invariant.few (sym c.ended.ensures ∙ c.in-Some.is)

pub loop-made-preserved : goal.loop-made-preserved
loop-made-preserved g c = record {
  at = at_next (end_of c.args.engine.now.course) (Stands (g.G.Guard.kept c.args.engine.now.guard) (g.G.Guard.entry c.args.engine.now.guard) c.args.engine.now.course)
      (steps (g.G.Guard.rules c.args.engine.now.guard) c.args.engine.now.course) c.loop-made.made c.loop-made.counts
      (end_of c.loop-made.engine.course) (Stands (g.G.Guard.kept c.loop-made.engine.guard) (g.G.Guard.entry c.loop-made.engine.guard) c.loop-made.engine.course)
      (steps (g.G.Guard.rules c.loop-made.engine.guard) c.loop-made.engine.course) c.loop-made.invariant.at
      (sym c.ended.ensures ∙ c.in-None.is) c.in_ok-counts.counts (end_of c.count_step.new.engine.course)
      (Stands (g.G.Guard.kept c.count_step.new.engine.guard) (g.G.Guard.entry c.count_step.new.engine.guard) c.count_step.new.engine.course)
      (steps (g.G.Guard.rules c.count_step.new.engine.guard) c.count_step.new.engine.course) c.in_ok-counts.ensures.told c.in_ok-counts.ensures.stands;
  few = omega (arith, c.loop-made-test.true);
}

pub returns : goal.returns
returns g c =
    let all : c.loop-made.made ≡ c.args.most = omega (arith, c.loop-made.invariant.few, c.loop-made-test.false) in
    let last = at_last (end_of c.args.engine.now.course) (Stands (g.G.Guard.kept c.args.engine.now.guard) (g.G.Guard.entry c.args.engine.now.guard) c.args.engine.now.course)
    (steps (g.G.Guard.rules c.args.engine.now.guard) c.args.engine.now.course) c.loop-made.made c.loop-made.counts
    (end_of c.loop-made.engine.course) (Stands (g.G.Guard.kept c.loop-made.engine.guard) (g.G.Guard.entry c.loop-made.engine.guard) c.loop-made.engine.course)
    (steps (g.G.Guard.rules c.loop-made.engine.guard) c.loop-made.engine.course) c.loop-made.invariant.at
    c.tally_laws.ensures.counts c.args.most all in
    λ step first empty begins. ap (λ (e : End). record { counts = c.loop-made.counts; end = e }) c.ending-end.ensures ∙ last step first empty begins
