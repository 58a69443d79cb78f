use Rattle.jforms.proofs.JtablesProofs.EngineRuns.{comes_on}
use Rattle.jforms.proofs.jengine.engine.go_on.Goals as goal

pub returns-in_ok-came-in-Runs-clause-comes : goal.returns-in_ok-came-in-Runs-clause-comes
returns-in_ok-came-in-Runs-clause-comes g c =
    comes_on (g.G.Guard.kept c.args.guard.now) (g.G.Guard.kept c.move_on.new.guard) (g.G.Guard.entry c.args.guard.now) (g.G.Guard.entry c.move_on.new.guard)
    (g.G.Guard.rules c.args.guard.now) c.args.course.now c.in-Runs.machine c.move_on.new.machine c.in_ok-came-in-Runs.came c.in-Runs.is
    c.in_ok-came-in-Runs.ensures.comes
