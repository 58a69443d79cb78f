use Rattle.jforms.specs.jtables.RunPositions.{left_by}
use Rattle.jforms.proofs.JtablesProofs.EngineRuns.{comes_left, ended_left, found_left, holds_left, live_in, same_left}
use Rattle.jforms.proofs.jengine.engine.Engine.step.Goals as goal

pub returns-in-Ok-clause-comes : goal.returns-in-Ok-clause-comes
returns-in-Ok-clause-comes g c =
    let kept = g.G.Guard.kept c.go_on-gone.new.guard in
    let entry = g.G.Guard.entry c.go_on-gone.new.guard in
    let comes = rw c.in-Ok.is at c.go_on-gone.ensures.comes in
    rw (← c.self.view_is, c.leave.ensures) (λ s stands. comes_left kept entry c.go_on-gone.new.course _ c.in-Ok.came (comes s stands))

pub returns-in-Ok-clause-same : goal.returns-in-Ok-clause-same
returns-in-Ok-clause-same g c =
    let same = rw c.in-Ok.is at c.go_on-gone.ensures.same in
    rw (← c.self.view_is, c.leave.ensures) (same_left _ c.go_on-gone.new.course c.in-Ok.came _ same)

pub returns-in-Ok-clause-ended : goal.returns-in-Ok-clause-ended
returns-in-Ok-clause-ended g c =
    let runs = rw c.in-Ok.is at c.go_on-gone.ensures.runs in
    rw c.leave.ensures (ended_left c.go_on-gone.new.course c.in-Ok.came runs)

pub returns-in-Ok-clause-found : goal.returns-in-Ok-clause-found
returns-in-Ok-clause-found g c =
    let runs = rw c.in-Ok.is at c.go_on-gone.ensures.runs in
    rw c.leave.ensures (found_left c.go_on-gone.new.course c.in-Ok.came runs)

pub invariant_of-self : goal.invariant_of-self
invariant_of-self g c =
    let holds = rw c.in-Ok.is at c.go_on-gone.ensures.holds in
    rw c.leave.ensures (holds_left _ _ g.G.Guard.mark _ c.go_on-gone.new.course c.in-Ok.came holds)

pub returns-in-Ok-clause-threads : goal.returns-in-Ok-clause-threads
returns-in-Ok-clause-threads g c =
    let kept = g.G.Guard.kept c.go_on-gone.new.guard in
    let entry = g.G.Guard.entry c.go_on-gone.new.guard in
    let rules = g.G.Guard.rules c.go_on-gone.new.guard in
    let course = c.go_on-gone.new.course in
    let holds = rw c.in-Ok.is at c.go_on-gone.ensures.holds in
    rw c.leave.ensures (live_in kept entry g.G.Guard.mark rules (left_by course c.in-Ok.came) (holds_left kept entry g.G.Guard.mark rules course c.in-Ok.came holds))

pub returns-in-Err-clause-threads : goal.returns-in-Err-clause-threads
returns-in-Err-clause-threads g c = rw c.put.ensures (λ s stands. absurd stands)

pub returns-in-Ok-clause-once : goal.returns-in-Ok-clause-once
returns-in-Ok-clause-once g c =
    let once = rw c.in-Ok.is at c.go_on-gone.ensures.once in
    rw (← c.self.view_is) once

pub returns-in-Ok-clause-rules : goal.returns-in-Ok-clause-rules
returns-in-Ok-clause-rules g c = rw (← c.self.view_is) c.go_on-gone.ensures.rules

pub returns-in-Ok-clause-keeps : goal.returns-in-Ok-clause-keeps
returns-in-Ok-clause-keeps g c = rw (← c.self.view_is) c.go_on-gone.ensures.keeps

pub returns-in-Ok-clause-marks : goal.returns-in-Ok-clause-marks
returns-in-Ok-clause-marks g c = rw (← c.self.view_is) c.go_on-gone.ensures.marks

pub returns-in-Ok-clause-quiet : goal.returns-in-Ok-clause-quiet
returns-in-Ok-clause-quiet g c = rw (← c.self.view_is) c.go_on-gone.ensures.quiet

pub returns-in-Err-clause-rules : goal.returns-in-Err-clause-rules
returns-in-Err-clause-rules g c = rw (← c.self.view_is) c.go_on-gone.ensures.rules

pub returns-in-Err-clause-keeps : goal.returns-in-Err-clause-keeps
returns-in-Err-clause-keeps g c = rw (← c.self.view_is) c.go_on-gone.ensures.keeps

pub returns-in-Err-clause-marks : goal.returns-in-Err-clause-marks
returns-in-Err-clause-marks g c = rw (← c.self.view_is) c.go_on-gone.ensures.marks

pub returns-in-Err-clause-quiet : goal.returns-in-Err-clause-quiet
returns-in-Err-clause-quiet g c = rw (← c.self.view_is) c.go_on-gone.ensures.quiet
