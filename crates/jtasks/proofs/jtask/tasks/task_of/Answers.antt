use Rattle.std.proofs.Common.{ℕ, List, subst}
use Rattle.std.specs.Prelude.{OnOk}
use Rattle.jtasks.specs.jtask.Tasks.{JobClasses}
use Rattle.jtasks.proofs.jtask.tasks.task_of.Goals as goal

pub returns-in-Run-clause-classes : goal.returns-in-Run-clause-classes
returns-in-Run-clause-classes g c = λ files told.
    let read = subst (λ (path : List ℕ). OnOk c.run_at.result (JobClasses files path)) c.as_str.ensures (c.run_at.ensures.classes files told) in
    rw c.in-Run.is read
