use Rattle.std.proofs.Common.{◌∙◌}
use Rattle.jtasks.proofs.JtaskProofs.Classes.{of_job, ok_then}
use Rattle.jtasks.proofs.jtask.tasks.run_at.Goals as goal

pub returns-clause-classes : goal.returns-clause-classes
returns-clause-classes g c = λ files told.
    ok_then c.run_of_ground.result (of_job files c.args.path.now c.in_ok-ground.ground (c.in_ok-ground.ensures.value files told))
    (c.run_of_ground.ensures.classes files (c.in_ok-ground.ensures.held ∙ told))
