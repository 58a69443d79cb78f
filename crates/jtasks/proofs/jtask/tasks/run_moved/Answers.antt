use Rattle.jtasks.proofs.JtaskProofs.Mains.{same_main}
use Rattle.jtasks.proofs.jtask.tasks.run_moved.Goals as goal

pub returns-in-Ok-clause-whole : goal.returns-in-Ok-clause-whole
returns-in-Ok-clause-whole c = rw c.into_plain.ensures (same_main c.args.program c.in-Ok.program c.args.plan.main c.in-Ok.ensures.mains c.requires.main)
