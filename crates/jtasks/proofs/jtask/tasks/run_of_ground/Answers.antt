use Rattle.std.proofs.Common.{◌∙◌, List, ap, sym}
use Rattle.jground.specs.jbase.ListMaps.{each}
use Rattle.jtasks.specs.declared.jstages.job_setup.ClassPath.{ClassPath}
use Rattle.jtasks.specs.jstages.ReadStage.{part_at}
use Rattle.jtasks.proofs.JtaskProofs.Classes.{of_ground, ok_then}
use Rattle.jtasks.proofs.jtask.tasks.run_of_ground.Goals as goal

pub returns-in-Ok-clause-classes : goal.returns-in-Ok-clause-classes
returns-in-Ok-clause-classes g c = λ files told.
    let read = ap (λ (paths : List ClassPath). each (part_at files) paths) (sym c.as_slice.ensures) ∙ c.in-Ok.ensures.value files told in
    ok_then c.run_of_parts.result (of_ground files c.args.ground c.in-Ok.parts read) c.run_of_parts.ensures.classes
