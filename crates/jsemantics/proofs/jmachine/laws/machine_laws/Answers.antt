use Rattle.jsemantics.specs.jmachine.Machine.{opening, run}
use Rattle.jsemantics.specs.jmachine.MachineSteps.{step}
use Rattle.jsemantics.proofs.JmachineProofs.Courses as courses
use Rattle.jsemantics.proofs.jmachine.laws.machine_laws.Goals as goal

pub returns-clause-stays : goal.returns-clause-stays
unfolding run
returns-clause-stays g c = λ r p plan k n end le h. courses.stays (step r p plan) (opening r p plan) k n end le h

pub returns-clause-grows : goal.returns-clause-grows
unfolding run
returns-clause-grows g c = λ r p plan k n le. courses.grows (step r p plan) (opening r p plan) k n le
