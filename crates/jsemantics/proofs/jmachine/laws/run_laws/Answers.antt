use Rattle.jsemantics.proofs.JmachineProofs.Courses as courses
use Rattle.jsemantics.proofs.jmachine.laws.run_laws.Goals as goal

pub returns-clause-stays : goal.returns-clause-stays
returns-clause-stays g c = λ step r k n end le h. courses.stays step r k n end le h

pub returns-clause-grows : goal.returns-clause-grows
returns-clause-grows g c = λ step r k n le. courses.grows step r k n le

pub returns-clause-goes_on : goal.returns-clause-goes_on
returns-clause-goes_on g c = λ step r k. courses.goes_on step r k
