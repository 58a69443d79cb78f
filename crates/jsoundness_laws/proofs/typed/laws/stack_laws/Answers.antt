use Rattle.jsoundness_laws.proofs.TypedProofs.States.{frames_resume, frames_unwind, stacked_later}
use Rattle.jsoundness_laws.proofs.typed.laws.stack_laws.Goals as goal

pub returns-clause-later : goal.returns-clause-later
returns-clause-later g c = stacked_later _ _

pub returns-clause-resume : goal.returns-clause-resume
returns-clause-resume g c = frames_resume _ _

pub returns-clause-unwind : goal.returns-clause-unwind
returns-clause-unwind g c = frames_unwind _ _
