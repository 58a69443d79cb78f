use Rattle.jsoundness_laws.proofs.TypedProofs.EntryFrames.{frames_begin}
use Rattle.jsoundness_laws.proofs.TypedProofs.CallTargets.{calls_come}
use Rattle.jsoundness_laws.proofs.TypedProofs.TypedCalls.{calls_do}
use Rattle.jsoundness_laws.proofs.TypedProofs.Inits.{inits_do}
use Rattle.jsoundness_laws.proofs.typed.laws.calling_laws.Goals as goal

pub returns-clause-comes : goal.returns-clause-comes
returns-clause-comes g c = calls_come _

pub returns-clause-done : goal.returns-clause-done
returns-clause-done g c = calls_do _ _

pub returns-clause-inits : goal.returns-clause-inits
returns-clause-inits g c = inits_do _ _

pub returns-clause-begins : goal.returns-clause-begins
returns-clause-begins g c = frames_begin _ _
