use Rattle.jtyping.proofs.JwelltypedProofs.TypedFrames.{declared_there, frame_at, frames_same}
use Rattle.jtyping.proofs.jwelltyped.laws.frames_law.Goals as goal

pub returns-clause-one : goal.returns-clause-one
returns-clause-one c = frames_same

pub returns-clause-each : goal.returns-clause-each
returns-clause-each c = frame_at

pub returns-clause-declared : goal.returns-clause-declared
returns-clause-declared c = declared_there
