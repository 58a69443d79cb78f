use Rattle.jtyping.proofs.JwelltypedProofs.Methods.{well_typed_exactly}
use Rattle.jtyping.proofs.jwelltyped.laws.typing_law.Goals as goal

pub returns : goal.returns
returns c = well_typed_exactly
