use Rattle.std.proofs.Common.{subst}
use Rattle.jtyping.specs.jwelltyped.VerifierTests.{WellTyped}
use Rattle.jtyping.proofs.JwelltypedProofs.Methods.{well_typed_exactly}
use Rattle.jcheck.proofs.checked.PlainProgram.linked.Goals as goal

pub returns-clause-typed : goal.returns-clause-typed
returns-clause-typed c = (well_typed_exactly c.args.self.now).0 (subst WellTyped c.self.view_is c.self.invariant.0)
