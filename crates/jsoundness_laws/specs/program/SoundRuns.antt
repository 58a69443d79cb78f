-- Runs of programs that link and are well typed.
use Rattle.std.specs.Prelude.{◌≡◌, ℕ, List, Some}
use Rattle.jresolution.specs.jprogram.ProgramClasses.{Program}
use Rattle.jresolution.specs.jprogram.MemberResolution.{main_of}
use Rattle.jlinking.specs.jlink.ProgramFiles.{AreFiles}
use Rattle.jlinking.specs.jlink.LinkedPrograms.{Links}
use Rattle.jtyping.specs.jwelltyped.VerifierTests.{WellTyped}
use Rattle.jsemantics.specs.declared.jmachine.plan.Plan.{Plan}
use Rattle.jsemantics.specs.jmachine.Machine.{run}
use Rattle.jsemantics.specs.jmachine.Security.{Rules}
use Rattle.jsoundness_laws.specs.library.YieldLaws.{AreSided}
use Rattle.jsoundness_laws.specs.progress.TypedStates.{IsTypedRun}

-- Behind each number of steps the state of its run is typed and has a step, from the `main` of any of its classes, on any plan, by any rules that
-- hand contexts over by their side.
abbrev pub LinkedRunsTyped : Type 0 → Type 0 → Type 0
LinkedRunsTyped K E = (r : Rules K E) (p : Program) (plan : Plan) (name : List ℕ) (k : ℕ) → Links p → AreFiles p → WellTyped p
    → r.side ≡ p.side → AreSided r → main_of p name ≡ Some plan.main → IsTypedRun r p plan (run r p plan k)
