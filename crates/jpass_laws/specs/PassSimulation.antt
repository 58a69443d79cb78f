-- What a moved program's run tells of the inspecting run, and of it alone.
use Rattle.std.specs.Prelude.{◌≡◌, ◌<◌, ◌≤◌, ◌+◌, ◌*◌, ℕ, Bool, List, Some, None}
use Rattle.jperm.specs.declared.permission.Permission.{Permission}
use Rattle.jdomain.specs.DomainStacks.{Stack}
use Rattle.joutput.specs.declared.jtrace.event.End.{End}
use Rattle.jresolution.specs.jprogram.ProgramClasses.{Program}
use Rattle.jresolution.specs.jprogram.MemberResolution.{main_of}
use Rattle.jctx.specs.declared.item.Item.{Item}
use Rattle.jrewriting.specs.jrewrite.LinkageLaws.{IsLinked}
use Rattle.jtyping.specs.jwelltyped.VerifierTests.{WellTyped}
use Rattle.jrewriting.specs.jrewrite.RewrittenPrograms.{limits, moved}
use Rattle.jsemantics.specs.declared.jmachine.plan.Plan.{Plan}
use Rattle.jsemantics.specs.jmachine.MachineStates.{Outcome, State}
use Rattle.jsemantics.specs.jmachine.Machine.{run}
use Rattle.jsemantics.specs.jmachine.OpeningState.{opening_state}
use Rattle.jsemantics.specs.jmachine.RunTraces.{Run}
use Rattle.jsemantics.specs.jmachine.MachineSteps.{step}
use Rattle.jsemantics.specs.jrules.InspectingRules as inspecting
use Rattle.jsemantics.specs.jrules.InspectingRules.{Carried}
use Rattle.jsemantics.specs.jrules.PlainRules as plain
use Rattle.jsimulation_laws.specs.stuttering.StutteringRuns.{HasStep, counted}
use Rattle.jsimulation_laws.specs.relation.ProgramRelation.{Moves}
use Rattle.jsimulation_laws.specs.relation.StepCounts.{steps}

-- the run of a program as it was written, by the machine that walks frames,
abbrev pub inspected : (ℕ → Permission → Bool) → Program → Plan → ℕ → Run (State Stack Carried)
inspected has p plan k = run (inspecting.rules has) p plan k

-- and that of the moved one, by the machine that is handed contexts
abbrev pub passed : (ℕ → Permission → Bool) → Program → Plan → ℕ → Run (State (List Item) (Unit {0}))
passed has q plan m = run (plain.rules has) q plan m

-- A run is never stuck: where it has not ended, its state has a step;
abbrev pub NeverStuck : {S : Type 0} → (S → Outcome S) → (ℕ → Run S) → Type 0
NeverStuck step run = (k : ℕ) → HasStep step (run k)

-- and so far, the inspecting run isn't.
abbrev pub UnstuckFor : (ℕ → Permission → Bool) → Program → Plan → ℕ → Type 0
UnstuckFor has p plan n = (k : ℕ) → k < n → HasStep (step (inspecting.rules has) p plan) (inspected has p plan k)

-- After m steps the moved program has told what the inspecting run has told after some k, and has ended as that has, or m is near.
pub record Simulated (has : ℕ → Permission → Bool) (p q : Program) (plan : Plan) (m : ℕ) : Type 0 where
  pub k : ℕ
  pub within : k ≤ m
  pub events : (passed has q plan m).events ≡ (inspected has p plan k).events
  pub end : (passed has q plan m).end ≡ (inspected has p plan k).end
  pub near : (inspected has p plan k).end ≡ None → m ≤ 8 * k + 15

-- after m steps it has told all that the inspecting run told in n, and has ended as that has
pub record Complete (has : ℕ → Permission → Bool) (p q : Program) (plan : Plan) (n m : ℕ) : Type 0 where
  pub events : (passed has q plan m).events ≡ (inspected has p plan n).events
  pub end : (passed has q plan m).end ≡ (inspected has p plan n).end

-- In so many steps of the moved program the first k of the inspecting run are answered: four in which `main` enters its context, and those of
-- each.
abbrev pub steps_taken : (ℕ → Permission → Bool) → Program → Plan → ℕ → ℕ
steps_taken has p plan k = 4 + counted (step (inspecting.rules has) p plan) (steps p) k (opening_state (inspecting.rules has) p plan.main plan.heap)

-- all three, of a program, its moved program and a plan
pub record Passes (has : ℕ → Permission → Bool) (p q : Program) (plan : Plan) : Type 0 where
  pub simulated : (m : ℕ) → Simulated has p q plan m
  -- where the inspecting run has ended, enough steps tell it all
  pub complete : (n m : ℕ) (end : End) → (inspected has p plan n).end ≡ Some end → 8 * n + 8 ≤ m → Complete has p q plan n m
  -- and so many steps tell what k told
  pub exact : (k : ℕ) → Complete has p q plan k (steps_taken has p plan k)

-- all three, as far as the inspecting run isn't stuck
pub record PassesUnstuck (has : ℕ → Permission → Bool) (p q : Program) (plan : Plan) : Type 0 where
  pub simulated : (m : ℕ) → UnstuckFor has p plan m → Simulated has p q plan m
  pub complete : (n m : ℕ) (end : End) → UnstuckFor has p plan n → (inspected has p plan n).end ≡ Some end → 8 * n + 8 ≤ m → Complete has p q plan n m
  pub exact : (k : ℕ) → UnstuckFor has p plan k → Complete has p q plan k (steps_taken has p plan k)

-- ---- the laws

-- of two programs of which a machine knows that the second is the first one moved
abbrev pub PassTheorem : Type 0
PassTheorem = (has : ℕ → Permission → Bool) (p q : Program) (plan : Plan) (name : List ℕ) → Moves p q → main_of p name ≡ Some plan.main
    → PassesUnstuck has p q plan

-- of each program that links, is well typed and breaks no limit, and its moved program
abbrev pub MovedPasses : Type 0
MovedPasses = (has : ℕ → Permission → Bool) (p : Program) (plan : Plan) (name : List ℕ) → IsLinked p → WellTyped p → limits p ≡ None
    → main_of p name ≡ Some plan.main → Passes has p (moved p) plan
