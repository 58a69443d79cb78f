-- Which states of the plain machine, on a moved program, stand for which of the inspecting machine on the program as it was written.
use Rattle.std.specs.Prelude.{◌≡◌, ℕ, Bool, List, None}
use Rattle.jperm.specs.declared.permission.Permission.{Permission}
use Rattle.jdomain.specs.DomainStacks.{Stack}
use Rattle.jresolution.specs.jprogram.ProgramClasses.{Program}
use Rattle.jctx.specs.declared.item.Item.{Item}
use Rattle.jrewriting.specs.jrewrite.LinkageLaws.{IsLinked}
use Rattle.jtyping.specs.jwelltyped.VerifierTests.{WellTyped}
use Rattle.jrewriting.specs.jrewrite.RewrittenPrograms.{limits, moved}
use Rattle.jsemantics.specs.declared.jmachine.plan.Plan.{Plan}
use Rattle.jsemantics.specs.jmachine.MachineStates.{State}
use Rattle.jsemantics.specs.jmachine.MachineSteps.{step}
use Rattle.jsemantics.specs.jrules.InspectingRules as inspecting
use Rattle.jsemantics.specs.jrules.InspectingRules.{Carried}
use Rattle.jsemantics.specs.jrules.PlainRules as plain
use Rattle.jsimulation_laws.specs.between.MachineAgreement.{state_along, state_left}
use Rattle.jsimulation_laws.specs.stuttering.StutteringRuns.{Follows, FollowsIn}
use Rattle.jsimulation_laws.specs.relation.ProgramRelation.{Moves}
use Rattle.jsimulation_laws.specs.relation.StateRelation.{Point, Stands}
use Rattle.jsimulation_laws.specs.relation.StepCounts.{steps}

-- With contexts in place of its stacks the inspecting state is one of the first machine between; a state of the second one stands for that;
-- and it is the plain state, but for what its frames carry.
pub record StandsFor (p q : Program) (s : State Stack Carried) (t : State (List Item) (Unit {0})) : Type 0 where
  pub between : Point
  pub stands : Stands p q (state_along s) between
  pub left : state_left between ≡ t

-- ---- the law

-- Each step of the inspecting machine is answered by as many of the plain one as its instruction tells,
abbrev pub StandsThroughout : Type 0
StandsThroughout = (has : ℕ → Permission → Bool) (p q : Program) (plan : Plan) → Moves p q
    → FollowsIn (StandsFor p q) (step (inspecting.rules has) p plan) (step (plain.rules has) q plan) (steps p)

-- and so by 1 to 7;
abbrev pub StandsInFew : Type 0
StandsInFew = (has : ℕ → Permission → Bool) (p q : Program) (plan : Plan) → Moves p q
    → Follows (StandsFor p q) (step (inspecting.rules has) p plan) (step (plain.rules has) q plan) 7

-- and both of each program that links, is well typed and breaks no limit, and its moved program.
abbrev pub MovedStands : Type 0
MovedStands = (has : ℕ → Permission → Bool) (p : Program) (plan : Plan) → IsLinked p → WellTyped p → limits p ≡ None
    → FollowsIn (StandsFor p (moved p)) (step (inspecting.rules has) p plan) (step (plain.rules has) (moved p) plan) (steps p)

abbrev pub MovedInFew : Type 0
MovedInFew = (has : ℕ → Permission → Bool) (p : Program) (plan : Plan) → IsLinked p → WellTyped p → limits p ≡ None
    → Follows (StandsFor p (moved p)) (step (inspecting.rules has) p plan) (step (plain.rules has) (moved p) plan) 7
