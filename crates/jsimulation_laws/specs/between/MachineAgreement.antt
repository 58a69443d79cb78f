-- Laws: the inspecting machine does what the first of the machines between does, and the second of these what the plain machine does. Of one
-- program they take the same steps, and their runs tell the same events and end alike.
use Rattle.std.specs.Prelude.{◌≡◌, ℕ, Bool, List}
use Rattle.jperm.specs.declared.permission.Permission.{Permission}
use Rattle.jdomain.specs.DomainStacks.{Stack}
use Rattle.jresolution.specs.jprogram.ProgramClasses.{Program}
use Rattle.jctx.specs.declared.item.Item.{Item}
use Rattle.jctx.specs.Contexts.{along}
use Rattle.jsemantics.specs.declared.jmachine.plan.Plan.{Plan}
use Rattle.jsemantics.specs.jmachine.MachineStates.{State}
use Rattle.jsemantics.specs.jmachine.Machine.{run}
use Rattle.jsemantics.specs.jmachine.StateMaps.{outcome_map, run_map, state_map}
use Rattle.jsemantics.specs.jmachine.NaturalityLaws.{RulesAgree}
use Rattle.jsemantics.specs.jmachine.MachineSteps.{step}
use Rattle.jsemantics.specs.jrules.InspectingRules as inspecting
use Rattle.jsemantics.specs.jrules.InspectingRules.{Carried}
use Rattle.jsemantics.specs.jrules.PlainRules as plain
use Rattle.jsimulation_laws.specs.between.BetweenMachines.{Noted, noted_along, shadowed, sourced}

-- ---- what corresponds

-- a state with contexts in place of stacks
abbrev pub state_along : State Stack Carried → State (List Item) Noted
state_along s = state_map along noted_along s

-- contexts stay as they are,
abbrev pub the_same : List Item → List Item
the_same c = c

-- and what frames carry is left out
abbrev pub left_out : Noted → Unit {0}
left_out e = tt

abbrev pub state_left : State (List Item) Noted → State (List Item) (Unit {0})
state_left s = state_map the_same left_out s

-- ---- the inspecting machine, and the first one between

abbrev pub SourcedAgree : Type 0
SourcedAgree = (has : ℕ → Permission → Bool) → RulesAgree along noted_along (inspecting.rules has) (sourced has)

abbrev pub SourcedSteps : Type 0
SourcedSteps = (has : ℕ → Permission → Bool) (p : Program) (plan : Plan) (s : State Stack Carried)
    → outcome_map state_along (step (inspecting.rules has) p plan s) ≡ step (sourced has) p plan (state_along s)

abbrev pub SourcedRuns : Type 0
SourcedRuns = (has : ℕ → Permission → Bool) (p : Program) (plan : Plan) (k : ℕ)
    → run_map state_along (run (inspecting.rules has) p plan k) ≡ run (sourced has) p plan k

-- ---- the second one between, and the plain machine

abbrev pub ShadowedAgree : Type 0
ShadowedAgree = (has : ℕ → Permission → Bool) → RulesAgree the_same left_out (shadowed has) (plain.rules has)

abbrev pub ShadowedSteps : Type 0
ShadowedSteps = (has : ℕ → Permission → Bool) (p : Program) (plan : Plan) (s : State (List Item) Noted)
    → outcome_map state_left (step (shadowed has) p plan s) ≡ step (plain.rules has) p plan (state_left s)

abbrev pub ShadowedRuns : Type 0
ShadowedRuns = (has : ℕ → Permission → Bool) (p : Program) (plan : Plan) (k : ℕ)
    → run_map state_left (run (shadowed has) p plan k) ≡ run (plain.rules has) p plan k
