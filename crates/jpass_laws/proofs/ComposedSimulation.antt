-- The local simulation between the inspecting and the plain machine, by that between the machines between.
use Rattle.std.proofs.Common.{◌≡◌, ℕ, Bool, List, refl, sym, subst}
use Rattle.jperm.specs.declared.permission.Permission.{Permission}
use Rattle.jdomain.specs.DomainStacks.{Stack}
use Rattle.jresolution.specs.jprogram.ProgramClasses.{Program}
use Rattle.jctx.specs.declared.item.Item.{Item}
use Rattle.jctx.specs.Contexts as contexts
use Rattle.jsemantics.specs.declared.jmachine.plan.Plan.{Plan}
use Rattle.jsemantics.specs.jmachine.MachineStates.{Outcome, Went, Over, NoStep, State}
use Rattle.jsemantics.specs.jmachine.StateMaps.{outcome_map}
use Rattle.jsemantics.specs.jmachine.MachineSteps.{step}
use Rattle.jsemantics.specs.jrules.InspectingRules as inspecting
use Rattle.jsemantics.specs.jrules.InspectingRules.{Carried}
use Rattle.jsemantics.specs.jrules.PlainRules as plain
use Rattle.jsimulation_laws.specs.between.MachineAgreement.{ShadowedSteps, SourcedSteps, state_along, state_left}
use Rattle.jsimulation_laws.specs.stuttering.StutteringRuns.{AnswersIn}
use Rattle.jsimulation_laws.specs.relation.ProgramRelation.{Moves}
use Rattle.jsimulation_laws.specs.relation.StateRelation.{LocallyFollows, Point, Stands, before, behind}
use Rattle.jsimulation_laws.specs.relation.StepCounts.{StepsFew, invokes, next_in, steps}
use Rattle.jsimulation_laws.specs.between.BetweenMachines.{noted_along}
use Rattle.jsimulation_laws.proofs.StutteringProofs.CountedAnswers.{follows_within}
use Rattle.jpass_laws.specs.PassRelation.{StandsFor, StandsInFew, StandsThroughout}
use Rattle.jpass_laws.proofs.MappedCounts.{steps_same}
use Rattle.jpass_laws.proofs.StepCorrespondence.{leads, leads_out}

module _ (along : SourcedSteps) (left : ShadowedSteps) (local : LocallyFollows) (has : ℕ → Permission → Bool) (p q : Program) (plan : Plan) (moves : Moves p q) where
  abbrev plainly : State (List Item) (Unit {0}) → Outcome (State (List Item) (Unit {0}))
  plainly t = step (plain.rules has) q plan t

  alike : (u : Point) → outcome_map state_left (behind has q plan u) ≡ plainly (state_left u)
  alike u = left has q plan u

  -- what answers an outcome of the first machine between answers the inspecting one's, in as many steps
  answered : (j : ℕ) (o : Outcome (State Stack Carried)) (u : Point) → AnswersIn (Stands p q) (behind has q plan) j (outcome_map state_along o) u
      → AnswersIn (StandsFor p q) plainly j o (state_left u)
  answered j (Went s events) u w =
      (state_left w.0, leads state_left (behind has q plan) plainly alike j u w.0 events w.1, record { between = w.0; stands = w.2; left = refl })
  answered j (Over s events end) u w = leads_out state_left (behind has q plan) plainly alike j u events end w
  answered j NoStep u w = tt

  throughout : (s : State Stack Carried) (t : State (List Item) (Unit {0})) → StandsFor p q s t
      → AnswersIn (StandsFor p q) plainly (steps p s (step (inspecting.rules has) p plan s)) (step (inspecting.rules has) p plan s) t
  throughout s t is =
      let o : Outcome (State Stack Carried) = step (inspecting.rules has) p plan s in
      let w : AnswersIn (Stands p q) (behind has q plan) (steps p (state_along s) (before has p plan (state_along s))) (before has p plan (state_along s)) is.between
      = local has p q plan moves (state_along s) is.between is.stands in
      let v : AnswersIn (Stands p q) (behind has q plan) (steps p (state_along s) (outcome_map state_along o)) (outcome_map state_along o) is.between
      = subst (λ (x : Outcome Point). AnswersIn (Stands p q) (behind has q plan) (steps p (state_along s) x) x is.between) (sym (along has p plan s)) w in
      let n : AnswersIn (Stands p q) (behind has q plan) (steps p s o) (outcome_map state_along o) is.between
      = subst (λ j. AnswersIn (Stands p q) (behind has q plan) j (outcome_map state_along o) is.between) (steps_same contexts.along noted_along p s o) v in
      subst (λ (x : State (List Item) (Unit {0})). AnswersIn (StandsFor p q) plainly (steps p s o) o x) is.left (answered (steps p s o) o is.between n)

pub stands_throughout : SourcedSteps → ShadowedSteps → LocallyFollows → StandsThroughout
stands_throughout along left local has p q plan moves s t is = throughout along left local has p q plan moves s t is

-- and so in 1 to 7
pub stands_in_few : StepsFew → StandsThroughout → StandsInFew
stands_in_few few law has p q plan moves =
    follows_within (StandsFor p q) (step (plain.rules has) q plan) 7 (step (inspecting.rules has) p plan) (steps p) (λ s o. few (next_in p s.running.frames) (invokes s o))
    (law has p q plan moves)
