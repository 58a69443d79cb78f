-- No run of a program that links and is well typed is stuck, by either machine.
use Rattle.std.proofs.Common.{◌≡◌, ◌∙◌, ℕ, Bool, List, Some, refl, subst, sym}
use Rattle.jperm.specs.declared.permission.Permission.{Permission}
use Rattle.jdomain.specs.DomainStacks.{Stack}
use Rattle.jctx.specs.declared.item.Item.{Item}
use Rattle.jlib.specs.declared.side.Side.TheVariants.{Passing, Source}
use Rattle.jresolution.specs.jprogram.ProgramClasses.{Program}
use Rattle.jresolution.specs.jprogram.MemberResolution.{IsMain, main_of}
use Rattle.jrewriting.specs.jrewrite.LinkageLaws.{IsLinked}
use Rattle.jtyping.specs.jwelltyped.VerifierTests.{WellTyped}
use Rattle.jsemantics.specs.declared.jmachine.plan.Plan.{Plan}
use Rattle.jsemantics.specs.jmachine.MachineStates.{Outcome, State}
use Rattle.jsemantics.specs.jmachine.RunTraces.{Run}
use Rattle.jsemantics.specs.jmachine.Security.{Rules}
use Rattle.jsemantics.specs.jmachine.MachineSteps.{step}
use Rattle.jsemantics.specs.jrules.InspectingRules as inspecting
use Rattle.jsemantics.specs.jrules.InspectingRules.{Carried}
use Rattle.jsemantics.specs.jrules.PlainRules as plain
use Rattle.jsimulation_laws.specs.stuttering.StutteringRuns.{HasStep}
use Rattle.jsoundness_laws.specs.library.YieldLaws.{AreSided}
use Rattle.jsoundness_laws.specs.progress.SoundPrograms.{IsSound}
use Rattle.jsoundness_laws.specs.progress.TypedStates.{ComesTo, IsTypedRun, RunsTyped}
use Rattle.jsoundness_laws.specs.program.SoundRuns.{LinkedRunsTyped}
use Rattle.jpass_laws.specs.PassSimulation.{NeverStuck, Passes, PassesUnstuck, inspected, passed}

has_step : {K E : Type 0} (r : Rules K E) (p : Program) (plan : Plan) (x : Run (State K E)) → IsTypedRun r p plan x → HasStep (step r p plan) x
has_step {K} {E} r p plan x is goes none = subst (λ (o : Outcome (State K E)). ComesTo p r.side o) none is.steps

on_source : (has : ℕ → Permission → Bool) → (inspecting.rules has).side ≡ Source
unfolding inspecting.rules
on_source has = refl

on_passing : (has : ℕ → Permission → Bool) → (plain.rules has).side ≡ Passing
unfolding plain.rules
on_passing has = refl

pub inspected_unstuck : LinkedRunsTyped Stack Carried → ((has : ℕ → Permission → Bool) → AreSided (inspecting.rules has))
    → (has : ℕ → Permission → Bool) (p : Program) (plan : Plan) (name : List ℕ) → IsLinked p → WellTyped p → main_of p name ≡ Some plan.main
    → NeverStuck (step (inspecting.rules has) p plan) (inspected has p plan)
inspected_unstuck law sided has p plan name linked typed main k =
    has_step (inspecting.rules has) p plan (inspected has p plan k)
    (law (inspecting.rules has) p plan name k linked.links linked.files typed (on_source has ∙ sym linked.source) (sided has) main)

pub passed_unstuck : RunsTyped (List Item) (Unit {0}) → ((has : ℕ → Permission → Bool) → AreSided (plain.rules has))
    → (has : ℕ → Permission → Bool) (q : Program) (plan : Plan) → q.side ≡ Passing → IsSound q → IsMain q plan.main
    → NeverStuck (step (plain.rules has) q plan) (passed has q plan)
passed_unstuck law sided has q plan side sound main k =
    has_step (plain.rules has) q plan (passed has q plan k) (law (plain.rules has) q plan main.0 k sound (on_passing has ∙ sym side) (sided has) main.1)

-- so the laws of whole runs have no premise
pub passes_all : (has : ℕ → Permission → Bool) (p q : Program) (plan : Plan) → PassesUnstuck has p q plan → NeverStuck (step (inspecting.rules has) p plan) (inspected has p plan)
    → Passes has p q plan
passes_all has p q plan w free = record {
  simulated = λ m. w.simulated m (λ k lt. free k);
  complete = λ n m end e le. w.complete n m end (λ k lt. free k) e le;
  exact = λ k. w.exact k (λ i lt. free i);
}
