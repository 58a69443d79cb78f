-- What a step asks is what its instruction asks, and a call asks what the member of the library does to which it comes.
use Rattle.std.proofs.Common.{◌≡◌, ◌∙◌, List, ◌∷◌, Option, Some, ap}
use Rattle.std.specs.Prelude.{option_and_then}
use Rattle.jlib.specs.declared.side.Side.{Side}
use Rattle.jresolution.specs.jprogram.ProgramClasses.{Program}
use Rattle.jresolution.specs.declared.juses.meaning.InvokeKind.{InvokeKind}
use Rattle.jresolution.specs.juses.IndexedInstructions.{Instruction, Used}
use Rattle.jresolution.specs.juses.InstructionMeanings.{Call, CallMeaning}
use Rattle.jsemantics.specs.declared.jmachine.plan.Plan.{Plan}
use Rattle.jsemantics.specs.jmachine.MachineStates.{FrameOf, State}
use Rattle.jsemantics.specs.jmachine.AccessQueries.{asked_by, asked_on, asks, call_asks, call_taken, called_asks, used_asks}
use Rattle.jsemantics.specs.jmachine.CallTargets.{Target, target}
use Rattle.jsemantics.specs.jmachine.TakenOperands.{Taken}
use Rattle.jsemantics.specs.jmachine.InstructionSites.{Site}
use Rattle.jsemantics.specs.jmachine.MachineSteps.{fetched, site_of}
use Rattle.jguard.specs.StepQueries.{AsksAsCalled, AsksAsFetched}

module _ {K E : Type 0} (side : Side) (p : Program) (plan : Plan) (s : State K E) (f : FrameOf K E) (below : List (FrameOf K E)) (frames : s.running.frames ≡ f ∷ below) where
  as_fetched : (i : Option Instruction) → fetched p f.method f.place ≡ i → asks side p plan s ≡ asked_by side p plan s f below i
  unfolding asks
  as_fetched i e = ap (asked_on side p plan s) frames ∙ ap (asked_by side p plan s f below) e

  abbrev at : Site
  at = site_of p plan s f below

  as_taken : (by : InvokeKind) (c : CallMeaning) (t : Taken K) → call_taken side at s.store by c f.operands ≡ Some t → used_asks side at s.store by c f.operands ≡ call_asks side at s.store by c t.values
  unfolding used_asks
  as_taken by c t e = ap (λ (o : Option (Taken K)). option_and_then (λ u. call_asks side at s.store by c u.values) o) e

  as_called : (by : InvokeKind) (c : CallMeaning) → fetched p f.method f.place ≡ Some (Used (Call by c)) → (t : Taken K) → call_taken side at s.store by c f.operands ≡ Some t
      → (to : Option Target) → target at s.store by c t.values ≡ to → asks side p plan s ≡ option_and_then (called_asks side at s.store t.values) to
  as_called by c e t takes to comes =
      as_fetched (Some (Used (Call by c))) e ∙ as_taken by c t takes ∙ ap (option_and_then (called_asks side at s.store t.values)) comes

pub fetched_law : (K E : Type 0) → AsksAsFetched K E
fetched_law K E side p plan s f below i frames e = as_fetched side p plan s f below frames i e

pub called_law : (K E : Type 0) → AsksAsCalled K E
called_law K E side p plan s f below by c frames e t takes to comes = as_called side p plan s f below frames by c e t takes to comes
