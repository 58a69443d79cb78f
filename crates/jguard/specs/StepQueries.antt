-- Laws: what a step asks, by its instruction, and by what its call comes to.
use Rattle.std.specs.Prelude.{◌≡◌, List, ◌∷◌, Option, Some, option_and_then}
use Rattle.jlib.specs.declared.side.Side.{Side}
use Rattle.jresolution.specs.jprogram.ProgramClasses.{Program}
use Rattle.jresolution.specs.declared.juses.meaning.InvokeKind.{InvokeKind}
use Rattle.jresolution.specs.juses.IndexedInstructions.{Instruction, Used}
use Rattle.jresolution.specs.juses.InstructionMeanings.{Call, CallMeaning}
use Rattle.jsemantics.specs.declared.jmachine.plan.Plan.{Plan}
use Rattle.jsemantics.specs.jmachine.MachineStates.{FrameOf, State}
use Rattle.jsemantics.specs.jmachine.AccessQueries.{asked_by, asks, call_taken, called_asks}
use Rattle.jsemantics.specs.jmachine.CallTargets.{Target, target}
use Rattle.jsemantics.specs.jmachine.TakenOperands.{Taken}
use Rattle.jsemantics.specs.jmachine.MachineSteps.{fetched, site_of}

-- A step asks what its instruction asks,
abbrev pub AsksAsFetched : Type 0 → Type 0 → Type 0
AsksAsFetched K E = (side : Side) (p : Program) (plan : Plan) (s : State K E) (f : FrameOf K E) (below : List (FrameOf K E)) (i : Option Instruction)
    → s.running.frames ≡ f ∷ below → fetched p f.method f.place ≡ i → asks side p plan s ≡ asked_by side p plan s f below i

-- and a call what the member of the library asks to which it comes, with the operands that it takes.
abbrev pub AsksAsCalled : Type 0 → Type 0 → Type 0
AsksAsCalled K E = (side : Side) (p : Program) (plan : Plan) (s : State K E) (f : FrameOf K E) (below : List (FrameOf K E)) (by : InvokeKind)
    (c : CallMeaning)
    → s.running.frames ≡ f ∷ below → fetched p f.method f.place ≡ Some (Used (Call by c))
    → (t : Taken K) → call_taken side (site_of p plan s f below) s.store by c f.operands ≡ Some t
    → (to : Option Target) → target (site_of p plan s f below) s.store by c t.values ≡ to
    → asks side p plan s ≡ option_and_then (called_asks side (site_of p plan s f below) s.store t.values) to
