-- Laws: a machine by numbers whose asks a guard answers does what the machine of the guard's rules does.
use Rattle.std.specs.Prelude.{◌≡◌, ℕ, Option, Some}
use Rattle.jlib.specs.declared.side.Side.{Side}
use Rattle.jresolution.specs.declared.jprogram.member.MethodId.{MethodId}
use Rattle.jresolution.specs.jprogram.ProgramClasses.{Program}
use Rattle.jsemantics.specs.declared.jmachine.plan.Plan.{Plan}
use Rattle.jsemantics.specs.jmachine.MachineStates.{Outcome, State}
use Rattle.jsemantics.specs.jmachine.AccessQueries.{Ask, Answer, answer_in, asks, carried}
use Rattle.jsemantics.specs.jmachine.OpeningState.{opening_state}
use Rattle.jsemantics.specs.jmachine.Security.{Rules}
use Rattle.jsemantics.specs.jmachine.MachineSteps.{step}
use Rattle.jguard.specs.NumberMeanings.{AnswersFor, ComesTo, IsKnownIn, IsThat, Keeps, StandsFor}

-- What a state by numbers stands for stays while numbers and marks keep what they stand for.
abbrev pub StaysStanding : Type 0 → Type 0 → Type 0 → Type 0
StaysStanding M K E = (old new : ℕ → Option K) (old_marks new_marks : M → Option E) → Keeps old new → Keeps old_marks new_marks
    → (s : State ℕ M) (meant : State K E) → StandsFor old old_marks s meant → StandsFor new new_marks s meant

-- What a step asks by numbers that stand for something was given.
abbrev pub StepKnown : Type 0 → Type 0 → Type 0 → Type 0
StepKnown M K E = (kept : ℕ → Option K) (marks : M → Option E) (side : Side) (p : Program) (plan : Plan) (s : State ℕ M) (meant : State K E)
    → StandsFor kept marks s meant → (ask : Ask ℕ) → asks side p plan s ≡ Some ask → IsKnownIn kept marks s ask

-- rules by numbers are of the same side, and frames of methods carry the mark of their domain
pub record AreMarked {M K E : Type 0} (mark : ℕ → M) (rules : Rules K E) (r : Rules ℕ M) : Type 0 where
  pub side : r.side ≡ rules.side
  pub marks : (d : ℕ) → r.entry_of d ≡ mark d

-- each mark of a domain stands for what its methods' frames carry
abbrev pub MarksStand : {M K E : Type 0} → (M → Option E) → (ℕ → M) → Rules K E → Type 0
MarksStand marks mark rules = (d : ℕ) → marks (mark d) ≡ Some (rules.entry_of d)

-- The first state by numbers stands for that by what is kept, where the context that `main` is given does.
abbrev pub GuardedOpening : Type 0 → Type 0 → Type 0 → Type 0
GuardedOpening M K E = (kept : ℕ → Option K) (marks : M → Option E) (mark : ℕ → M) (rules : Rules K E) → MarksStand marks mark rules
    → (r : Rules ℕ M) → AreMarked mark rules r → IsThat kept r.first rules.first
    → (p : Program) (main : MethodId) (heap : ℕ) → StandsFor kept marks (opening_state r p main heap) (opening_state rules p main heap)

-- rules by numbers answer so what a step asks
abbrev pub AnswersSo : {M K E : Type 0} → Rules K E → Program → Plan → State ℕ M → Answer ℕ M → Rules ℕ M → Type 0
AnswersSo {M} rules p plan s given r = (ask : Ask ℕ) → asks rules.side p plan s ≡ Some ask → answer_in r s ask ≡ given

-- A step that comes to the same outcome by all rules by numbers that answer as the guard did, where the step asks anything, comes to what
-- the step by the guard's rules comes to.
abbrev pub GuardedStep : Type 0 → Type 0 → Type 0 → Type 0
GuardedStep M K E = (old new : ℕ → Option K) (old_marks new_marks : M → Option E) → Keeps old new → Keeps old_marks new_marks
    → (mark : ℕ → M) (rules : Rules K E) → MarksStand new_marks mark rules
    → (p : Program) (plan : Plan) (s : State ℕ M) (meant : State K E) → StandsFor old old_marks s meant
    → (given : Answer ℕ M)
    → ((ask : Ask ℕ) → asks rules.side p plan s ≡ Some ask → AnswersFor old new old_marks new_marks rules ask (carried s) s.running.inherited given)
    → (o : Outcome (State ℕ M)) → ((r : Rules ℕ M) → AreMarked mark rules r → AnswersSo rules p plan s given r → step r p plan s ≡ o)
    → ComesTo new new_marks o (step rules p plan meant)
