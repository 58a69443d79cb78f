-- A step by numbers, answered by a guard, comes to what the step by the guard's rules comes to.
use Rattle.std.proofs.Common.{◌≡◌, ◌∙◌, ℕ, List, [], ◌∷◌, map, Option, Some, refl, sym, ap₂, subst}
use Rattle.jlib.specs.declared.side.Side.{Side}
use Rattle.jresolution.specs.declared.jprogram.part.CodePart.{CodePart}
use Rattle.jresolution.specs.jprogram.ProgramClasses.{Program}
use Rattle.jsemantics.specs.jmachine.MachineStates.{NoStep, Outcome, Over, State, Went}
use Rattle.jsemantics.specs.jmachine.AccessQueries.{Ask, answer_in, asks, carried}
use Rattle.jsemantics.specs.jmachine.StateMaps.{outcome_map, state_map}
use Rattle.jsemantics.specs.jmachine.Security.{Rules}
use Rattle.jsemantics.specs.jmachine.MachineSteps.{step}
use Rattle.jrows.specs.jcalls.FrameMarks.{marks_of}
use Rattle.jguard.specs.GuardLaws.{AreMarked, GuardedStep, MarksStand, StepKnown}
use Rattle.jguard.specs.NumberMeanings.{AnswersFor, Keeps, StandsFor}
use Rattle.jruntime.specs.jrun.StepOutcomes.{ComesTo, WhereWent}
use Rattle.jruntime.specs.declared.jrun.came.Came.{Came}
use Rattle.jruntime.specs.declared.jrun.came.Came.TheVariants as done
use Rattle.jstepping.specs.declared.jcore.machine.Machine.{Machine}
use Rattle.jstepping.specs.jcore.AnsweredCalls.{Answered, AsksKnown}
use Rattle.jstepping.specs.jcore.MachineOutcomes.{GoesOn, outcome_by}
use Rattle.jstepping.specs.jcore.MachineInvariants.{AreRules, StaysFixed, state_of}
use Rattle.jsoundness_laws.specs.progress.TypedStates as states
use Rattle.jsoundness_laws.specs.progress.TypedStates.{IsTypedState, StatesStep}
use Rattle.jforms.specs.jtables.Engines.{IsEngine, IsSafe, asks_next, next_of}
use Rattle.jforms.proofs.JtablesProofs.GuardQuestions.{carry_then}

-- ---- marks

same_marks : {M : Type 0} (f g : ℕ → M) → ((d : ℕ) → f d ≡ g d) → (parts : List CodePart) → map (λ (part : CodePart). f part.domain) parts ≡ map (λ (part : CodePart). g part.domain) parts
same_marks f g same [] = refl
same_marks f g same (part ∷ parts) = ap₂ (λ m ms. m ∷ ms) (same part.domain) (same_marks f g same parts)

-- rules whose frames carry these marks are the machine's
pub rules_are : {M K E : Type 0} (mark : ℕ → M) (rules : Rules K E) (m : Machine M) (r : Rules ℕ M) → m.side ≡ rules.side → m.fixed.marks.now ≡ marks_of mark m.calls
    → AreMarked mark rules r → AreRules m r
rules_are mark rules m r side carry are = record {
  marks = carry ∙ sym (same_marks r.entry_of mark are.marks m.calls.parts);
  side = are.side ∙ sym side;
}

-- ---- outcomes

-- what a step came to whose outcome stands for another
arrives : {M K E : Type 0} (f : ℕ → Option K) (g : M → Option E) (over : State ℕ M) (n : Machine M) (came : Came) (x : Outcome (State K E))
    → outcome_map (state_map f g) (outcome_by over n came) ≡ outcome_map (state_map Some Some) x → ComesTo (λ s. StandsFor f g (state_of n) s) x came
arrives f g over n (done.Went events) (Went s told) e = (s, let d = e in cc, let d = e in cc)
arrives f g over n (done.Went events) (Over s told end) e = absurd (let d = e in cc)
arrives f g over n (done.Went events) NoStep e = absurd (let d = e in cc)
arrives f g over n (done.Ended events end) (Went s told) e = absurd (let d = e in cc)
arrives f g over n (done.Ended events end) (Over s told other) e = (s, let d = e in cc)
arrives f g over n (done.Ended events end) NoStep e = absurd (let d = e in cc)
arrives f g over n done.Stuck (Went s told) e = absurd (let d = e in cc)
arrives f g over n done.Stuck (Over s told end) e = absurd (let d = e in cc)
arrives f g over n done.Stuck NoStep e = refl

-- the same of a step that was answered
steps_so : {M K E : Type 0} (old new : ℕ → Option K) (old_marks new_marks : M → Option E) (mark : ℕ → M) (rules : Rules K E) (m n : Machine M) (came : Came)
    → GuardedStep M K E → Keeps old new → Keeps old_marks new_marks → m.side ≡ rules.side → m.fixed.marks.now ≡ marks_of mark m.calls → MarksStand old_marks mark rules
    → Answered old new old_marks new_marks rules m (asks_next m) (next_of m) came n
    → (s : State K E) → StandsFor old old_marks (state_of m) s
    → ComesTo (λ t. StandsFor new new_marks (state_of n) t) (step rules m.calls m.plan.now s) came
steps_so {M} {K} {E} old new old_marks new_marks mark rules m n came law keeps keeps_marks side carry marks a s stands =
    let p = m.calls in
    let plan = m.plan.now in
    arrives new new_marks a.comes.over n came (step rules p plan s)
    (law old new old_marks new_marks keeps keeps_marks mark rules (λ d. keeps_marks (mark d) (rules.entry_of d) (marks d)) p plan (state_of m) s stands
    a.given
    (subst (λ (x : Side). (ask : Ask ℕ) → asks x p plan (state_of m) ≡ Some ask
    → AnswersFor old new old_marks new_marks rules ask (carried (state_of m)) m.guests.running.inherited a.given) side a.answers)
    (outcome_by a.comes.over n came)
    (λ r are so. a.comes.comes r (rules_are mark rules m r side carry are)
    (subst (λ (x : Side). (ask : Ask ℕ) → asks x p plan (state_of m) ≡ Some ask → answer_in r (state_of m) ask ≡ a.given) (sym side) so)))

-- ---- an engine

-- what its next step asks was given
pub knows : {M K E : Type 0} (kept : ℕ → Option K) (entry : M → Option E) (mark : ℕ → M) (rules : Rules K E) (m : Machine M)
    → StepKnown M K E → IsEngine kept entry mark rules m → AsksKnown kept entry m (asks_next m)
knows kept entry mark rules m law e = law kept entry m.side m.calls m.plan.now (state_of m) e.stands.0 e.stands.1

-- its step comes to what the step by the guard's rules comes to, whatever its numbers stand for,
pub engine_steps : {M K E : Type 0} (old new : ℕ → Option K) (old_marks new_marks : M → Option E) (mark : ℕ → M) (rules : Rules K E) (m n : Machine M) (came : Came)
    → GuardedStep M K E → Keeps old new → Keeps old_marks new_marks → IsEngine old old_marks mark rules m
    → Answered old new old_marks new_marks rules m (asks_next m) (next_of m) came n
    → (s : State K E) → StandsFor old old_marks (state_of m) s → ComesTo (λ t. StandsFor new new_marks (state_of n) t) (step rules m.calls m.plan.now s) came
engine_steps old new old_marks new_marks mark rules m n came law keeps keeps_marks e a s stands =
    steps_so old new old_marks new_marks mark rules m n came law keeps keeps_marks e.side e.carry e.marks a s stands

-- which there is,
pub steps_typed : {M K E : Type 0} (kept : ℕ → Option K) (entry : M → Option E) (mark : ℕ → M) (rules : Rules K E) (m : Machine M)
    → StatesStep K E → (e : IsEngine kept entry mark rules m) → states.ComesTo m.calls rules.side (step rules m.calls m.plan.now e.stands.0)
steps_typed kept entry mark rules m law e = law rules m.calls m.plan.now e.stands.0 e.safe.sound e.safe.side e.safe.sided e.typed

pub never_stuck : {M K E : Type 0} (kept : ℕ → Option K) (entry : M → Option E) (mark : ℕ → M) (rules : Rules K E) (m : Machine M) (came : Came) (stands : State K E → Type 0)
    → StatesStep K E → IsEngine kept entry mark rules m
    → ((s : State K E) → StandsFor kept entry (state_of m) s → ComesTo stands (step rules m.calls m.plan.now s) came) → came ≡ done.Stuck → ⊥
never_stuck {M} {K} {E} kept entry mark rules m came stands law e comes is =
    let o = step rules m.calls m.plan.now e.stands.0 in
    let none : o ≡ NoStep = subst (λ (c : Came). ComesTo stands o c) is (comes e.stands.0 e.stands.1) in
    subst (λ (x : Outcome (State K E)). states.ComesTo m.calls rules.side x) none (steps_typed kept entry mark rules m law e)

-- and where it went on it is one again
goes_again : {M K E : Type 0} (new : ℕ → Option K) (old_marks new_marks : M → Option E) (mark : ℕ → M) (rules : Rules K E) (m n : Machine M) (came : Came) (x : Outcome (State K E))
    → Keeps old_marks new_marks → m.side ≡ rules.side → m.fixed.marks.now ≡ marks_of mark m.calls → MarksStand old_marks mark rules → StaysFixed m n → GoesOn n came
    → IsSafe rules m.calls → states.ComesTo m.calls rules.side x
    → ComesTo (λ t. StandsFor new new_marks (state_of n) t) x came → WhereWent (IsEngine new new_marks mark rules n) came
goes_again {M} {K} {E} new old_marks new_marks mark rules m n (done.Went events) x keeps side carry marks fixed ready safe typed came = record {
  ready = ready;
  side = fixed.side ∙ side;
  carry = carry_then mark m n fixed carry;
  marks = λ d. keeps (mark d) (rules.entry_of d) (marks d);
  safe = subst (λ (p : Program). IsSafe rules p) (sym fixed.calls) safe;
  stands = (came.0, came.2);
  typed = subst (λ (p : Program). IsTypedState p rules.side came.0) (sym fixed.calls)
      (subst (λ (o : Outcome (State K E)). states.ComesTo m.calls rules.side o) came.1 typed);
}
goes_again new old_marks new_marks mark rules m n (done.Ended events end) x keeps side carry marks fixed ready safe typed came = tt
goes_again new old_marks new_marks mark rules m n done.Stuck x keeps side carry marks fixed ready safe typed came = tt

pub engine_again : {M K E : Type 0} (old new : ℕ → Option K) (old_marks new_marks : M → Option E) (mark : ℕ → M) (rules : Rules K E) (m n : Machine M) (came : Came)
    → GuardedStep M K E → StatesStep K E → Keeps old new → Keeps old_marks new_marks → IsEngine old old_marks mark rules m
    → Answered old new old_marks new_marks rules m (asks_next m) (next_of m) came n → StaysFixed m n → GoesOn n came
    → WhereWent (IsEngine new new_marks mark rules n) came
engine_again old new old_marks new_marks mark rules m n came law types keeps keeps_marks e a fixed ready =
    goes_again new old_marks new_marks mark rules m n came _ keeps_marks e.side e.carry e.marks fixed ready e.safe (steps_typed old old_marks mark rules m types e)
    (engine_steps old new old_marks new_marks mark rules m n came law keeps keeps_marks e a e.stands.0 e.stands.1)

-- its rules, its program and its plan stay
pub same_steps : {M K E : Type 0} (rules after : Rules K E) (m n : Machine M) → after ≡ rules → StaysFixed m n → step after n.calls n.plan.now ≡ step rules m.calls m.plan.now
same_steps rules after m n same fixed = rw (same, fixed.calls, fixed.plan) refl
