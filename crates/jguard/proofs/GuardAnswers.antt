-- Rules by numbers that give one answer, and the laws of a machine whose asks a guard answers.
use Rattle.std.proofs.Common.{◌≡◌, ◌∙◌, ℕ, List, Option, Some, None, option_map, refl, sym, ap}
use Rattle.jdomain.specs.declared.verdict.Verdict.{Verdict}
use Rattle.jdomain.specs.declared.verdict.Verdict.TheVariants.{Granted}
use Rattle.jlib.specs.declared.side.Side.{Side}
use Rattle.jresolution.specs.jprogram.ProgramClasses.{Program}
use Rattle.jsemantics.specs.declared.jmachine.plan.Plan.{Plan}
use Rattle.jsemantics.specs.jmachine.MachineStates.{Outcome, State}
use Rattle.jsemantics.specs.jmachine.AccessQueries.{Ask, Checks, ChecksKept, Snapshots, Inherits, Enters, Privileges, Answer, Decided, Kept, Entered, Allowed, answer, answer_in, answer_map, ask_map, asks, carried}
use Rattle.jsemantics.specs.jmachine.StateMaps.{outcome_map, state_map}
use Rattle.jsemantics.specs.jmachine.NaturalityLaws.{AnswersAlike, AsksAlike, OpeningAlike, StepAlike, StepAlikeAt}
use Rattle.jsemantics.specs.jmachine.Security.{Privilege, Rules}
use Rattle.jsemantics.specs.jmachine.MachineSteps.{step}
use Rattle.jguard.specs.GuardLaws.{AnswersSo, AreMarked, GuardedOpening, GuardedStep, MarksStand, StaysStanding, StepKnown}
use Rattle.jguard.specs.GuardQueries.{answer_kind, kind}
use Rattle.jguard.specs.NumberMeanings.{Answers, AnswersFor, AreKnown, ComesTo, IsAskKnown, IsKnown, Keeps, StandsFor}
use Rattle.jguard.proofs.RelationStability.{stays}
use Rattle.jguard.proofs.OptionalRules.{agrees, lifted}
use Rattle.jguard.proofs.StepSimulation.{ask_stands, asks_stand, comes, entries_stand, found_ask, inherited_stands, known}

-- ---- kinds of asks and of answers

kind_map : {K L : Type 0} (f : K → L) (ask : Ask K) → kind (ask_map f ask) ≡ kind ask
kind_map f (Checks asked ctx) = refl
kind_map f (ChecksKept asked k) = refl
kind_map f (Snapshots ctx) = refl
kind_map f (Inherits ctx) = refl
kind_map f (Enters k domain) = refl
kind_map f (Privileges domain ctx given limits) = refl

answer_kind_map : {K L E F : Type 0} (f : K → L) (g : E → F) (a : Answer K E) → answer_kind (answer_map f g a) ≡ answer_kind a
answer_kind_map f g (Decided v) = refl
answer_kind_map f g (Kept k) = refl
answer_kind_map f g (Entered k) = refl
answer_kind_map f g (Allowed p) = refl

answered_kind : {K E : Type 0} (r : Rules K E) (es : List E) (below : Option K) (ask : Ask K) → answer_kind (answer r es below ask) ≡ kind ask
answered_kind r es below (Checks asked ctx) = refl
answered_kind r es below (ChecksKept asked k) = refl
answered_kind r es below (Snapshots ctx) = refl
answered_kind r es below (Inherits ctx) = refl
answered_kind r es below (Enters k domain) = refl
answered_kind r es below (Privileges domain ctx given limits) = refl

-- an answer that a guard gave is of the kind of what it was asked
pub kind_is : {N M K E : Type 0} (old new : N → Option K) (old_marks new_marks : M → Option E) (rules : Rules K E) (ask : Ask N) (marks : List M) (inherited : Option N) (given : Answer N M)
    → IsAskKnown old ask → AreKnown old_marks marks → IsKnown old inherited → AnswersFor old new old_marks new_marks rules ask marks inherited given → answer_kind given ≡ kind ask
kind_is {N} {M} {K} {E} old new old_marks new_marks rules ask marks inherited given asked entries below answers =
    sym (answer_kind_map new new_marks given)
    ∙ ap (λ (x : Answer (Option K) (Option E)). answer_kind x) (answers asked.0 entries.0 below.0 asked.1 entries.1 below.1)
    ∙ answer_kind_map Some Some (answer rules entries.0 below.0 asked.0)
    ∙ answered_kind rules entries.0 below.0 asked.0
    ∙ sym (kind_map Some asked.0)
    ∙ ap (λ (x : Ask (Option K)). kind x) (sym asked.1)
    ∙ kind_map old ask

-- ---- rules that give one answer

module _ {M : Type 0} where
  abbrev verdict_of : Answer ℕ M → Verdict
  verdict_of (Decided v) = v
  verdict_of a = Granted

  abbrev number_of : Answer ℕ M → ℕ
  number_of (Kept n) = n
  number_of (Entered n) = n
  number_of a = 0

  abbrev privilege_of : M → Answer ℕ M → Privilege ℕ M
  privilege_of other (Allowed p) = p
  privilege_of other a = record { caller = other; context = None }

  abbrev answering : Side → (ℕ → M) → Answer ℕ M → Rules ℕ M
  answering side mark given = record {
    side = side;
    entry_of = mark;
    first = None;
    enter = λ k d. number_of given;
    check = λ asked ctx entries below. verdict_of given;
    check_kept = λ asked k. verdict_of given;
    snapshot = λ ctx entries below. number_of given;
    inherit = λ ctx entries below. number_of given;
    privileged = λ d ctx context limits entries. privilege_of (mark 0) given;
  }

  gives : (side : Side) (mark : ℕ → M) (given : Answer ℕ M) (es : List M) (below : Option ℕ) (ask : Ask ℕ) → kind ask ≡ answer_kind given → answer (answering side mark given) es below ask ≡ given
  gives side mark (Decided v) es below (Checks asked ctx) e = refl
  gives side mark (Decided v) es below (ChecksKept asked k) e = refl
  gives side mark (Decided v) es below (Snapshots ctx) e = cc
  gives side mark (Decided v) es below (Inherits ctx) e = cc
  gives side mark (Decided v) es below (Enters k domain) e = cc
  gives side mark (Decided v) es below (Privileges domain ctx given limits) e = cc
  gives side mark (Kept n) es below (Checks asked ctx) e = cc
  gives side mark (Kept n) es below (ChecksKept asked k) e = cc
  gives side mark (Kept n) es below (Snapshots ctx) e = refl
  gives side mark (Kept n) es below (Inherits ctx) e = refl
  gives side mark (Kept n) es below (Enters k domain) e = cc
  gives side mark (Kept n) es below (Privileges domain ctx given limits) e = cc
  gives side mark (Entered n) es below (Checks asked ctx) e = cc
  gives side mark (Entered n) es below (ChecksKept asked k) e = cc
  gives side mark (Entered n) es below (Snapshots ctx) e = cc
  gives side mark (Entered n) es below (Inherits ctx) e = cc
  gives side mark (Entered n) es below (Enters k domain) e = refl
  gives side mark (Entered n) es below (Privileges domain ctx given limits) e = cc
  gives side mark (Allowed p) es below (Checks asked ctx) e = cc
  gives side mark (Allowed p) es below (ChecksKept asked k) e = cc
  gives side mark (Allowed p) es below (Snapshots ctx) e = cc
  gives side mark (Allowed p) es below (Inherits ctx) e = cc
  gives side mark (Allowed p) es below (Enters k domain) e = cc
  gives side mark (Allowed p) es below (Privileges domain ctx given limits) e = refl

-- ---- the laws

pub stays_law : (M K E : Type 0) → StaysStanding M K E
stays_law M K E old new old_marks new_marks keeps stay s meant e = stays old new old_marks new_marks keeps stay s meant e

module _ {M K E : Type 0} (asks_alike : AsksAlike ℕ (Option K) M (Option E)) (some_asks : AsksAlike K (Option K) E (Option E)) where
  pub known_law : StepKnown M K E
  known_law kept marks side p plan s meant stands ask a = known kept marks s meant stands asks_alike some_asks p plan side ask a

module _ {M K E : Type 0} (opening : OpeningAlike ℕ (Option K) M (Option E)) (some_opening : OpeningAlike K (Option K) E (Option E)) where
  pub opening_law : GuardedOpening M K E
  opening_law kept marks mark rules stand r marked first p main heap =
      opening kept marks r (lifted rules) (marked.side ∙ (agrees rules).side) (λ d. ap marks (marked.marks d) ∙ stand d ∙ (agrees rules).entries d) (first ∙ (agrees rules).first) p main heap
      ∙ sym (some_opening Some Some rules (lifted rules) (agrees rules).side (agrees rules).entries (agrees rules).first p main heap)

module _ {M K E : Type 0}
    (asks_alike : AsksAlike ℕ (Option K) M (Option E)) (some_asks : AsksAlike K (Option K) E (Option E)) (answers : AnswersAlike K (Option K) E (Option E))
    (step_at : StepAlikeAt ℕ (Option K) M (Option E)) (step_alike : StepAlike K (Option K) E (Option E)) where
  module _ (old new : ℕ → Option K) (old_marks new_marks : M → Option E) (keeps : Keeps old new) (stay : Keeps old_marks new_marks)
      (mark : ℕ → M) (rules : Rules K E) (stand : MarksStand new_marks mark rules) (p : Program) (plan : Plan) (s : State ℕ M) (y : State K E) (stands : StandsFor old old_marks s y)
      (given : Answer ℕ M) (answered : (ask : Ask ℕ) → asks rules.side p plan s ≡ Some ask → AnswersFor old new old_marks new_marks rules ask (carried s) s.running.inherited given) where
    abbrev r : Rules ℕ M
    r = answering rules.side mark given

    -- the answer stands for that to what is meant
    means : (ask : Ask ℕ) (meant : Ask K) → asks rules.side p plan s ≡ Some ask → asks rules.side p plan y ≡ Some meant → Answers new new_marks given (answer_in rules y meant)
    means ask meant a b =
        answered ask a meant (carried y) y.running.inherited (ask_stands old old_marks s y stands asks_alike some_asks p plan rules.side ask meant a b)
        (entries_stand old old_marks s y stands) (inherited_stands old old_marks s y stands)

    same_kind : (ask : Ask ℕ) (meant : Ask K) → asks rules.side p plan s ≡ Some ask → asks rules.side p plan y ≡ Some meant → kind ask ≡ answer_kind given
    same_kind ask meant a b =
        sym (kind_map old ask)
        ∙ ap (λ (x : Ask (Option K)). kind x) (ask_stands old old_marks s y stands asks_alike some_asks p plan rules.side ask meant a b)
        ∙ kind_map Some meant
        ∙ sym (answered_kind rules (carried y) y.running.inherited meant)
        ∙ sym (answer_kind_map Some Some (answer_in rules y meant))
        ∙ ap (λ (x : Answer (Option K) (Option E)). answer_kind x) (sym (means ask meant a b))
        ∙ answer_kind_map new new_marks given

    so : (ask : Ask ℕ) (meant : Ask K) → asks rules.side p plan s ≡ Some ask → asks rules.side p plan y ≡ Some meant → answer_in r s ask ≡ given
    so ask meant a b = gives rules.side mark given (carried s) s.running.inherited ask (same_kind ask meant a b)

    found_so : (ask : Ask ℕ) → asks rules.side p plan s ≡ Some ask → answer_in r s ask ≡ given
    found_so ask a = so ask (found ask a).0 a (found ask a).1
      where
        found : (ask : Ask ℕ) → asks rules.side p plan s ≡ Some ask → (meant : Ask K) × (asks rules.side p plan y ≡ Some meant)
        found ask a = found_ask (ask_map old ask) (asks rules.side p plan y) (ap (option_map (ask_map old)) (sym a) ∙ asks_stand old old_marks s y stands asks_alike some_asks p plan rules.side)

    pub step_comes : (o : Outcome (State ℕ M)) → ((r : Rules ℕ M) → AreMarked mark rules r → AnswersSo rules p plan s given r → step r p plan s ≡ o) → ComesTo new new_marks o (step rules p plan y)
    step_comes o by_all =
        ap (λ (x : Outcome (State ℕ M)). outcome_map (state_map new new_marks) x) (sym (by_all r marked found_so))
        ∙ comes asks_alike some_asks answers step_at step_alike new new_marks r rules refl stand p plan s y (stays old new old_marks new_marks keeps stay s y stands)
        (λ ask meant a b. ap (answer_map new new_marks) (so ask meant a b) ∙ means ask meant a b)
      where
        marked : AreMarked mark rules r
        marked = record { side = refl; marks = λ d. refl }

  pub step_law : GuardedStep M K E
  step_law old new old_marks new_marks keeps stay mark rules stand p plan s y stands given answered o by_all =
      step_comes old new old_marks new_marks keeps stay mark rules stand p plan s y stands given answered o by_all
