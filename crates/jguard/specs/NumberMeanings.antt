-- What numbers and marks stand for, and what asks, answers, states and outcomes by numbers stand for.
use Rattle.std.specs.Prelude.{◌≡◌, List, map, Option, Some, None, option_map}
use Rattle.jsemantics.specs.jmachine.MachineStates.{Outcome, State}
use Rattle.jsemantics.specs.jmachine.AccessQueries.{Ask, Answer, answer, answer_map, ask_map, carried}
use Rattle.jsemantics.specs.jmachine.StateMaps.{outcome_map, state_map}
use Rattle.jsemantics.specs.jmachine.Security.{Rules}

-- what was given keeps what it stands for
abbrev pub Keeps : {N K : Type 0} → (N → Option K) → (N → Option K) → Type 0
Keeps {N} {K} old new = (n : N) (k : K) → old n ≡ Some k → new n ≡ Some k

-- ---- what stands for what

-- a number, if there is one, stands for a value
abbrev pub IsThat : {N K : Type 0} → (N → Option K) → Option N → Option K → Type 0
IsThat f n k = option_map f n ≡ option_map Some k

abbrev pub AreThose : {N K : Type 0} → (N → Option K) → List N → List K → Type 0
AreThose f ns ks = map f ns ≡ map Some ks

-- an ask by numbers is an ask about these values
abbrev pub Asks : {N K : Type 0} → (N → Option K) → Ask N → Ask K → Type 0
Asks f ask meant = ask_map f ask ≡ ask_map Some meant

-- an answer by numbers is the answer with these values
abbrev pub Answers : {N M K E : Type 0} → (N → Option K) → (M → Option E) → Answer N M → Answer K E → Type 0
Answers f g given meant = answer_map f g given ≡ answer_map Some Some meant

abbrev pub StandsFor : {N M K E : Type 0} → (N → Option K) → (M → Option E) → State N M → State K E → Type 0
StandsFor f g s meant = state_map f g s ≡ state_map Some Some meant

abbrev pub ComesTo : {N M K E : Type 0} → (N → Option K) → (M → Option E) → Outcome (State N M) → Outcome (State K E) → Type 0
ComesTo f g o meant = outcome_map (state_map f g) o ≡ outcome_map (state_map Some Some) meant

-- ---- what was given

abbrev pub IsKnown : {N K : Type 0} → (N → Option K) → Option N → Type 0
IsKnown {N} {K} f n = (k : Option K) × IsThat f n k

abbrev pub AreKnown : {N K : Type 0} → (N → Option K) → List N → Type 0
AreKnown {N} {K} f ns = (ks : List K) × AreThose f ns ks

abbrev pub IsAskKnown : {N K : Type 0} → (N → Option K) → Ask N → Type 0
IsAskKnown {N} {K} f ask = (meant : Ask K) × Asks f ask meant

-- of an ask of a state's running thread, of its frames' marks, and of what it inherited
pub record IsKnownIn {N M K E : Type 0} (f : N → Option K) (g : M → Option E) (s : State N M) (ask : Ask N) : Type 0 where
  pub numbers : IsAskKnown f ask
  pub marks : AreKnown g (carried s)
  pub inherited : IsKnown f s.running.inherited

-- ---- answers

-- An answer by numbers is what rules answer to an ask, whatever its numbers, the frames' marks, the newest first, and what the thread
-- inherited stand for. Numbers may be given meanwhile.
abbrev pub AnswersFor : {N M K E : Type 0} → (N → Option K) → (N → Option K) → (M → Option E) → (M → Option E) → Rules K E → Ask N → List M
    → Option N → Answer N M → Type 0
AnswersFor {N} {M} {K} {E} old new old_marks new_marks rules ask marks inherited given =
    (meant : Ask K) (entries : List E) (below : Option K) → Asks old ask meant → AreThose old_marks marks entries → IsThat old inherited below
    → Answers new new_marks given (answer rules entries below meant)

-- ---- what an ask makes of whoever is asked

-- Whoever is asked was asked this, once, and nothing else became of it; or, where nothing is asked, it is as before.
abbrev pub AskedOnce : {S N : Type 0} → (S → Ask N → S → Type 0) → S → S → Option (Ask N) → Type 0
AskedOnce asked old new None = new ≡ old
AskedOnce asked old new (Some ask) = asked old ask new
