-- Two machines, of which the one takes several steps for each of the other: what a run of the slower one tells, and in how many steps.
use Rattle.std.specs.Prelude.{◌≡◌, ◌<◌, ◌≤◌, ◌+◌, ◌*◌, ℕ, zero, suc, List, [], ◌++◌, Some, None}
use Rattle.joutput.specs.declared.jtrace.event.Event.{Event}
use Rattle.joutput.specs.declared.jtrace.event.End.{End}
use Rattle.jsemantics.specs.jmachine.MachineStates.{Outcome, Went, Over, NoStep}
use Rattle.jsemantics.specs.jmachine.RunTraces.{Run, run_from}

-- ---- some steps

-- a run that goes on, and has told this
abbrev pub going : {S : Type 0} → List Event → S → Run S
going told s = record { state = s; events = told; end = None }

-- it goes on, and has told no more than this
pub record IsSilent {S : Type 0} (told : List Event) (r : Run S) : Type 0 where
  pub events : r.events ≡ told
  pub goes : r.end ≡ None

-- it has ended, and has told this
pub record HasEnded {S : Type 0} (told : List Event) (end : End) (r : Run S) : Type 0 where
  pub events : r.events ≡ told
  pub ends : r.end ≡ Some end

-- in j steps, which tell nothing before the last, one state comes to another
pub record Leads {T : Type 0} (step : T → Outcome T) (j : ℕ) (t : T) (events : List Event) (u : T) : Type 0 where
  pub before : (i : ℕ) → i < j → (told : List Event) → IsSilent told (run_from step i (going told t))
  pub comes : (told : List Event) → run_from step j (going told t) ≡ going (told ++ events) u

-- in j steps, which tell nothing before the last, the run ends
pub record LeadsOut {T : Type 0} (step : T → Outcome T) (j : ℕ) (t : T) (events : List Event) (end : End) : Type 0 where
  pub before : (i : ℕ) → i < j → (told : List Event) → IsSilent told (run_from step i (going told t))
  pub comes : (told : List Event) → HasEnded (told ++ events) end (run_from step j (going told t))

-- What the slower machine does for a step of the other: 1 to so many steps, to a state that stands for the one to which that came, or to the
-- same end. Where the other is stuck nothing is said.
abbrev pub Answers : {S T : Type 0} → (S → T → Type 0) → (T → Outcome T) → ℕ → Outcome S → T → Type 0
Answers R step most (Went s events) t = (j : ℕ) × (0 < j) × (j ≤ most) × (u : _) × Leads step j t events u × R s u
Answers R step most (Over s events end) t = (j : ℕ) × (0 < j) × (j ≤ most) × LeadsOut step j t events end
Answers R step most NoStep t = Unit {0}

-- each step of the one is answered by the other
abbrev pub Follows : {S T : Type 0} → (S → T → Type 0) → (S → Outcome S) → (T → Outcome T) → ℕ → Type 0
Follows {S} {T} R fast slow most = (s : S) (t : T) → R s t → Answers R slow most (fast s) t

-- The same where it is known how many steps these are.
abbrev pub AnswersIn : {S T : Type 0} → (S → T → Type 0) → (T → Outcome T) → ℕ → Outcome S → T → Type 0
AnswersIn R step j (Went s events) t = (u : _) × Leads step j t events u × R s u
AnswersIn R step j (Over s events end) t = LeadsOut step j t events end
AnswersIn R step j NoStep t = Unit {0}

-- each step of the one is answered by as many as `count` says, by its state and by what its step comes to
abbrev pub FollowsIn : {S T : Type 0} → (S → T → Type 0) → (S → Outcome S) → (T → Outcome T) → (S → Outcome S → ℕ) → Type 0
FollowsIn {S} {T} R fast slow count = (s : S) (t : T) → R s t → AnswersIn R slow (count s (fast s)) (fast s) t

-- ---- whole runs

-- it has ended, or its state has a step
abbrev pub HasStep : {S : Type 0} → (S → Outcome S) → Run S → Type 0
HasStep step r = r.end ≡ None → step r.state ≡ NoStep → ⊥

-- so many steps of it are steps: it isn't stuck before
abbrev pub IsUnstuck : {S : Type 0} → (S → Outcome S) → Run S → ℕ → Type 0
IsUnstuck step r n = (k : ℕ) → k < n → HasStep step (run_from step k r)

-- after m steps the slower machine has told what the other has told after some k, and has ended as that, or m is near
pub record Keeps {S T : Type 0} (fast : S → Outcome S) (slow : T → Outcome T) (most : ℕ) (r : Run S) (q : Run T) (m : ℕ) : Type 0 where
  pub k : ℕ
  pub within : k ≤ m
  pub events : (run_from slow m q).events ≡ (run_from fast k r).events
  pub end : (run_from slow m q).end ≡ (run_from fast k r).end
  pub near : (run_from fast k r).end ≡ None → m < most * (k + 1)

-- where the one has ended after n steps, the other has told the same and ended alike after no more than so many times n
pub record Ends {S T : Type 0} (fast : S → Outcome S) (slow : T → Outcome T) (most : ℕ) (r : Run S) (q : Run T) (n : ℕ) : Type 0 where
  pub j : ℕ
  pub within : j ≤ most * n
  pub events : (run_from slow j q).events ≡ (run_from fast n r).events
  pub end : (run_from slow j q).end ≡ (run_from fast n r).end

-- ---- laws, for any way in which states stand for one another

-- The slower machine tells what the other tells, and nothing else.
abbrev pub KeepsAll : {S T : Type 0} → (S → T → Type 0) → Type 0
KeepsAll {S} {T} R = (fast : S → Outcome S) (slow : T → Outcome T) (most : ℕ) → 0 < most → Follows R fast slow most
    → (m : ℕ) (told : List Event) (s : S) (t : T) → R s t → IsUnstuck fast (going told s) m → Keeps fast slow most (going told s) (going told t) m

-- What the other tells until it ends, it tells too.
abbrev pub EndsAll : {S T : Type 0} → (S → T → Type 0) → Type 0
EndsAll {S} {T} R = (fast : S → Outcome S) (slow : T → Outcome T) (most : ℕ) → Follows R fast slow most
    → (n : ℕ) (told : List Event) (s : S) (t : T) (end : End) → R s t → (run_from fast n (going told s)).end ≡ Some end
    → IsUnstuck fast (going told s) n
    → Ends fast slow most (going told s) (going told t) n

-- ---- behind a lead

-- the same of a run of the slower machine that first takes some steps of its own
pub record KeepsBehind {S T : Type 0} (fast : S → Outcome S) (slow : T → Outcome T) (most lead : ℕ) (r : Run S) (q : Run T) (m : ℕ) : Type 0 where
  pub k : ℕ
  pub within : k ≤ m
  pub events : (run_from slow m q).events ≡ (run_from fast k r).events
  pub end : (run_from slow m q).end ≡ (run_from fast k r).end
  pub near : (run_from fast k r).end ≡ None → m < lead + most * (k + 1)

-- after m steps the slower machine has told what the other has told after n, and has ended alike
pub record Same {S T : Type 0} (fast : S → Outcome S) (slow : T → Outcome T) (r : Run S) (q : Run T) (n m : ℕ) : Type 0 where
  pub events : (run_from slow m q).events ≡ (run_from fast n r).events
  pub end : (run_from slow m q).end ≡ (run_from fast n r).end

-- Where the slower machine comes in some steps, which tell nothing, to a state that stands for the other's, both laws hold with so many more.
abbrev pub KeepsBehindAll : {S T : Type 0} → (S → T → Type 0) → Type 0
KeepsBehindAll {S} {T} R = (fast : S → Outcome S) (slow : T → Outcome T) (most : ℕ) → 0 < most → Follows R fast slow most
    → (lead m : ℕ) (told : List Event) (s : S) (t u : T) → Leads slow lead t [] u → R s u → IsUnstuck fast (going told s) m
    → KeepsBehind fast slow most lead (going told s) (going told t) m

abbrev pub EndsBehindAll : {S T : Type 0} → (S → T → Type 0) → Type 0
EndsBehindAll {S} {T} R = (fast : S → Outcome S) (slow : T → Outcome T) (most : ℕ) → Follows R fast slow most
    → (lead n m : ℕ) (told : List Event) (s : S) (t u : T) (end : End) → Leads slow lead t [] u → R s u
    → (run_from fast n (going told s)).end ≡ Some end → IsUnstuck fast (going told s) n → lead + most * n ≤ m
    → Same fast slow (going told s) (going told t) n m

-- ---- counted runs

-- how many steps of the slower machine answer the first k of the other, where `count` says how many answer each
abbrev pub counted : {S : Type 0} → (S → Outcome S) → (S → Outcome S → ℕ) → ℕ → S → ℕ
counted fast count zero s = 0
counted fast count (suc k) s = count s (fast s) + (elim (fast s) [ Went t events ↦ counted fast count k t | _ ↦ 0 ])

-- After these both have told the same, and ended alike.
abbrev pub CountsAll : {S T : Type 0} → (S → T → Type 0) → Type 0
CountsAll {S} {T} R = (fast : S → Outcome S) (slow : T → Outcome T) (count : S → Outcome S → ℕ) → FollowsIn R fast slow count
    → (k : ℕ) (told : List Event) (s : S) (t : T) → R s t → IsUnstuck fast (going told s) k
    → Same fast slow (going told s) (going told t) k (counted fast count k s)
