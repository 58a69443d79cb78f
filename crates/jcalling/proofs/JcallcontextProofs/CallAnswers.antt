-- What a call is answered, and comes to.
use Rattle.std.proofs.Common.{◌≡◌, ◌∙◌, ℕ, ◌∷◌, [], Option, Some, None, sym, ap, subst}
use Rattle.jdomain.specs.declared.verdict.Verdict.TheVariants as verdicts
use Rattle.jlib.specs.declared.calls.LibCall.{LibCall}
use Rattle.jlib.specs.declared.calls.LibCall.TheVariants as calls
use Rattle.jlib.specs.declared.calls.RtCall.TheVariants as rt
use Rattle.jvalues.specs.declared.jops.value.Value.TheVariants.{Ctx}
use Rattle.jsemantics.specs.jmachine.MachineStates.{Row, gives}
use Rattle.jsemantics.specs.jmachine.AccessQueries.{Allowed, Answer, Ask, Decided, Entered, Enters, Kept, Snapshots, answer_in, carried}
use Rattle.jsemantics.specs.jmachine.AccessCallRows.{context_made}
use Rattle.jsemantics.specs.jmachine.Security.{Rules}
use Rattle.jguard.specs.NumberMeanings.{AnswersFor, IsKnownIn}
use Rattle.jruntime.specs.declared.jrun.came.Came.{Came}
use Rattle.jruntime.specs.declared.jrun.came.Came.TheVariants as done
use Rattle.jruntime.specs.jstate.FrameLists.{Framed}
use Rattle.jlibcalls.specs.jchecks.PermissionVerdicts.{NothingSteps}
use Rattle.jlibcalls.specs.declared.jcontexts.entering.Entering.{Entering}
use Rattle.jstepping.specs.declared.jcore.machine.Machine.{Machine}
use Rattle.jstepping.specs.jcore.AnsweredCalls.{Answered, Calling, asked_of, outcome_of}
use Rattle.jstepping.specs.jcore.MachineOutcomes.{any}
use Rattle.jstepping.specs.jcore.MachineInvariants.{AreRules, state_of, store_of}
use Rattle.jcalling.specs.jcallcontext.ContextRequests.{FoundEntering, FoundSnapshot}
use Rattle.jcalling.specs.jcallcontext.ContextCallRows.{CallAnswered, CallKnown, CallQuiet, ComesBy, IsAsking, row_of}

-- a call without a row has no step
pub stuck_comes : {E : Type 0} → NothingSteps E → (m : Machine E) (count : ℕ) → ComesBy m count any None done.Stuck m
stuck_comes nothing m count f runs = (state_of m, λ r row marked so does. nothing r m.calls m.plan.now (state_of m) f count row does)

-- what an answer names
abbrev number_in : {E : Type 0} → Answer ℕ E → ℕ
number_in (Decided v) = 0
number_in (Kept n) = n
number_in (Entered n) = n
number_in (Allowed p) = 0

module _ {M K E : Type 0} (old new : ℕ → Option K) (old_marks new_marks : M → Option E) (rules : Rules K E) (m n : Machine M) (call : LibCall) (count : ℕ) (came : Came) where
  abbrev pub IsAnswered : Framed M → Type 0
  IsAnswered f = Answered old new old_marks new_marks rules m (asked_of m f call count) (outcome_of m f call count) came n

  abbrev pub Gave : Ask ℕ → Answer ℕ M → Type 0
  Gave ask given = AnswersFor old new old_marks new_marks rules ask (carried (state_of m)) m.guests.running.inherited given

  -- where nothing is asked
  pub quiet : (does : Option (Row ℕ M)) → ComesBy m count any does came n
      → ((f : Framed M) → m.guests.running.frames ≡ Some f → IsAsking m f call count None (λ r. does)) → CallAnswered old new old_marks new_marks rules m call count came n
  quiet does comes is f runs = record {
    given = Decided verdicts.Granted;
    answers = λ ask at. absurd (let asked = (is f runs).asked in let e : None ≡ Some ask = sym asked ∙ at in cc);
    comes = let c = comes f runs in record {
      over = c.0;
      comes = λ r marked so. c.1 r (row_of m f call r) marked tt ((is f runs).row r marked);
    };
  }

  -- where something is
  pub answered : (ask : Ask ℕ) (given : Answer ℕ M) (like : Rules ℕ M → Type 0) (does : Option (Row ℕ M)) (by : Rules ℕ M → Option (Row ℕ M)) → Gave ask given
      → ComesBy m count like does came n → ((r : Rules ℕ M) → AreRules m r → answer_in r (state_of m) ask ≡ given → like r × (by r ≡ does))
      → (f : Framed M) → m.guests.running.frames ≡ Some f → IsAsking m f call count (Some ask) by → IsAnswered f
  answered ask given like does by gave comes so f runs is = record {
    given = given;
    answers = λ other at.
        let asked = is.asked in
        let e : ask ≡ other = (let both : Some ask ≡ Some other = sym asked ∙ at in cc) in
        subst (λ (x : Ask ℕ). Gave x given) e gave;
    comes = let c = comes f runs in record {
      over = c.0;
      comes = λ r marked answers.
          let these = so r marked (answers ask is.asked) in
          c.1 r (row_of m f call r) marked these.0 (is.row r marked ∙ these.1);
    };
  }

  pub snapshot_answered : (ctx : Option ℕ) (number : ℕ) → FoundSnapshot m call count (Some ctx) → Gave (Snapshots ctx) (Kept number)
      → ComesBy m count any (Some (context_made (store_of m) number)) came n → CallAnswered old new old_marks new_marks rules m call count came n
  snapshot_answered ctx number found gave comes f runs =
      let by : Rules ℕ M → Option (Row ℕ M) = λ r. Some (context_made (store_of m) (r.snapshot ctx (carried (state_of m)) m.guests.running.inherited)) in
      answered (Snapshots ctx) (Kept number) any (Some (context_made (store_of m) number)) by gave comes
      (λ r marked is. (tt, ap (λ (x : Answer ℕ M). Some (context_made (store_of m) (number_in x))) is)) f runs (found f runs)

pub entering_answered : {M K E : Type 0} (old new : ℕ → Option K) (old_marks new_marks : M → Option E) (rules : Rules K E) (m n : Machine M) (count : ℕ) (came : Came)
    (one : Entering) (number : ℕ) → FoundEntering m count (Some one)
    → AnswersFor old new old_marks new_marks rules (Enters one.ctx one.domain) (carried (state_of m)) m.guests.running.inherited (Entered number)
    → ComesBy m count any (Some (gives (store_of m) (Ctx number ∷ []))) came n → CallAnswered old new old_marks new_marks rules m (calls.Rt rt.Enter) count came n
entering_answered {M} old new old_marks new_marks rules m n count came one number found gave comes f runs =
    let by : Rules ℕ M → Option (Row ℕ M) = λ r. Some (gives (store_of m) (Ctx (r.enter one.ctx one.domain) ∷ [])) in
    answered old new old_marks new_marks rules m n (calls.Rt rt.Enter) count came (Enters one.ctx one.domain) (Entered number) any
    (Some (gives (store_of m) (Ctx number ∷ []))) by gave comes
    (λ r marked is. (tt, ap (λ (x : Answer ℕ M). Some (gives (store_of m) (Ctx (number_in x) ∷ []))) is)) f runs (found f runs)

-- a call that asks nothing and has no row
pub none_answered : {M K E : Type 0} (old new : ℕ → Option K) (old_marks new_marks : M → Option E) (rules : Rules K E) (m : Machine M) (call : LibCall) (count : ℕ)
    → NothingSteps M → ((f : Framed M) → m.guests.running.frames ≡ Some f → IsAsking m f call count None (λ r. None))
    → CallAnswered old new old_marks new_marks rules m call count done.Stuck m
none_answered old new old_marks new_marks rules m call count nothing found =
    quiet old new old_marks new_marks rules m m call count done.Stuck None (stuck_comes nothing m count) found

-- by what was found
pub snapshot_as : {E : Type 0} (m : Machine E) (call : LibCall) (count : ℕ) (found one : Option (Option ℕ)) → found ≡ one → FoundSnapshot m call count found
    → FoundSnapshot m call count one
snapshot_as m call count found one is = subst (λ (x : Option (Option ℕ)). FoundSnapshot m call count x) is

pub entering_as : {E : Type 0} (m : Machine E) (count : ℕ) (found one : Option Entering) → found ≡ one → FoundEntering m count found → FoundEntering m count one
entering_as m count found one is = subst (λ (x : Option Entering). FoundEntering m count x) is

-- what is asked was given by whoever is asked
module _ {M K E : Type 0} (kept : ℕ → Option K) (entry : M → Option E) (m : Machine M) (count : ℕ) (calling : Calling m count) where
  pub known_snapshot : (call : LibCall) (ctx : Option ℕ) → FoundSnapshot m call count (Some ctx) → CallKnown kept entry m call count
      → IsKnownIn kept entry (state_of m) (Snapshots ctx)
  known_snapshot call ctx found known = known calling.frames calling.runs (Snapshots ctx) (found calling.frames calling.runs).asked

  pub known_entering : (one : Entering) → FoundEntering m count (Some one) → CallKnown kept entry m (calls.Rt rt.Enter) count
      → IsKnownIn kept entry (state_of m) (Enters one.ctx one.domain)
  known_entering one found known = known calling.frames calling.runs (Enters one.ctx one.domain) (found calling.frames calling.runs).asked

-- a call that asks something is none of those that ask nothing
pub some_quiet : {M S : Type 0} (m : Machine M) (call : LibCall) (count : ℕ) (ask : Ask ℕ) (old new : S)
    → ((f : Framed M) → m.guests.running.frames ≡ Some f → asked_of m f call count ≡ Some ask) → CallQuiet m call count old new
some_quiet m call count ask old new is f runs none = absurd (let e : Some ask ≡ None = sym (is f runs) ∙ none in cc)

module _ {M S : Type 0} (m : Machine M) (count : ℕ) (old new : S) where
  pub snapshot_quiet : (call : LibCall) (ctx : Option ℕ) → FoundSnapshot m call count (Some ctx) → CallQuiet m call count old new
  snapshot_quiet call ctx found = some_quiet m call count (Snapshots ctx) old new (λ f runs. (found f runs).asked)

  pub entering_quiet : (one : Entering) → FoundEntering m count (Some one) → CallQuiet m (calls.Rt rt.Enter) count old new
  entering_quiet one found = some_quiet m (calls.Rt rt.Enter) count (Enters one.ctx one.domain) old new (λ f runs. (found f runs).asked)
