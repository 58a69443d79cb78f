-- What a call that checks a permission is answered, and comes to.
use Rattle.std.proofs.Common.{◌≡◌, ◌∙◌, ℕ, zero, suc, List, ◌∷◌, map, take, Option, Some, None, refl, sym, ap, subst}
use Rattle.std.specs.Prelude.{option_map}
use Rattle.jperm.specs.declared.permission.Permission as perms
use Rattle.jdomain.specs.declared.verdict.Verdict.{Verdict}
use Rattle.jdomain.specs.declared.verdict.Verdict.TheVariants as verdicts
use Rattle.jlib.specs.declared.calls.LibCall.{LibCall}
use Rattle.jvalues.specs.declared.jops.value.Value.{Value}
use Rattle.jvalues.specs.declared.jops.value.Value.TheVariants.{Int, Long, Ref, Ctx}
use Rattle.joutput.specs.declared.jtrace.event.Event.TheVariants.{Grant}
use Rattle.jsemantics.specs.jmachine.MachineStates.{Act, FrameOf, Goes, Row, null}
use Rattle.jsemantics.specs.jmachine.AccessQueries.{Answer, Ask, Decided, answer_in, carried}
use Rattle.jsemantics.specs.jmachine.Security.{Rules, checked, judged, permission_in}
use Rattle.jsemantics.specs.jmachine.InstructionSites.{Site}
use Rattle.jsemantics.specs.jmachine.MachineSteps.{entries}
use Rattle.jsemantics.specs.jmachine.Store.{Store, object_at, object_of}
use Rattle.jsemantics.specs.jmachine.ThreadTurns.{thread_of}
use Rattle.jguard.specs.NumberMeanings.{AnswersFor, IsKnownIn}
use Rattle.jruntime.specs.declared.jrun.came.Came.{Came}
use Rattle.jruntime.specs.declared.jrun.came.Came.TheVariants as done
use Rattle.jruntime.specs.jstate.FrameLists.{Framed, all}
use Rattle.jlibcalls.specs.declared.jchecks.asking.Asked.{Asked}
use Rattle.jlibcalls.specs.declared.jchecks.asking.Asked.TheVariants as asks
use Rattle.jlibcalls.specs.jchecks.PermissionQueries.{Asks}
use Rattle.jlibcalls.specs.jchecks.PermissionVerdicts.{NothingSteps}
use Rattle.jstepping.specs.declared.jcore.machine.Machine.{Machine}
use Rattle.jstepping.specs.jcore.AnsweredCalls.{Answered, AsksKnown, asked_of, outcome_of}
use Rattle.jstepping.specs.jcore.MachineInvariants.{state_of, store_of}
use Rattle.jruntime.specs.jguests.GuestThreads.{frames_of}
use Rattle.jcalling.specs.declared.jcallcheck.finding.Check.{Check}
use Rattle.jcalling.specs.declared.jcallcheck.finding.CheckSubject.{CheckSubject}
use Rattle.jcalling.specs.declared.jcallcheck.finding.CheckSubject.TheVariants as whom
use Rattle.jcalling.specs.jcallcheck.CheckOutcomes.{ComesBy}
use Rattle.jcalling.specs.jcallcheck.CheckRequests.{Finds, FindsNothing, Found, ask_by, here, row_of, verdict_by}

-- ---- which permission is asked for

-- what a granted check tells of
abbrev told_in : {E : Type 0} → Act ℕ E → Option perms.Permission
told_in (Goes s values (Grant t asked ∷ events)) = Some asked
told_in act = None

abbrev asked_in : {E : Type 0} → Option (Row ℕ E) → Option perms.Permission
asked_in None = None
asked_in (Some row) = told_in row.act

abbrev granted : perms.Permission → Verdict
granted asked = verdicts.Granted

abbrev pub held_as : Asked → Option perms.Permission
held_as asks.Null = None
held_as (asks.Permission asked) = Some asked.now
held_as asks.Stuck = None

module _ (E : Type 0) (at : Site) (s : Store ℕ) where
  of_held : (o : Option perms.Permission) → o ≡ asked_in {E = E} (option_map (λ one. judged s at.thread one verdicts.Granted) o)
  of_held None = refl
  of_held (Some one) = refl

  of_checked : (v : Value ℕ) → permission_in (object_of s v) ≡ asked_in {E = E} (checked at s granted v)
  of_checked (Int x) = refl
  of_checked (Long x) = refl
  of_checked (Ctx x) = refl
  of_checked (Ref zero) = refl
  of_checked (Ref (suc n)) = of_held (permission_in (object_at s (suc n)))

  of_asked : (v : Value ℕ) (one : Asked) → Asks E s v one → asked_in {E = E} (checked at s granted v) ≡ held_as one
  of_asked v asks.Null is = ap (λ (x : Option (Row ℕ E)). asked_in x) (is at granted)
  of_asked v (asks.Permission asked) is = ap (λ (x : Option (Row ℕ E)). asked_in x) (is at granted)
  of_asked v asks.Stuck is = ap (λ (x : Option (Row ℕ E)). asked_in x) (is at granted)

-- by what was found
pub asks_as : (E : Type 0) (s : Store ℕ) (v : Value ℕ) (found one : Asked) → found ≡ one → Asks E s v found → Asks E s v one
asks_as E s v found one is = subst (λ (x : Asked). Asks E s v x) is

-- ---- what is asked of a machine

module _ {E : Type 0} (m : Machine E) (f : Framed E) (call : LibCall) (count : ℕ) (c : Check) (finds : Finds m f call count c) where
  pub asked_is : (one : Asked) → Asks E (store_of m) c.operand one → asked_of m f call count ≡ option_map (ask_by c.whom) (held_as one)
  asked_is one is =
      finds.asked ∙ ap (option_map (ask_by c.whom)) (of_checked E (here m f) (store_of m) c.operand ∙ of_asked E (here m f) (store_of m) c.operand one is)

  -- a permission that is found is asked for
  pub asks_it : (one : Asked) (asked : perms.Permission) → Asks E (store_of m) c.operand one → held_as one ≡ Some asked
      → asked_of m f call count ≡ Some (ask_by c.whom asked)
  asks_it one asked is held = asked_is one is ∙ ap (option_map (ask_by c.whom)) held

  -- what is asked for was given by whoever is asked, where that is so of what the call asks
  pub known_ask : {M K : Type 0} (kept : ℕ → Option K) (marks : E → Option M) (one : Asked) (asked : perms.Permission) → Asks E (store_of m) c.operand one
      → held_as one ≡ Some asked → AsksKnown kept marks m (asked_of m f call count) → IsKnownIn kept marks (state_of m) (ask_by c.whom asked)
  known_ask kept marks one asked is held known = known (ask_by c.whom asked) (asks_it one asked is held)

  -- where a permission is found, something is asked
  pub asks_some : (one : Asked) (asked : perms.Permission) → Asks E (store_of m) c.operand one → held_as one ≡ Some asked → asked_of m f call count ≡ None → ⊥
  asks_some one asked is held none = let e : Some (ask_by c.whom asked) ≡ None = sym (asks_it one asked is held) ∙ none in cc

  abbrev verdict : Rules ℕ E → perms.Permission → Verdict
  verdict r one = verdict_by r (entries r m.calls m.plan.now (state_of m) (all f)) m.guests.running.inherited c.whom one

  pub null_row : Asks E (store_of m) c.operand asks.Null → (r : Rules ℕ E) → row_of m f call r (take count f.newest.operands) ≡ Some null
  null_row is r = finds.row r ∙ is (here m f) (λ one. verdict r one)

  pub none_row : Asks E (store_of m) c.operand asks.Stuck → (r : Rules ℕ E) → row_of m f call r (take count f.newest.operands) ≡ None
  none_row is r = finds.row r ∙ is (here m f) (λ one. verdict r one)

abbrev decision : {E : Type 0} → Answer ℕ E → Verdict
decision (Decided v) = v
decision given = verdicts.Granted

-- what rules answer is their verdict
verdict_is : {E : Type 0} (m : Machine E) (f : Framed E) (to : CheckSubject) (one : perms.Permission) (v : Verdict) (r : Rules ℕ E) → m.guests.running.frames ≡ Some f
    → answer_in r (state_of m) (ask_by to one) ≡ Decided v → verdict_by r (entries r m.calls m.plan.now (state_of m) (all f)) m.guests.running.inherited to one ≡ v
verdict_is {E} m f (whom.Thread ctx) one v r runs is =
    let es : Option (Framed E) → List E = λ o. map (λ (g : FrameOf ℕ E). g.entry) (frames_of o) in
    ap (λ o. r.check one ctx (es o) m.guests.running.inherited) (sym runs) ∙ ap (λ (x : Answer ℕ E). decision x) is
verdict_is {E} m f (whom.Kept number) one v r runs is = ap (λ (x : Answer ℕ E). decision x) is

module _ {M K E : Type 0} (old new : ℕ → Option K) (old_marks new_marks : M → Option E) (rules : Rules K E) (m n : Machine M) (f : Framed M) (call : LibCall) (count : ℕ)
    (came : Came) (runs : m.guests.running.frames ≡ Some f) where
  abbrev IsAnswered : Type 0
  IsAnswered = Answered old new old_marks new_marks rules m (asked_of m f call count) (outcome_of m f call count) came n

  -- where nothing is asked
  pub quiet : (does : Option (Row ℕ M)) → asked_of m f call count ≡ None → ((r : Rules ℕ M) → row_of m f call r (take count f.newest.operands) ≡ does)
      → ComesBy m count does came n → IsAnswered
  quiet does none rows comes = record {
    given = Decided verdicts.Granted;
    answers = λ ask is. absurd (let e : None ≡ Some ask = sym none ∙ is in cc);
    comes = let c = comes f runs in record {
      over = c.0;
      comes = λ r marked so. c.1 r (row_of m f call r) marked (rows r);
    };
  }

  -- where a permission is
  module _ (c : Check) (finds : Finds m f call count c) (asked : perms.Permission) (v : Verdict) where
    pub decided : (one : Asked) → Asks M (store_of m) c.operand one → held_as one ≡ Some asked
        → AnswersFor old new old_marks new_marks rules (ask_by c.whom asked) (carried (state_of m)) m.guests.running.inherited (Decided v)
        → ComesBy m count (Some (judged (store_of m) (thread_of (state_of m)) asked v)) came n → IsAnswered
    decided one is held answers comes =
        let some : asked_of m f call count ≡ Some (ask_by c.whom asked) = asked_is m f call count c finds one is ∙ ap (option_map (ask_by c.whom)) held in record {
          given = Decided v;
          answers = λ ask at.
              let e : ask_by c.whom asked ≡ ask = (let both : Some (ask_by c.whom asked) ≡ Some ask = sym some ∙ at in cc) in
              subst (λ (x : Ask ℕ). AnswersFor old new old_marks new_marks rules x (carried (state_of m)) m.guests.running.inherited (Decided v)) e answers;
          comes = let came = comes f runs in record {
            over = came.0;
            comes = λ r marked so. came.1 r (row_of m f call r) marked (row_is one is held r (so (ask_by c.whom asked) some));
          };
        }
      where
        row_is : (one : Asked) → Asks M (store_of m) c.operand one → held_as one ≡ Some asked → (r : Rules ℕ M) → answer_in r (state_of m) (ask_by c.whom asked) ≡ Decided v
            → row_of m f call r (take count f.newest.operands) ≡ Some (judged (store_of m) (thread_of (state_of m)) asked v)
        row_is asks.Null is held r so = absurd cc
        row_is asks.Stuck is held r so = absurd cc
        row_is (asks.Permission one) is held r so =
            let same : one.now ≡ asked = cc in
            finds.row r ∙ is (here m f) (λ x. verdict m f call count c finds r x)
            ∙ ap (λ x. Some (judged (store_of m) (thread_of (state_of m)) x (verdict m f call count c finds r x))) same
            ∙ ap (λ x. Some (judged (store_of m) (thread_of (state_of m)) asked x)) (verdict_is m f c.whom asked v r runs so)

-- a call without a row has no step
pub stuck_comes : {E : Type 0} → NothingSteps E → (m : Machine E) (count : ℕ) → ComesBy m count None done.Stuck m
stuck_comes nothing m count f runs = (state_of m, λ r row rules does. nothing r m.calls m.plan.now (state_of m) f count row does)

pub nothing_answered : {M K E : Type 0} (old new : ℕ → Option K) (old_marks new_marks : M → Option E) (rules : Rules K E) (m : Machine M) (f : Framed M) (call : LibCall) (count : ℕ)
    → m.guests.running.frames ≡ Some f → NothingSteps M → FindsNothing m f call count
    → Answered old new old_marks new_marks rules m (asked_of m f call count) (outcome_of m f call count) done.Stuck m
nothing_answered old new old_marks new_marks rules m f call count runs nothing finds =
    quiet old new old_marks new_marks rules m m f call count done.Stuck runs None finds.asked finds.row (stuck_comes nothing m count)

pub found_as : {E : Type 0} (m : Machine E) (call : LibCall) (count : ℕ) (found one : Option Check) → found ≡ one → Found m call count found → Found m call count one
found_as m call count found one is = subst (λ (o : Option Check). Found m call count o) is
