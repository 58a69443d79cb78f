-- What a step comes to whose call checks a permission.
use Rattle.std.proofs.Common.{◌≡◌, ◌∙◌, ℕ, List, [], ◌∷◌, drop, take, Option, Some, refl, sym, ap, ap₂, subst}
use Rattle.std.specs.List.{AllByRecursion}
use Rattle.jperm.specs.declared.permission.Permission as perms
use Rattle.jdomain.specs.declared.verdict.Verdict.{Verdict}
use Rattle.jdomain.specs.declared.verdict.Verdict.TheVariants as verdicts
use Rattle.jmemory.specs.jheap.Heaps.{Heaped}
use Rattle.jlib.specs.declared.classes.LibClass.TheVariants as lib
use Rattle.jlib.specs.declared.classes.Thrown.TheVariants as thrown
use Rattle.jresolution.specs.declared.jprogram.member.MethodId.{MethodId}
use Rattle.jresolution.specs.declared.jprogram.part.ClassRef.{ClassRef}
use Rattle.jresolution.specs.jprogram.ProgramClasses.{Program}
use Rattle.joutput.specs.declared.jtrace.event.Event.{Event}
use Rattle.joutput.specs.declared.jtrace.event.Event.TheVariants.{Deny, Grant}
use Rattle.jsemantics.specs.jmachine.MachineStates.{Outcome, State, Went, null}
use Rattle.jsemantics.specs.jmachine.Security.{Rules, judged}
use Rattle.jsemantics.specs.jmachine.Store.{Store}
use Rattle.jsemantics.specs.jmachine.ThreadTurns.{thread_of}
use Rattle.jsemantics.specs.jmachine.Unwinding.{handler_at}
use Rattle.jruntime.specs.declared.jrun.came.Came.{Came}
use Rattle.jruntime.specs.declared.jrun.came.Came.TheVariants as done
use Rattle.jruntime.specs.jstate.FrameLists.{Framed, all, holding}
use Rattle.jrows.specs.declared.jcalls.raising.Raised.{Raised}
use Rattle.jrows.specs.declared.jcalls.raising.Raised.TheVariants as raiseds
use Rattle.jrows.specs.jcalls.MethodCalls.{stepped}
use Rattle.jrows.specs.jcalls.FrameMarks.{AreStanding, Stand}
use Rattle.jrows.specs.jcalls.Throws.{LeavesStanding, RaisedAs, Raises, raising}
use Rattle.jrows.specs.jcalls.Unwinds.{IsTold}
use Rattle.jserving.specs.jinvoke.HandlerLookUps.{Told}
use Rattle.jruntime.specs.jguests.GuestThreads.{AreGuests, RunsAs}
use Rattle.jlibcalls.specs.declared.jchecks.judging.Judged.{Judged}
use Rattle.jlibcalls.specs.declared.jchecks.judging.Judged.TheVariants as ways
use Rattle.jlibcalls.specs.jchecks.PermissionVerdicts as checks
use Rattle.jlibcalls.specs.jchecks.PermissionVerdicts.{JudgedAs, NullRaises, denied_type}
use Rattle.jstepping.specs.jstep.StepRelation.{type_of}
use Rattle.jstepping.specs.declared.jcore.machine.Machine.{Machine}
use Rattle.jstepping.specs.jcore.MachineOutcomes.{HandledStand, SettlesRaised}
use Rattle.jstepping.specs.jcore.MachineInvariants.{AreRules, IsReady, StaysFixed, classes_of, state_of, store_of, things_of}
use Rattle.jstepping.proofs.JcoreProofs.StepOutcomes.{number_is}
use Rattle.jcalling.specs.jcallcheck.CheckOutcomes.{Changed, ComesBy, JudgedOn, Judges, NullRaisedOn, RaisesNull, denied_class, event_by, null_class, with_run}
use Rattle.jcalling.proofs.JcallcheckProofs.InvariantPreservation.{behind}

-- ---- what was done to the frames

same_frames : {A : Type 0} (o : Option A) (x y : A) → o ≡ Some x → o ≡ Some y → x ≡ y
same_frames o x y a b = let e : Some x ≡ Some y = sym a ∙ b in cc

-- where frames go on is told by the machine's program
abbrev goes_by : Program → ClassRef → MethodId → ℕ → Option ℕ
goes_by q class = handler_at q (type_of q class)

are_told : {E : Type 0} → Told E → (p q : Program) (class : ClassRef) (f : Framed E) → q ≡ p → AllByRecursion (IsTold p (type_of p class) (λ m i. goes_by q class m i)) (all f)
are_told {E} told p q class f same =
    subst (λ (x : Program). AllByRecursion (IsTold p (type_of p class) (λ m i. goes_by x class m i)) (all f)) (sym same) (told p (type_of p class) (all f))

-- fewer operands change nothing of how frames stand
pub stand_without : {E : Type 0} (count : ℕ) (f u : Framed E) (classes : ℕ) → u ≡ holding (drop count f.newest.operands) f → Stand classes (all f) → Stand classes (all u)
stand_without {E} count f u classes is s =
    subst (λ (v : Framed E). Stand classes (all v)) (sym is) (record { class = s.0.class; place = s.0.place }, s.1)

pub leaves_without : {E : Type 0} (count : ℕ) (f u g : Framed E) → u ≡ holding (drop count f.newest.operands) f → LeavesStanding u g → LeavesStanding f g
leaves_without count f u g is leaves classes s = leaves classes (stand_without count f u classes is s)

module _ {E : Type 0} (m : Machine E) (q : Program) (told : Told E) (known : q ≡ m.calls) (f g : Framed E) (k : Heaped) (count : ℕ) (runs : m.guests.running.frames ≡ Some f) where
  abbrev behind_it : Store ℕ
  behind_it = store_of (with_run g k m)

  pub judged_on : (asked : perms.Permission) (verdict : Verdict) (way : Judged)
      → checks.Judges m.fixed.marks.now (λ i j. goes_by q denied_class i j) asked verdict count f m.heap way g k → Judges m asked verdict count way g k
  judged_on asked verdict way judges h r row at rules does =
      let same = same_frames m.guests.running.frames f h runs at in
      let J : Framed E → Type 0 = λ x. row (take count x.newest.operands) ≡ Some (judged (store_of m) (thread_of (state_of m)) asked verdict) in
      let P : Framed E → Type 0 = λ x. JudgedAs r m.calls m.plan.now (state_of m) asked verdict way g behind_it (stepped r m.calls m.plan.now (state_of m) x count row) in
      subst P same (judges r m.calls m.plan.now (state_of m) m.fixed.shapes.now (things_of m) m.constants.constants row rules.marks refl
      (are_told told m.calls q denied_class f known) (subst J (sym same) does))

  pub raised_on : NullRaises E → (u : Framed E) (way : Raised) → u ≡ holding (drop count f.newest.operands) f
      → Raises m.fixed.marks.now (λ i j. goes_by q null_class i j) (lib.Thrown thrown.NullPointerException) u m.heap way g k → RaisesNull m count way g k
  raised_on nulls u way shrunk raises h r row at rules does =
      let same = same_frames m.guests.running.frames f h runs at in
      let s = state_of m in
      let J : Framed E → Type 0 = λ x. row (take count x.newest.operands) ≡ Some null in
      let O : Outcome (State ℕ E) → Type 0 = λ o. RaisedAs r m.calls m.plan.now s [] (type_of m.calls null_class) behind_it way g o in
      let P : Framed E → Type 0 = λ x. O (stepped r m.calls m.plan.now s x count row) in
      let Q : Framed E → Type 0 = λ x. O (raising r m.calls m.plan.now s (all x) [] (lib.Thrown thrown.NullPointerException)) in
      let there : Q u = raises r m.calls m.plan.now s [] m.fixed.shapes.now (things_of m) m.constants.constants rules.marks refl (are_told told m.calls q null_class u known) in
      subst P same (subst O (sym (nulls r m.calls m.plan.now s f count row (subst J (sym same) does))) (subst Q shrunk there))

-- ---- what the step comes to

module _ {E : Type 0} (law : RunsAs E) (m : Machine E) (are : AreGuests m.guests) (g : Framed E) (k : Heaped) (count : ℕ) where
  abbrev between : Machine E
  between = with_run g k m

  rules_on : (r : Rules ℕ E) → AreRules m r → AreRules between r
  rules_on r rules = record { marks = rules.marks; side = rules.side }

  -- the running thread's number
  number : m.guests.at ≡ thread_of (state_of m)
  number = number_is m (state_of m) are refl

  module _ (asked : perms.Permission) where
    abbrev Does : Verdict → Came → Machine E → Type 0
    Does verdict came n = ComesBy m count (Some (judged (store_of m) (thread_of (state_of m)) asked verdict)) came n

    granted_comes : (verdict : Verdict) (told : List Event) → told ≡ event_by m.guests.at asked verdict ∷ [] → Judges m asked verdict count ways.Granted g k
        → Does verdict (done.Went told) between
    granted_comes verdicts.Granted told is judges f runs = (
      state_of m,
      λ r row rules does. judges f r row runs rules does ∙ ap₂ Went (sym (behind m g k law)) (ap (λ t. Grant t asked ∷ []) (sym number) ∙ sym is),
    )
    granted_comes (verdicts.Denied domain) told is judges f runs = (state_of m, λ r row rules does. absurd (judges f r row runs rules does))

    denied_comes : (verdict : Verdict) (told : List Event) (way : Raised) (came : Came) (n : Machine E) → told ≡ event_by m.guests.at asked verdict ∷ []
        → Judges m asked verdict count (ways.Denied way) g k → SettlesRaised between way denied_class told came n → Does verdict came n
    denied_comes verdicts.Granted told way came n is judges settles f runs = (state_of m, λ r row rules does. absurd (judges f r row runs rules does))
    denied_comes (verdicts.Denied domain) told way came n is judges settles f runs =
        let s = state_of m in
        let events : Deny (thread_of s) asked domain ∷ [] ≡ told = ap (λ t. Deny t asked domain ∷ []) (sym number) ∙ sym is in
        let settled = settles s g (behind m g k law) refl in (
          settled.over,
          λ r row rules does.
              let o = stepped r m.calls m.plan.now s f count row in
              settled.comes r o (rules_on r rules)
              (subst (λ (es : List Event). RaisedAs r m.calls m.plan.now s es denied_type (store_of between) way g o) events (judges f r row runs rules does)),
        )

  null_comes : (way : Raised) (came : Came) (n : Machine E) → RaisesNull m count way g k → SettlesRaised between way null_class [] came n
      → ComesBy m count (Some null) came n
  null_comes way came n raises settles f runs =
      let s = state_of m in
      let settled = settles s g (behind m g k law) refl in (
        settled.over,
        λ r row rules does. settled.comes r (stepped r m.calls m.plan.now s f count row) (rules_on r rules) (raises f r row runs rules does),
      )

-- ---- behind what was done

module _ {E : Type 0} (law : RunsAs E) (m : Machine E) (are : AreGuests m.guests) (count : ℕ) where
  pub null_does : (way : Raised) (came : Came) (mid n : Machine E) (told : List Event) → NullRaisedOn m count way mid → told ≡ []
      → SettlesRaised mid way null_class told came n → ComesBy m count (Some null) came n
  null_does way came mid n told on none settles =
      let quiet = subst (λ (es : List Event). SettlesRaised mid way null_class es came n) none settles in
      let settled = subst (λ (x : Machine E). SettlesRaised x way null_class [] came n) on.change.is quiet in
      null_comes law m are on.change.frames on.change.heap count way came n on.raises settled

  module _ (asked : perms.Permission) (verdict : Verdict) (told : List Event) (mid : Machine E) (is : told ≡ event_by mid.guests.at asked verdict ∷ []) where
    told_is : (way : Judged) → JudgedOn m asked verdict count way mid → told ≡ event_by m.guests.at asked verdict ∷ []
    told_is way on = is ∙ ap (λ (x : Machine E). event_by x.guests.at asked verdict ∷ []) on.change.is

    pub grant_does : JudgedOn m asked verdict count ways.Granted mid
        → ComesBy m count (Some (judged (store_of m) (thread_of (state_of m)) asked verdict)) (done.Went told) mid
    grant_does on =
        let comes = granted_comes law m are on.change.frames on.change.heap count asked verdict told (told_is ways.Granted on) on.judges in
        subst (λ (x : Machine E). ComesBy m count (Some (judged (store_of m) (thread_of (state_of m)) asked verdict)) (done.Went told) x) (sym on.change.is) comes

    pub deny_does : (way : Raised) (came : Came) (n : Machine E) → JudgedOn m asked verdict count (ways.Denied way) mid → SettlesRaised mid way denied_class told came n
        → ComesBy m count (Some (judged (store_of m) (thread_of (state_of m)) asked verdict)) came n
    deny_does way came n on settles =
        let settled = subst (λ (x : Machine E). SettlesRaised x way denied_class told came n) on.change.is settles in
        denied_comes law m are on.change.frames on.change.heap count asked verdict told way came n (told_is (ways.Denied way) on) on.judges settled

-- ---- between steps

module _ {E : Type 0} (m n : Machine E) (change : Changed m n) where
  pub stays_fixed : StaysFixed m n
  stays_fixed = subst (λ (x : Machine E). StaysFixed m x) (sym change.is) (record { fixed = refl; plan = refl; side = refl; calls = refl })

  -- these are its frames
  runs_are : n.guests.running.frames ≡ Some change.frames
  runs_are = ap (λ (x : Machine E). x.guests.running.frames) change.is

  classes_are : classes_of n ≡ classes_of m
  classes_are = ap (λ (x : Machine E). classes_of x) change.is

  stand_still : (f : Framed E) → n.guests.running.frames ≡ Some f → AreStanding (classes_of n) f
  stand_still f runs =
      subst (λ (c : ℕ). AreStanding c f) (sym classes_are)
      (subst (λ (x : Framed E). AreStanding (classes_of m) x) (same_frames n.guests.running.frames change.frames f runs_are runs) change.standing)

  pub is_ready : IsReady n
  is_ready = record { machine = change.machine; lives = change.lives; running = stand_still }

  pub handled_stand : (way : Raised) → HandledStand n way
  handled_stand raiseds.Full = tt
  handled_stand raiseds.Handled = stand_still
  handled_stand raiseds.Uncaught = tt

-- what stays behind it stays
pub fixed_on : {E : Type 0} (m mid n : Machine E) → Changed m mid → StaysFixed mid n → StaysFixed m n
fixed_on m mid n change after =
    let before = stays_fixed m mid change in record {
      fixed = after.fixed ∙ before.fixed;
      plan = after.plan ∙ before.plan;
      side = after.side ∙ before.side;
      calls = after.calls ∙ before.calls;
    }
