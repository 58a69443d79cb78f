-- What the guard answers stands for what the inspecting rules answer.
use Rattle.std.proofs.Common.{◌≡◌, ◌∙◌, ℕ, ◌-◌, ◌<◌, Bool, List, map, length, reverse, Option, Some, None, refl, sym, ap, subst}
use Rattle.std.specs.Prelude.{IfOk, OnOk, Result, Ok, Err, slice_get}
use Rattle.std.specs.Borrow.{Bor}
use Rattle.std.specs.Option.{option_copied}
use Rattle.jperm.specs.declared.permission.Permission.{Permission}
use Rattle.jdomain.specs.DomainStacks.{Stack, Mark, Privileged, walk}
use Rattle.jdomain.specs.declared.verdict.Verdict.{Verdict}
use Rattle.jsnapshots.specs.declared.entry.KeptEntry.{KeptEntry}
use Rattle.jsnapshots.specs.declared.mark.InspectMark.{InspectMark}
use Rattle.jsnapshots.specs.SnapshotMeanings.{given_at, mark_at, stack_at, things}
use Rattle.jsnapshots.specs.SnapshotMeanings as kept
use Rattle.jsemantics.specs.jmachine.AccessQueries.{Ask, Checks, ChecksKept, Snapshots, Inherits, Enters, Privileges, Answer, Decided, Kept, Entered, Allowed}
use Rattle.jsemantics.specs.jrules.InspectingRules.{Carried, rules, stack_of}
use Rattle.jsemantics.specs.jrules.InspectingRules as inspecting
use Rattle.jguard.specs.declared.ask.Answer.{Answer as AnswerSaid}
use Rattle.jguard.specs.declared.ask.Answer.TheVariants as answers
use Rattle.jguard.specs.declared.ask.Ask.{Ask as AskSaid}
use Rattle.jguard.specs.declared.ask.Ask.TheVariants as asks
use Rattle.jguard.specs.GuardQueries.{given_by, said}
use Rattle.jguard.specs.NumberMeanings.{AnswersFor, IsThat, Keeps}
use Rattle.jforms.specs.jinspect.InspectingGuards.{Becomes, Inspects, IsMarked, IsStack, entry_at, kept_at, newest_domain, with_domain}
use Rattle.jforms.proofs.JinspectProofs.MarkMeanings.{caller_stands, frames_stand, given_stands, number_stands, privileged_stands, stands_for}

-- ---- what is said of an ask by another that stands for the same

abbrev asked_in : {K : Type 0} → Permission → Ask K → Permission
asked_in other (Checks asked ctx) = asked
asked_in other (ChecksKept asked k) = asked
asked_in other a = other

abbrev kept_in : {K : Type 0} → K → Ask K → K
kept_in other (ChecksKept asked k) = k
kept_in other (Enters k domain) = k
kept_in other a = other

abbrev given_in : {K : Type 0} → Ask K → Option K
given_in (Privileges domain ctx given limits) = given
given_in a = None

abbrev limits_in : {K : Type 0} → Ask K → Option (List Permission)
limits_in (Privileges domain ctx given limits) = limits
limits_in a = None

-- ---- answers

module _ (has : ℕ → Permission → Bool) (old new : List KeptEntry) (marks : List InspectMark) (inherited : Option ℕ) where
  abbrev For : Ask ℕ → Answer ℕ InspectMark → Type 0
  For ask given = AnswersFor (kept_at old) (kept_at new) (entry_at old) (entry_at new) (rules has) ask (reverse marks) inherited given

  abbrev decided : Verdict → Answer (Option Stack) (Option Carried)
  decided v = Decided v

  abbrev kept_here : Option Stack → Answer (Option Stack) (Option Carried)
  kept_here s = Kept s

  abbrev allowed : Option Carried → Answer (Option Stack) (Option Carried)
  allowed c = Allowed (record { caller = c; context = None })

  pub check_answers : (asked : Permission) (ctx : Option ℕ) (v : Verdict) → v ≡ walk has asked (kept.stack_of (things old) marks inherited) → For (Checks asked ctx) (Decided v)
  unfolding rules
  check_answers asked ctx v is (Checks same c) cs s e those that =
      ap decided (is ∙ ap (λ (p : Permission). walk has p (kept.stack_of (things old) marks inherited)) (ap (asked_in asked) e) ∙ ap (walk has same) (frames_stand old marks cs inherited s those that))
  check_answers asked ctx v is (ChecksKept same k) cs s e those that = cc
  check_answers asked ctx v is (Snapshots c) cs s e those that = cc
  check_answers asked ctx v is (Inherits c) cs s e those that = cc
  check_answers asked ctx v is (Enters k domain) cs s e those that = cc
  check_answers asked ctx v is (Privileges domain c given limits) cs s e those that = cc

  pub kept_answers : (asked : Permission) (n : ℕ) (v : Verdict) → v ≡ walk has asked (stack_at (things old) (Some n)) → For (ChecksKept asked n) (Decided v)
  unfolding rules
  kept_answers asked n v is (ChecksKept same k) cs s e those that =
      ap decided (is ∙ ap (λ (p : Permission). walk has p (stack_at (things old) (Some n))) (ap (asked_in asked) e) ∙ ap (walk has same) (number_stands old n k (ap (kept_in None) e)).1)
  kept_answers asked n v is (Checks same c) cs s e those that = cc
  kept_answers asked n v is (Snapshots c) cs s e those that = cc
  kept_answers asked n v is (Inherits c) cs s e those that = cc
  kept_answers asked n v is (Enters k domain) cs s e those that = cc
  kept_answers asked n v is (Privileges domain c given limits) cs s e those that = cc

  -- a stack that is kept
  stack_kept : (n : ℕ) → n < length new → stack_at (things new) (Some n) ≡ kept.stack_of (things old) marks inherited
      → (cs : List Carried) (s : Option Stack) → map (entry_at old) (reverse marks) ≡ map Some cs → IsThat (kept_at old) inherited s → kept_at new n ≡ Some (stack_of cs s)
  stack_kept n there is cs s those that = stands_for new n there ∙ ap Some (is ∙ frames_stand old marks cs inherited s those that)

  pub snapshot_answers : (ctx : Option ℕ) (n : ℕ) → n < length new → stack_at (things new) (Some n) ≡ kept.stack_of (things old) marks inherited → For (Snapshots ctx) (Kept n)
  unfolding rules
  snapshot_answers ctx n there is (Snapshots c) cs s e those that = ap kept_here (stack_kept n there is cs s those that)
  snapshot_answers ctx n there is (Checks asked c) cs s e those that = cc
  snapshot_answers ctx n there is (ChecksKept asked k) cs s e those that = cc
  snapshot_answers ctx n there is (Inherits c) cs s e those that = cc
  snapshot_answers ctx n there is (Enters k domain) cs s e those that = cc
  snapshot_answers ctx n there is (Privileges domain c given limits) cs s e those that = cc

  pub inherit_answers : (ctx : Option ℕ) (n : ℕ) → n < length new → stack_at (things new) (Some n) ≡ kept.stack_of (things old) marks inherited → For (Inherits ctx) (Kept n)
  unfolding rules
  inherit_answers ctx n there is (Inherits c) cs s e those that = ap kept_here (stack_kept n there is cs s those that)
  inherit_answers ctx n there is (Checks asked c) cs s e those that = cc
  inherit_answers ctx n there is (ChecksKept asked k) cs s e those that = cc
  inherit_answers ctx n there is (Snapshots c) cs s e those that = cc
  inherit_answers ctx n there is (Enters k domain) cs s e those that = cc
  inherit_answers ctx n there is (Privileges domain c given limits) cs s e those that = cc

  pub enter_answers : Keeps (kept_at old) (kept_at new) → (n domain : ℕ) → For (Enters n domain) (Entered n)
  unfolding rules
  enter_answers keeps n domain (Enters k d) cs s e those that = ap context (keeps n k (ap (kept_in None) e))
    where
      context : Option Stack → Answer (Option Stack) (Option Carried)
      context k = Entered k
  enter_answers keeps n domain (Checks asked c) cs s e those that = cc
  enter_answers keeps n domain (ChecksKept asked k) cs s e those that = cc
  enter_answers keeps n domain (Snapshots c) cs s e those that = cc
  enter_answers keeps n domain (Inherits c) cs s e those that = cc
  enter_answers keeps n domain (Privileges d c given limits) cs s e those that = cc

  pub privilege_answers : (domain : Option ℕ) (ctx given : Option ℕ) (limits : Option (List Permission)) (n : ℕ) → n < length new
      → mark_at (things new) (Some n) ≡ Privileged (given_at (things old) given) limits
      → For (Privileges domain ctx given limits) (Allowed (record { caller = record { domain = newest_domain (slice_get marks (length marks - 1)); privileged = Some n }; context = None }))
  unfolding rules
  privilege_answers domain ctx given limits n there is (Privileges d c g l) cs s e those that =
      ap allowed (privileged_stands new (newest_domain (slice_get marks (length marks - 1))) n there
      ∙ ap (λ (mark : Mark). Some (with_domain (newest_domain (slice_get marks (length marks - 1))) mark)) (is
      ∙ ap (λ x. Privileged x limits) (given_stands old given g (ap (λ (a : Ask (Option Stack)). given_in a) e)).1
      ∙ ap (Privileged (inspecting.given_by g)) (ap (λ (a : Ask (Option Stack)). limits_in a) e))
      ∙ ap Some (caller_stands old marks cs (Privileged (inspecting.given_by g) l) those))
  privilege_answers domain ctx given limits n there is (Checks asked c) cs s e those that = cc
  privilege_answers domain ctx given limits n there is (ChecksKept asked k) cs s e those that = cc
  privilege_answers domain ctx given limits n there is (Snapshots c) cs s e those that = cc
  privilege_answers domain ctx given limits n there is (Inherits c) cs s e those that = cc
  privilege_answers domain ctx given limits n there is (Enters k d) cs s e those that = cc

  -- ---- as the guard's calls say it

  pub entered : Keeps (kept_at old) (kept_at new) → (ask : AskSaid) (n domain : ℕ) → ask ≡ asks.Enter n domain → For (said ask) (Entered n)
  entered keeps ask n domain is = subst (λ (x : AskSaid). For (said x) (Entered n)) (sym is) (enter_answers keeps n domain)

  module _ {X : Type 0} where
    abbrev Given : AskSaid → Result (AnswerSaid InspectMark) X → Type 0
    Given ask result = IfOk result (λ a. For (said ask) (given_by a))

    so_answered : (ask other : AskSaid) → ask ≡ other → (P : AnswerSaid InspectMark → Type 0) → ((a : AnswerSaid InspectMark) → P a → For (said other) (given_by a)) → (result : Result (AnswerSaid InspectMark) X) → IfOk result P → Given ask result
    so_answered ask other is P means (Ok a) w = subst (λ (x : AskSaid). For (said x) (given_by a)) (sym is) (means a w)
    so_answered ask other is P means (Err e) w = tt

    pub checked : (ask : AskSaid) (asked : Bor Permission) (ctx : Option ℕ) → ask ≡ asks.Check asked ctx → (result : Result (AnswerSaid InspectMark) X)
        → IfOk result (λ a. a ≡ answers.Verdict (walk has asked.now (kept.stack_of (things old) marks inherited))) → Given ask result
    checked ask asked ctx is result w =
        so_answered ask (asks.Check asked ctx) is (λ a. a ≡ answers.Verdict (walk has asked.now (kept.stack_of (things old) marks inherited)))
        (λ a e. subst (λ (x : AnswerSaid InspectMark). For (Checks asked.now ctx) (given_by x)) (sym e) (check_answers asked.now ctx (walk has asked.now (kept.stack_of (things old) marks inherited)) refl))
        result w

    pub checked_kept : (ask : AskSaid) (asked : Bor Permission) (n : ℕ) → ask ≡ asks.CheckKept asked n → (result : Result (AnswerSaid InspectMark) X)
        → IfOk result (λ a. a ≡ answers.Verdict (walk has asked.now (stack_at (things old) (Some n)))) → Given ask result
    checked_kept ask asked n is result w =
        so_answered ask (asks.CheckKept asked n) is (λ a. a ≡ answers.Verdict (walk has asked.now (stack_at (things old) (Some n))))
        (λ a e. subst (λ (x : AnswerSaid InspectMark). For (ChecksKept asked.now n) (given_by x)) (sym e) (kept_answers asked.now n (walk has asked.now (stack_at (things old) (Some n))) refl))
        result w

    pub snapshot : (ask : AskSaid) (ctx : Option ℕ) → ask ≡ asks.Snapshot ctx → (result : Result (AnswerSaid InspectMark) X) → IfOk result (IsStack new (kept.stack_of (things old) marks inherited)) → Given ask result
    snapshot ask ctx is result w =
        so_answered ask (asks.Snapshot ctx) is (IsStack new (kept.stack_of (things old) marks inherited))
        (λ a e. subst (λ (x : AnswerSaid InspectMark). For (Snapshots ctx) (given_by x)) (sym e.1) (snapshot_answers ctx e.0 e.2 e.3)) result w

    pub inherit : (ask : AskSaid) (ctx : Option ℕ) → ask ≡ asks.Inherit ctx → (result : Result (AnswerSaid InspectMark) X) → IfOk result (IsStack new (kept.stack_of (things old) marks inherited)) → Given ask result
    inherit ask ctx is result w =
        so_answered ask (asks.Inherit ctx) is (IsStack new (kept.stack_of (things old) marks inherited))
        (λ a e. subst (λ (x : AnswerSaid InspectMark). For (Inherits ctx) (given_by x)) (sym e.1) (inherit_answers ctx e.0 e.2 e.3)) result w

    pub privileged : (ask : AskSaid) (domain : Option ℕ) (ctx given : Option ℕ) (limits : Option (Bor (List Permission))) → ask ≡ asks.Privileged domain ctx given limits → (result : Result (AnswerSaid InspectMark) X)
        → IfOk result (IsMarked new (newest_domain (slice_get marks (length marks - 1))) (Privileged (given_at (things old) given) (option_copied limits))) → Given ask result
    privileged ask domain ctx given limits is result w =
        so_answered ask (asks.Privileged domain ctx given limits) is (IsMarked new (newest_domain (slice_get marks (length marks - 1))) (Privileged (given_at (things old) given) (option_copied limits)))
        (λ a e. subst (λ (x : AnswerSaid InspectMark). For (Privileges domain ctx given (option_copied limits)) (given_by x)) (sym e.1) (privilege_answers domain ctx given (option_copied limits) e.0 e.2 e.3)) result w

-- ---- what an ask makes of the guard

pub becomes : (old new : Inspects) (ask a : AskSaid) → ask ≡ a → Becomes old (said a) new → Becomes old (said ask) new
becomes old new ask a is = subst (λ (x : AskSaid). Becomes old (said x) new) (sym is)

pub if_becomes : {T F : Type 0} (old new : Inspects) (ask a : AskSaid) (r : Result T F) → ask ≡ a → Becomes old (said a) new → OnOk r (Becomes old (said ask) new)
if_becomes old new ask a (Ok x) is holds = becomes old new ask a is holds
if_becomes old new ask a (Err e) is holds = tt
