-- What the guard answers stands for what the plain rules answer.
use Rattle.std.proofs.Common.{◌≡◌, ◌∙◌, ℕ, ◌<◌, Bool, List, [], length, reverse, Option, Some, None, sym, ap, subst}
use Rattle.std.specs.Prelude.{IfOk, IfSome, OnOk, Result, Ok, Err, unwrap_or}
use Rattle.std.specs.Borrow.{Bor}
use Rattle.std.specs.Option.{option_copied}
use Rattle.std.proofs.lemmas.Option.{slice_get_within}
use Rattle.jperm.specs.declared.permission.Permission.{Permission}
use Rattle.jdomain.specs.declared.verdict.Verdict.{Verdict}
use Rattle.jctx.specs.declared.item.Item.{Item}
use Rattle.jctx.specs.Contexts.{enter, verdict}
use Rattle.jctx.specs.Contexts as contexts
use Rattle.jsemantics.specs.jmachine.AccessQueries.{Ask, Checks, ChecksKept, Snapshots, Inherits, Enters, Privileges, Answer, Decided, Kept, Entered, Allowed}
use Rattle.jsemantics.specs.jrules.PlainRules.{rules}
use Rattle.jguard.specs.declared.ask.Answer.{Answer as AnswerSaid}
use Rattle.jguard.specs.declared.ask.Ask.{Ask as AskSaid}
use Rattle.jguard.specs.declared.ask.Ask.TheVariants as asks
use Rattle.jguard.specs.GuardQueries.{given_by, said}
use Rattle.jguard.specs.NumberMeanings.{AnswersFor, IsAskKnown}
use Rattle.jforms.specs.jplain.PlainGuards.{Becomes, IsContext, IsDecided, IsEntered, IsHanded, IsPrivileged, IsThat, Plains, context_at, number_or_first}

-- ---- what is said of an ask by another that stands for the same

abbrev asked_in : {K : Type 0} → Permission → Ask K → Permission
asked_in other (Checks asked ctx) = asked
asked_in other (ChecksKept asked k) = asked
asked_in other a = other

abbrev kept_in : {K : Type 0} → K → Ask K → K
kept_in other (ChecksKept asked k) = k
kept_in other (Enters k domain) = k
kept_in other a = other

abbrev ctx_in : {K : Type 0} → Ask K → Option K
ctx_in (Checks asked ctx) = ctx
ctx_in (Snapshots ctx) = ctx
ctx_in (Inherits ctx) = ctx
ctx_in (Privileges domain ctx given limits) = ctx
ctx_in a = None

abbrev given_in : {K : Type 0} → Ask K → Option K
given_in (Privileges domain ctx given limits) = given
given_in a = None

abbrev limits_in : {K : Type 0} → Ask K → Option (List Permission)
limits_in (Privileges domain ctx given limits) = limits
limits_in a = None

abbrev domain_in : {K : Type 0} → Ask K → ℕ
domain_in (Enters k domain) = domain
domain_in (Privileges domain ctx given limits) = unwrap_or domain 0
domain_in a = 0

-- ---- numbers

same_item : {A : Type 0} (x y : A) → Some x ≡ Some y → x ≡ y
same_item x y e = cc

pub first_in : (old new : Plains) → old ≡ new → context_at old.contexts 0 ≡ Some [] → context_at new.contexts 0 ≡ Some []
first_in old new = subst (λ (p : Plains). context_at p.contexts 0 ≡ Some [])

module _ (all : List (List Item)) where
  -- a number that stands for a context was given
  there : (n : ℕ) (c : List Item) → context_at all n ≡ Some c → n < length all
  there n c e = slice_get_within all n c e

  first_stands : context_at all 0 ≡ Some [] → (n : Option ℕ) (c : Option (List Item)) → IsThat all n c → context_at all (number_or_first n) ≡ Some (unwrap_or c [])
  first_stands first None None e = first
  first_stands first None (Some c) e = cc
  first_stands first (Some n) None e = cc
  first_stands first (Some n) (Some c) e = same_item (context_at all n) (Some c) e

  given_there : (n : Option ℕ) (c : Option (List Item)) → IsThat all n c → IfSome n (λ g. g < length all)
  given_there None c e = tt
  given_there (Some n) None e = cc
  given_there (Some n) (Some c) e = there n c (same_item (context_at all n) (Some c) e)

  -- ---- what an ask is known to speak of

  enters_there : (n d : ℕ) → IsAskKnown (context_at all) (Enters n d) → n < length all
  enters_there n d (Enters k b, e) = there n k (ap (kept_in None) e)
  enters_there n d (Checks asked c, e) = cc
  enters_there n d (ChecksKept asked k, e) = cc
  enters_there n d (Snapshots c, e) = cc
  enters_there n d (Inherits c, e) = cc
  enters_there n d (Privileges b c g l, e) = cc

  kept_there : (p : Permission) (n : ℕ) → IsAskKnown (context_at all) (ChecksKept p n) → n < length all
  kept_there p n (ChecksKept asked k, e) = there n k (ap (kept_in None) e)
  kept_there p n (Checks asked c, e) = cc
  kept_there p n (Enters k b, e) = cc
  kept_there p n (Snapshots c, e) = cc
  kept_there p n (Inherits c, e) = cc
  kept_there p n (Privileges b c g l, e) = cc

  check_there : context_at all 0 ≡ Some [] → (p : Permission) (n : Option ℕ) → IsAskKnown (context_at all) (Checks p n) → number_or_first n < length all
  check_there first p n (Checks asked c, e) = there (number_or_first n) (unwrap_or c []) (first_stands first n c (ap ctx_in e))
  check_there first p n (ChecksKept asked k, e) = cc
  check_there first p n (Enters k b, e) = cc
  check_there first p n (Snapshots c, e) = cc
  check_there first p n (Inherits c, e) = cc
  check_there first p n (Privileges b c g l, e) = cc

  module _ (domain n given : Option ℕ) (limits : Option (List Permission)) where
    privilege_there : context_at all 0 ≡ Some [] → IsAskKnown (context_at all) (Privileges domain n given limits)
        → (number_or_first n < length all) × IfSome given (λ g. g < length all)
    privilege_there first (Privileges b c g l, e) = (there (number_or_first n) (unwrap_or c []) (first_stands first n c (ap ctx_in e)), given_there given g (ap given_in e))
    privilege_there first (Checks asked c, e) = cc
    privilege_there first (ChecksKept asked k, e) = cc
    privilege_there first (Enters k b, e) = cc
    privilege_there first (Snapshots c, e) = cc
    privilege_there first (Inherits c, e) = cc

  known_as : (ask a : AskSaid) → ask ≡ a → IsAskKnown (context_at all) (said ask) → IsAskKnown (context_at all) (said a)
  known_as ask a is = subst (λ (x : AskSaid). IsAskKnown (context_at all) (said x)) is

  -- as the guard's calls say it
  pub enter_there : (ask : AskSaid) (n d : ℕ) → ask ≡ asks.Enter n d → IsAskKnown (context_at all) (said ask) → n < length all
  enter_there ask n d is known = enters_there n d (known_as ask (asks.Enter n d) is known)

  pub check_kept_there : (ask : AskSaid) (p : Bor Permission) (n : ℕ) → ask ≡ asks.CheckKept p n → IsAskKnown (context_at all) (said ask) → n < length all
  check_kept_there ask p n is known = kept_there p.now n (known_as ask (asks.CheckKept p n) is known)

  pub checked_there : context_at all 0 ≡ Some [] → (ask : AskSaid) (p : Bor Permission) (n : Option ℕ) (m : ℕ) → ask ≡ asks.Check p n → m ≡ number_or_first n
      → IsAskKnown (context_at all) (said ask) → m < length all
  checked_there first ask p n m is so known = subst (λ (x : ℕ). x < length all) (sym so) (check_there first p.now n (known_as ask (asks.Check p n) is known))

  pub privileged_there : context_at all 0 ≡ Some [] → (ask : AskSaid) (domain n given : Option ℕ) (limits : Option (Bor (List Permission))) (m : ℕ)
      → ask ≡ asks.Privileged domain n given limits → m ≡ number_or_first n
      → IsAskKnown (context_at all) (said ask) → (m < length all) × IfSome given (λ g. g < length all)
  privileged_there first ask domain n given limits m is so known =
      subst (λ (x : ℕ). (x < length all) × IfSome given (λ g. g < length all)) (sym so)
      (privilege_there domain n given (option_copied limits) first (known_as ask (asks.Privileged domain n given limits) is known))

-- ---- answers

abbrev frame : Unit {0} → Option (Unit {0})
frame m = Some tt

module _ (has : ℕ → Permission → Bool) (old new : List (List Item)) (marks : List (Unit {0})) (inherited : Option ℕ) where
  abbrev For : Ask ℕ → Answer ℕ (Unit {0}) → Type 0
  For ask given = AnswersFor (context_at old) (context_at new) frame frame (rules has) ask (reverse marks) inherited given

  abbrev decided : Verdict → Answer (Option (List Item)) (Option (Unit {0}))
  decided v = Decided v

  abbrev kept_here : Option (List Item) → Answer (Option (List Item)) (Option (Unit {0}))
  kept_here c = Kept c

  abbrev entered_here : Option (List Item) → Answer (Option (List Item)) (Option (Unit {0}))
  entered_here c = Entered c

  abbrev allowed : Option (List Item) → Answer (Option (List Item)) (Option (Unit {0}))
  allowed c = Allowed (record { caller = Some tt; context = Some c })

  check_answers : context_at old 0 ≡ Some [] → (p : Permission) (n : Option ℕ) (v : Verdict)
      → ((c : List Item) → context_at old (number_or_first n) ≡ Some c → v ≡ verdict has p c) → For (Checks p n) (Decided v)
  unfolding rules
  check_answers first p n v is (Checks asked c) cs s e those that =
      ap decided (is (unwrap_or c []) (first_stands old first n c (ap ctx_in e)) ∙ ap (λ (x : Permission). verdict has x (unwrap_or c [])) (ap (asked_in p) e))
  check_answers first p n v is (ChecksKept asked k) cs s e those that = cc
  check_answers first p n v is (Snapshots c) cs s e those that = cc
  check_answers first p n v is (Inherits c) cs s e those that = cc
  check_answers first p n v is (Enters k d) cs s e those that = cc
  check_answers first p n v is (Privileges d c g l) cs s e those that = cc

  kept_answers : (p : Permission) (n : ℕ) (v : Verdict) → ((c : List Item) → context_at old n ≡ Some c → v ≡ verdict has p c) → For (ChecksKept p n) (Decided v)
  unfolding rules
  kept_answers p n v is (ChecksKept asked k) cs s e those that = ap decided (is k (ap (kept_in None) e) ∙ ap (λ (x : Permission). verdict has x k) (ap (asked_in p) e))
  kept_answers p n v is (Checks asked c) cs s e those that = cc
  kept_answers p n v is (Snapshots c) cs s e those that = cc
  kept_answers p n v is (Inherits c) cs s e those that = cc
  kept_answers p n v is (Enters k d) cs s e those that = cc
  kept_answers p n v is (Privileges d c g l) cs s e those that = cc

  snapshot_answers : old ≡ new → context_at old 0 ≡ Some [] → (n : Option ℕ) → For (Snapshots n) (Kept (number_or_first n))
  unfolding rules
  snapshot_answers same first n (Snapshots c) cs s e those that =
      ap kept_here (ap (λ (x : List (List Item)). context_at x (number_or_first n)) (sym same) ∙ first_stands old first n c (ap ctx_in e))
  snapshot_answers same first n (Checks asked c) cs s e those that = cc
  snapshot_answers same first n (ChecksKept asked k) cs s e those that = cc
  snapshot_answers same first n (Inherits c) cs s e those that = cc
  snapshot_answers same first n (Enters k d) cs s e those that = cc
  snapshot_answers same first n (Privileges d c g l) cs s e those that = cc

  inherit_answers : old ≡ new → context_at old 0 ≡ Some [] → (n : Option ℕ) → For (Inherits n) (Kept (number_or_first n))
  unfolding rules
  inherit_answers same first n (Inherits c) cs s e those that =
      ap kept_here (ap (λ (x : List (List Item)). context_at x (number_or_first n)) (sym same) ∙ first_stands old first n c (ap ctx_in e))
  inherit_answers same first n (Checks asked c) cs s e those that = cc
  inherit_answers same first n (ChecksKept asked k) cs s e those that = cc
  inherit_answers same first n (Snapshots c) cs s e those that = cc
  inherit_answers same first n (Enters k d) cs s e those that = cc
  inherit_answers same first n (Privileges d c g l) cs s e those that = cc

  enter_answers : (n d made : ℕ) → IsEntered old new n d made → For (Enters n d) (Entered made)
  unfolding rules
  enter_answers n d made is (Enters k b) cs s e those that = ap entered_here (is k (ap (kept_in None) e) ∙ ap (λ (x : ℕ). Some (enter k x)) (ap domain_in e))
  enter_answers n d made is (Checks asked c) cs s e those that = cc
  enter_answers n d made is (ChecksKept asked k) cs s e those that = cc
  enter_answers n d made is (Snapshots c) cs s e those that = cc
  enter_answers n d made is (Inherits c) cs s e those that = cc
  enter_answers n d made is (Privileges b c g l) cs s e those that = cc

  module _ (domain n given : Option ℕ) (limits : Option (List Permission)) where
    privilege_answers : context_at old 0 ≡ Some [] → (made : ℕ) → IsPrivileged old new (unwrap_or domain 0) given limits (number_or_first n) made
        → For (Privileges domain n given limits) (Allowed (record { caller = tt; context = Some made }))
    unfolding rules
    privilege_answers first made is (Privileges d c g l) cs s e those that =
        ap allowed (is (unwrap_or c []) g (first_stands old first n c (ap ctx_in e)) (ap given_in e)
        ∙ ap (λ (x : ℕ). Some (contexts.privileged x g limits (unwrap_or c []))) (ap domain_in e)
        ∙ ap (λ (x : Option (List Permission)). Some (contexts.privileged (unwrap_or d 0) g x (unwrap_or c []))) (ap (λ (a : Ask (Option (List Item))). limits_in a) e))
    privilege_answers first made is (Checks asked c) cs s e those that = cc
    privilege_answers first made is (ChecksKept asked k) cs s e those that = cc
    privilege_answers first made is (Snapshots c) cs s e those that = cc
    privilege_answers first made is (Inherits c) cs s e those that = cc
    privilege_answers first made is (Enters k d) cs s e those that = cc

  -- ---- as the guard's calls say it

  so_answered : (ask other : AskSaid) (given : Answer ℕ (Unit {0})) → ask ≡ other → For (said other) given → For (said ask) given
  so_answered ask other given is = subst (λ (x : AskSaid). For (said x) given) (sym is)

  pub checked : context_at old 0 ≡ Some [] → (ask : AskSaid) (p : Bor Permission) (n : Option ℕ) (m : ℕ) (v : Verdict) → ask ≡ asks.Check p n → m ≡ number_or_first n
      → IsDecided has p.now old m v → For (said ask) (Decided v)
  checked first ask p n m v is so decides =
      so_answered ask (asks.Check p n) (Decided v) is (check_answers first p.now n v (subst (λ (x : ℕ). IsDecided has p.now old x v) so decides))

  pub checked_kept : (ask : AskSaid) (p : Bor Permission) (n : ℕ) (v : Verdict) → ask ≡ asks.CheckKept p n → IsDecided has p.now old n v → For (said ask) (Decided v)
  checked_kept ask p n v is decides = so_answered ask (asks.CheckKept p n) (Decided v) is (kept_answers p.now n v decides)

  pub snapshot : old ≡ new → context_at old 0 ≡ Some [] → (ask : AskSaid) (n : Option ℕ) (made : ℕ) → ask ≡ asks.Snapshot n → made ≡ number_or_first n → For (said ask) (Kept made)
  snapshot same first ask n made is value = subst (λ (x : ℕ). For (said ask) (Kept x)) (sym value)
      (so_answered ask (asks.Snapshot n) (Kept (number_or_first n)) is (snapshot_answers same first n))

  pub inherit : old ≡ new → context_at old 0 ≡ Some [] → (ask : AskSaid) (n : Option ℕ) (made : ℕ) → ask ≡ asks.Inherit n → made ≡ number_or_first n → For (said ask) (Kept made)
  inherit same first ask n made is value = subst (λ (x : ℕ). For (said ask) (Kept x)) (sym value)
      (so_answered ask (asks.Inherit n) (Kept (number_or_first n)) is (inherit_answers same first n))

  module _ {X : Type 0} where
    abbrev Given : AskSaid → Result (AnswerSaid (Unit {0})) X → Type 0
    Given ask result = IfOk result (λ a. For (said ask) (given_by a))

    pub entered : (ask : AskSaid) (n d : ℕ) (result : Result (AnswerSaid (Unit {0})) X) → ask ≡ asks.Enter n d → IfOk result (IsContext old new n d) → Given ask result
    entered ask n d (Ok a) is w = subst (λ (x : AnswerSaid (Unit {0})). For (said ask) (given_by x)) (sym w.1)
        (so_answered ask (asks.Enter n d) (Entered w.0) is (enter_answers n d w.0 w.2))
    entered ask n d (Err x) is w = tt

    pub privileged : context_at old 0 ≡ Some [] → (ask : AskSaid) (domain n given : Option ℕ) (limits : Option (Bor (List Permission))) (d m : ℕ)
        (result : Result (AnswerSaid (Unit {0})) X) → ask ≡ asks.Privileged domain n given limits → d ≡ unwrap_or domain 0 → m ≡ number_or_first n
        → IfOk result (IsHanded old new d given (option_copied limits) m) → Given ask result
    privileged first ask domain n given limits d m (Ok a) is told_so so w =
        subst (λ (x : AnswerSaid (Unit {0})). For (said ask) (given_by x)) (sym w.1)
        (so_answered ask (asks.Privileged domain n given limits) (Allowed (record { caller = tt; context = Some w.0 })) is
        (privilege_answers domain n given (option_copied limits) first w.0
        (subst (λ (y : ℕ). IsPrivileged old new (unwrap_or domain 0) given (option_copied limits) y w.0) so
        (subst (λ (x : ℕ). IsPrivileged old new x given (option_copied limits) m w.0) told_so w.2))))
    privileged first ask domain n given limits d m (Err x) is told_so so w = tt

-- ---- what an ask makes of the guard

pub becomes : (old new : Plains) (ask a : AskSaid) → ask ≡ a → Becomes old (said a) new → Becomes old (said ask) new
becomes old new ask a is = subst (λ (x : AskSaid). Becomes old (said x) new) (sym is)

pub if_becomes : {T F : Type 0} (old new : Plains) (ask a : AskSaid) (r : Result T F) → ask ≡ a → Becomes old (said a) new → OnOk r (Becomes old (said ask) new)
if_becomes old new ask a (Ok x) is holds = becomes old new ask a is holds
if_becomes old new ask a (Err e) is holds = tt
