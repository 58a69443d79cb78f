-- All that a method's code names, put in its order.
use Rattle.std.proofs.Common.{◌≡◌, ℕ, List, Result, Ok, refl}
use Rattle.jparts.specs.declared.jmaps.types.FullFrame.{FullFrame}
use Rattle.jparts.specs.declared.jpool.entry.Entry.{Entry}
use Rattle.jmove.specs.declared.method.Expand.{Expand}
use Rattle.jmove.specs.declared.method.MoveError.{MoveError}
use Rattle.jmove.specs.declared.naming.Security.TheVariants.{Enter}
use Rattle.jmove.specs.declared.naming.Named.{Named}
use Rattle.jmove.specs.PoolAdditions.{Adding, giving, ◌>>◌, with_security, with_expansions, with_frames, with_body, IsFront, Refused}
use Rattle.jmove.proofs.PoolGrowth.{Grows, expansions_grow, first_refused, frames_grow, giving_grows, second_refused, security_grows, then_adds, then_grows}

abbrev named : ℕ → List Expand → ℕ → Named
named enter js context = record { enter = enter; kinds = js; context = context }

abbrev from_frames : List FullFrame → ℕ → List Expand → Adding Named
from_frames fs enter js = with_frames fs >> λ context. giving (named enter js context)

abbrev from_kinds : List Expand → List FullFrame → ℕ → Adding Named
from_kinds ks fs enter = with_expansions ks >> λ js. from_frames fs enter js

from_frames_grows : (fs : List FullFrame) (enter : ℕ) (js : List Expand) → Grows (from_frames fs enter js)
from_frames_grows fs enter js = then_grows (with_frames fs) (λ context. giving (named enter js context)) (frames_grow fs) (λ context. giving_grows (named enter js context))

from_kinds_grows : (ks : List Expand) (fs : List FullFrame) (enter : ℕ) → Grows (from_kinds ks fs enter)
from_kinds_grows ks fs enter = then_grows (with_expansions ks) (λ js. from_frames fs enter js) (expansions_grow ks) (λ js. from_frames_grows fs enter js)

pub enter_refused : (ks : List Expand) (fs : List FullFrame) (e : MoveError) (old new : List Entry) → Refused e (with_security Enter old).1 × (IsFront old new × IsFront new (with_security Enter old).1)
    → Refused e (with_body ks fs old).1 × (IsFront old new × IsFront new (with_body ks fs old).1)
unfolding with_body
enter_refused ks fs e old new h = first_refused (with_security Enter) (λ enter. from_kinds ks fs enter) e old new (λ enter. from_kinds_grows ks fs enter) h

pub kinds_refused : (ks : List Expand) (fs : List FullFrame) (e : MoveError) (old mid new : List Entry) (enter : ℕ) → with_security Enter old ≡ (enter, mid)
    → Refused e (with_expansions ks mid).1 × (IsFront mid new × IsFront new (with_expansions ks mid).1) → Refused e (with_body ks fs old).1 × (IsFront old new × IsFront new (with_body ks fs old).1)
unfolding with_body
kinds_refused ks fs e old mid new enter is h =
    second_refused (with_security Enter) (λ n. from_kinds ks fs n) e old mid new enter (security_grows Enter) is
    (first_refused (with_expansions ks) (λ js. from_frames fs enter js) e mid new (λ js. from_frames_grows fs enter js) h)

pub frames_refused : (ks : List Expand) (fs : List FullFrame) (e : MoveError) (old mid last new : List Entry) (enter : ℕ) (js : List Expand) → with_security Enter old ≡ (enter, mid) → with_expansions ks mid ≡ (js, last)
    → Refused e (with_frames fs last).1 × (IsFront last new × IsFront new (with_frames fs last).1) → Refused e (with_body ks fs old).1 × (IsFront old new × IsFront new (with_body ks fs old).1)
unfolding with_body
frames_refused ks fs e old mid last new enter js is are h =
    second_refused (with_security Enter) (λ n. from_kinds ks fs n) e old mid new enter (security_grows Enter) is
    (second_refused (with_expansions ks) (λ l. from_frames fs enter l) e mid last new js (expansions_grow ks) are
    (first_refused (with_frames fs) (λ context. giving (named enter js context)) e last new (λ context. giving_grows (named enter js context)) h))

pub body_is : (ks : List Expand) (fs : List FullFrame) (old mid last new : List Entry) (enter : ℕ) (js : List Expand) (context : ℕ) → with_security Enter old ≡ (enter, mid) → with_expansions ks mid ≡ (js, last)
    → with_frames fs last ≡ (context, new) → with_body ks fs old ≡ (record { enter = enter; kinds = js; context = context }, new)
unfolding with_body
body_is ks fs old mid last new enter js context is are then =
    let r : Result Named MoveError = Ok (named enter js context) in
    then_adds (λ (n : Named). n) (with_security Enter) (λ n. from_kinds ks fs n) r old mid new enter (security_grows Enter) is
    (then_adds (λ (n : Named). n) (with_expansions ks) (λ l. from_frames fs enter l) r mid last new js (expansions_grow ks) are
    (then_adds (λ (n : Named). n) (with_frames fs) (λ k. giving (named enter js k)) r last new new context (frames_grow fs) then refl))
