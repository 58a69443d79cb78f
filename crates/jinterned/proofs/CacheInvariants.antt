-- What is remembered stays right.
use Rattle.std.proofs.Common.{◌≡◌, ◌∙◌, ◌⊎◌, inl, inr, ℕ, zero, suc, true, ◌==◌, ◌<◌, List, [], ◌∷◌, ◌++◌, length, replicate, Option, Some, None, refl, sym, ap, subst, eqb-true, arith}
use Rattle.std.specs.Prelude.{slice_get, slice_set, get_or, IfSome}
use Rattle.std.proofs.lemmas.List.{length-append}
use Rattle.std.proofs.lemmas.Option.{slice_get-get_or}
use Rattle.jperm.specs.declared.permission.Permission.{Permission}
use Rattle.jctx.specs.declared.item.Item.{Item}
use Rattle.jctx.specs.Contexts.{enter}
use Rattle.jctx.specs.ContextItems.{plain}
use Rattle.jctx.specs.ContextLaws.{EnterSame, IsKept}
use Rattle.jinterned.specs.declared.entered.Entered.{Entered}
use Rattle.jinterned.specs.DomainEntryCache.{IsEntered, IsRight, AreRight}
use Rattle.jinterned.specs.InternedContexts.{AreTabled, Holds, HoldsEntered, begins_with}
use Rattle.jinterned.proofs.DigestChains.{front}
use Rattle.jinterned.proofs.Sameness.{and_left, and_right}

same_one : {T : Type 0} (a b : T) → Some a ≡ Some b → a ≡ b
same_one a b e = cc

there : {T : Type 0} (xs : List T) (n : ℕ) (x : T) → slice_get xs n ≡ Some x → n < length xs
there [] n x is = cc
there (y ∷ xs) zero x is = omega arith
there (y ∷ xs) (suc n) x is = omega (arith, there xs n x is)

entered_more : (contexts : List (List Item)) (last : List Item) (c d n : ℕ) → c < length contexts → IsEntered contexts c d n → IsEntered (contexts ++ last ∷ []) c d n
entered_more contexts last c d n lt right items is =
    let old = right items (sym (front c contexts (last ∷ []) lt) ∙ is) in
    front n contexts (last ∷ []) (there contexts n (enter items d) old) ∙ old

pub right_more : (contexts : List (List Item)) (last : List Item) (places : List (Option (Entered × ℕ))) → AreRight contexts places → AreRight (contexts ++ last ∷ []) places
right_more contexts last places right p k n is =
    let old = right p k n is in
    (omega (arith, old.0, length-append contexts (last ∷ [])), entered_more contexts last k.context k.domain n old.0 old.1)

-- what is read behind a write is what was written, or what was there
written : {T : Type 0} (xs : List T) (i j : ℕ) (x y : T) → slice_get (slice_set xs i x) j ≡ Some y → (x ≡ y) ⊎ (slice_get xs j ≡ Some y)
written [] i j x y is = inr is
written (z ∷ xs) zero zero x y is = inl (same_one x y is)
written (z ∷ xs) zero (suc j) x y is = inr is
written (z ∷ xs) (suc i) zero x y is = inr is
written (z ∷ xs) (suc i) (suc j) x y is = written xs i j x y is

abbrev pair : Entered → ℕ → Entered × ℕ
pair k n = (k, n)

pub right_put : (contexts : List (List Item)) (places : List (Option (Entered × ℕ))) (i : ℕ) (k : Entered) (n : ℕ) → AreRight contexts places → IsRight contexts k n
    → AreRight contexts (slice_set places i (Some (k, n)))
right_put contexts places i k n right new p j m is = by_case (written places i p (Some (pair k n)) (Some (pair j m)) is)
  where
    by_case : (Some (pair k n) ≡ Some (pair j m)) ⊎ (slice_get places p ≡ Some (Some (pair j m))) → IsRight contexts j m
    by_case (inl e) = subst (λ (x : Entered × ℕ). IsRight contexts x.0 x.1) (same_one (pair k n) (pair j m) e) new
    by_case (inr old) = right p j m old

pub right_none : (contexts : List (List Item)) (places : List (Option (Entered × ℕ))) (count : ℕ) → places ≡ replicate count None → AreRight contexts places
right_none contexts places count none p k n is = nothing count p (sym (ap (λ (ps : List (Option (Entered × ℕ))). slice_get ps p) none) ∙ is)
  where
    nothing : (count p : ℕ) → slice_get (replicate {A = Option (Entered × ℕ)} count None) p ≡ Some (Some (k, n)) → IsRight contexts k n
    nothing zero p e = cc
    nothing (suc count) zero e = cc
    nothing (suc count) (suc p) e = nothing count p e

pub right_got : (contexts now : List (List Item)) (places : List (Option (Entered × ℕ))) (k : Entered) (p : ℕ) (o : Option ℕ) → contexts ≡ now → AreRight contexts places
    → IfSome o (λ n. slice_get places p ≡ Some (Some (pair k n))) → IfSome o (λ n. IsEntered now k.context k.domain n)
right_got contexts now places k p None e right found = tt
right_got contexts now places k p (Some n) e right found = subst (λ (cs : List (List Item)). IsEntered cs k.context k.domain n) e (right p k n found).1

-- ---- calls within a domain

no_limits : (limits : List Permission) → (length limits == 0) ≡ true → limits ≡ []
no_limits [] e = refl
no_limits (p ∷ limits) e = absurd (let n : length (p ∷ limits) ≡ 0 = eqb-true (length (p ∷ limits)) 0 e in omega arith)

abbrev item_of : ℕ → List Permission → Item
item_of d limits = record { limits = limits; domain = d }

entered_same : EnterSame → (c : List Item) (d : ℕ) → IsKept c → begins_with c d ≡ true → enter c d ≡ c
entered_same same [] d kept e = cc
entered_same same (i ∷ c) d kept e =
    let at : i.domain ≡ d = eqb-true i.domain d (and_left (i.domain == d) (length i.limits == 0) e) in
    let none : i.limits ≡ [] = no_limits i.limits (and_right (i.domain == d) (length i.limits == 0) e) in
    let is : i ≡ plain d = ap (λ (n : ℕ). item_of n i.limits) at ∙ ap (item_of d) none in
    subst (λ (x : Item). enter (x ∷ c) d ≡ x ∷ c) (sym is) (same c d (subst (λ (x : Item). IsKept (x ∷ c)) is kept))

pub known_same : EnterSame → (contexts : List (List Item)) → AreTabled contexts → (c d : ℕ) (one : List Item) → slice_get contexts c ≡ Some one → begins_with one d ≡ true → IsEntered contexts c d c
known_same same contexts tabled c d one at begins items is =
    let here : one ≡ items = same_one one items (sym at ∙ is) in
    is ∙ ap (λ (x : List Item). Some x) (sym (entered_same same items d (tabled.2 c items is) (subst (λ (x : List Item). begins_with x d ≡ true) here begins)))

-- ---- behind a call

pub holds_known : (contexts : List (List Item)) (c d n : ℕ) → IsEntered contexts c d n → HoldsEntered contexts contexts c d n
holds_known contexts c d n right items is = (right items is, inl refl)

-- what was put behind the others may be remembered
made_right : (old new : List (List Item)) (one : List Item) (c d n : ℕ) → c < length old → Holds old (enter one d) new n → slice_get old c ≡ Some one → IsRight new (record { context = c; domain = d }) n
made_right old new one c d n lt holds at = by_case holds.1
  where
    by_case : (new ≡ old) ⊎ (new ≡ old ++ enter one d ∷ []) → IsRight new (record { context = c; domain = d }) n
    by_case (inl e) = (
      subst (λ (cs : List (List Item)). c < length cs) (sym e) lt,
      λ items is.
          let here = same_one one items (sym at ∙ ap (λ (cs : List (List Item)). slice_get cs c) (sym e) ∙ is) in
          holds.0 ∙ ap (λ (x : List Item). Some (enter x d)) here,
    )
    by_case (inr e) = (
      subst (λ (cs : List (List Item)). c < length cs) (sym e) (omega (arith, lt, length-append old (enter one d ∷ []))),
      λ items is.
          let here = same_one one items (sym at ∙ sym (front c old (enter one d ∷ []) lt) ∙ ap (λ (cs : List (List Item)). slice_get cs c) (sym e) ∙ is) in
          holds.0 ∙ ap (λ (x : List Item). Some (enter x d)) here,
    )

pub entered_right : (old new : List (List Item)) (c d n : ℕ) → c < length old → HoldsEntered old new c d n → IsRight new (record { context = c; domain = d }) n
entered_right old new c d n lt holds =
    let at = slice_get-get_or old c [] lt in
    made_right old new (get_or old c []) c d n lt (holds (get_or old c []) at) at
