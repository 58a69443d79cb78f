-- Chains as a loop makes them, and as a loop goes along them.
use Rattle.std.proofs.Common.{◌≡◌, ℕ, zero, suc, ◌+◌, ◌-◌, ◌≤◌, ◌<◌, ◌==◌, true, false, List, [], ◌∷◌, ◌++◌, length, fold, get_or, take, Option, Some, None, refl, sym, ap, subst, ◌∙◌, arith, add-one, inl, inr, ◌||◌, ◌⊎◌, eq-eqb, eqb-true}
use Rattle.std.specs.Prelude.{slice_get, slice_set}
use Rattle.std.proofs.lemmas.Bool.{cases_Bool}
use Rattle.std.proofs.lemmas.List.{length-append, length-set, length-take-le, take_all}
use Rattle.std.proofs.lemmas.Nat.{mod_below}
use Rattle.std.proofs.Math.Seq.{take-suc}
use Rattle.jperm.specs.declared.permission.Permission.{Permission}
use Rattle.jperm.specs.PermissionChains.{AllStand, chain, has_place, linked, newest, places, slot}
use Rattle.jperm.specs.PermissionKeys.{key_of}
use Rattle.jperm.proofs.Cover.{either, or_left, or_right}

-- ---- going along a chain

pub chain_at : (older : List (Option ℕ)) (n i p : ℕ) → i < n → chain older (n - i) (Some p) ≡ p ∷ chain older (n - (i + 1)) (linked older p)
unfolding chain
chain_at older n i p lt = let e : n - i ≡ suc (n - (i + 1)) = omega arith in rw e refl

none_along : (older : List (Option ℕ)) (n : ℕ) → chain older n None ≡ []
unfolding chain
none_along older zero = refl
none_along older (suc n) = refl

pub along_none : {F : Type 0} (f : F → ℕ → F) (older : List (Option ℕ)) (n : ℕ) (at : Option ℕ) (found total : F) → at ≡ None
    → fold f found (chain older n at) ≡ total → found ≡ total
along_none f older n at found total is so_far =
    let step : fold f found (chain older n at) ≡ found = rw (is, none_along older n) refl in
    sym step ∙ so_far

pub along_end : {F : Type 0} (f : F → ℕ → F) (older : List (Option ℕ)) (n i : ℕ) (at : Option ℕ) (found total : F) → n ≤ i
    → fold f found (chain older (n - i) at) ≡ total → found ≡ total
unfolding chain
along_end f older n i at found total le so_far =
    let e : n - i ≡ 0 = omega arith in
    let step : fold f found (chain older (n - i) at) ≡ found = rw e refl in
    sym step ∙ so_far

-- ---- one more entry

linked_before : (older : List (Option ℕ)) (x : Option ℕ) (q : ℕ) → (linked (older ++ x ∷ []) q ≡ linked older q) ⊎ (linked older q ≡ None)
linked_before [] x q = inr refl
linked_before (y ∷ older) x zero = inl refl
linked_before (y ∷ older) x (suc q) = linked_before older x q

linked_last : (older : List (Option ℕ)) (x : Option ℕ) → linked (older ++ x ∷ []) (length older) ≡ x
linked_last [] x = refl
linked_last (y ∷ older) x = linked_last older x

false_true : {Q : Type 0} → false ≡ true → Q
false_true e = absurd cc

not_in_none : {Q : Type 0} (older : List (Option ℕ)) (n p : ℕ) (at : Option ℕ) → at ≡ None → has_place (chain older n at) p ≡ true → Q
not_in_none older n p at is h =
    let none : has_place (chain older n at) p ≡ false = rw (is, none_along older n) refl in
    false_true (sym none ∙ h)

-- what stands in a chain stands there with more entries
stays : (older : List (Option ℕ)) (x : Option ℕ) (n : ℕ) (at : Option ℕ) (p : ℕ) → has_place (chain older n at) p ≡ true → has_place (chain (older ++ x ∷ []) n at) p ≡ true
unfolding chain
stays older x zero at p h = h
stays older x (suc n) None p h = h
stays older x (suc n) (Some q) p h =
    either (q == p) (has_place (chain older n (linked older q)) p) h
    (λ e. or_left (q == p) (has_place (chain (older ++ x ∷ []) n (linked (older ++ x ∷ []) q)) p) e)
    (λ e. or_right (q == p) (has_place (chain (older ++ x ∷ []) n (linked (older ++ x ∷ []) q)) p)
    (elim (linked_before older x q) [
      | inl same ↦ subst (λ (t : Option ℕ). has_place (chain (older ++ x ∷ []) n t) p ≡ true) (sym same) (stays older x n (linked older q) p e)
      | inr none ↦ not_in_none older n p (linked older q) none e
    ]))

-- and where one more may be gone along
longer : (older : List (Option ℕ)) (n : ℕ) (at : Option ℕ) (p : ℕ) → has_place (chain older n at) p ≡ true → has_place (chain older (suc n) at) p ≡ true
unfolding chain
longer older zero at p h = false_true h
longer older (suc n) None p h = h
longer older (suc n) (Some q) p h =
    either (q == p) (has_place (chain older n (linked older q)) p) h
    (λ e. or_left (q == p) (has_place (chain older (suc n) (linked older q)) p) e)
    (λ e. or_right (q == p) (has_place (chain older (suc n) (linked older q)) p) (longer older n (linked older q) p e))

set_here : (heads : List (Option ℕ)) (k : ℕ) (place : Option ℕ) → k < length heads → linked (slice_set heads k place) k ≡ place
set_here [] k place lt = absurd (omega (arith, lt))
set_here (x ∷ xs) zero place lt = refl
set_here (x ∷ xs) (suc k) place lt = set_here xs k place (omega (arith, lt))

set_other : (heads : List (Option ℕ)) (k j : ℕ) (place : Option ℕ) → (k ≡ j → ⊥) → linked (slice_set heads k place) j ≡ linked heads j
set_other [] zero j place apart = refl
set_other [] (suc k) j place apart = refl
set_other (x ∷ xs) zero zero place apart = absurd (apart refl)
set_other (x ∷ xs) zero (suc j) place apart = refl
set_other (x ∷ xs) (suc k) zero place apart = refl
set_other (x ∷ xs) (suc k) (suc j) place apart = set_other xs k j place (λ e. apart (ap (λ n. suc n) e))

-- what a list with one more has at a place
one_more : {X : Type 0} (xs : List X) (x y : X) (p : ℕ) → slice_get (xs ++ x ∷ []) p ≡ Some y → (slice_get xs p ≡ Some y) ⊎ ((p ≡ length xs) × (x ≡ y))
one_more [] x y zero h = inr (refl, cc)
one_more [] x y (suc p) h = absurd cc
one_more (z ∷ xs) x y zero h = inl h
one_more (z ∷ xs) x y (suc p) h = elim (one_more xs x y p h) [
  | inl before ↦ inl before
  | inr last ↦ inr (ap (λ n. suc n) last.0, last.1)
]

-- the chain of a key that the new entry has not
other_chain : (heads older : List (Option ℕ)) (x : Option ℕ) (k place key p : ℕ) → (k ≡ slot (length heads) key → ⊥)
    → has_place (places heads older key) p ≡ true → has_place (places (slice_set heads k (Some place)) (older ++ x ∷ []) key) p ≡ true
other_chain heads older x k place key p apart h =
    let size : length (older ++ x ∷ []) ≡ suc (length older) = rw length-append (omega arith) in
    let head : newest (slice_set heads k (Some place)) key ≡ newest heads key =
    ap (λ (c : ℕ). linked (slice_set heads k (Some place)) (slot c key)) (length-set heads k (Some place)) ∙ set_other heads k (slot (length heads) key) (Some place) apart in
    let new : List (Option ℕ) = older ++ x ∷ [] in
    let there : has_place (chain new (suc (length older)) (newest heads key)) p ≡ true = longer new (length older) (newest heads key) p (stays older x (length older) (newest heads key) p h) in
    subst (λ (n : ℕ). has_place (chain new n (newest (slice_set heads k (Some place)) key)) p ≡ true) (sym size)
    (subst (λ (o : Option ℕ). has_place (chain new (suc (length older)) o) p ≡ true) (sym head) there)

-- the chain that the new entry begins
same_chain : (heads older : List (Option ℕ)) (k key p : ℕ) → k ≡ slot (length heads) key → k < length heads
    → (length older ≡ p) ⊎ (has_place (places heads older key) p ≡ true)
    → has_place (places (slice_set heads k (Some (length older))) (older ++ linked heads k ∷ []) key) p ≡ true
unfolding chain
same_chain heads older k key p is lt h =
    let new : List (Option ℕ) = older ++ linked heads k ∷ [] in
    let size : length new ≡ suc (length older) = rw length-append (omega arith) in
    let head : newest (slice_set heads k (Some (length older))) key ≡ Some (length older) =
    ap (λ (c : ℕ). linked (slice_set heads k (Some (length older))) (slot c key)) (length-set heads k (Some (length older)))
    ∙ ap (λ (j : ℕ). linked (slice_set heads k (Some (length older))) j) (sym is) ∙ set_here heads k (Some (length older)) lt in
    let last : linked new (length older) ≡ newest heads key = linked_last older (linked heads k) ∙ ap (λ (j : ℕ). linked heads j) is in
    let rest : List ℕ = chain new (length older) (linked new (length older)) in
    let found : ((length older == p) || has_place rest p) ≡ true = elim h [
      | inl here ↦ or_left (length older == p) (has_place rest p) (eq-eqb (length older) p here)
      | inr there ↦ or_right (length older == p) (has_place rest p)
          (subst (λ (t : Option ℕ). has_place (chain new (length older) t) p ≡ true) (sym last) (stays older (linked heads k) (length older) (newest heads key) p there))
    ] in
    subst (λ (n : ℕ). has_place (chain new n (newest (slice_set heads k (Some (length older))) key)) p ≡ true) (sym size)
    (subst (λ (o : Option ℕ). has_place (chain new (suc (length older)) o) p ≡ true) (sym head) found)

pub stand_next : (list : List Permission) (m : Permission) (heads older : List (Option ℕ)) (k : ℕ) → length older ≡ length list → k ≡ slot (length heads) (key_of m) → k < length heads
    → AllStand list heads older → AllStand (list ++ m ∷ []) (slice_set heads k (Some (length older))) (older ++ linked heads k ∷ [])
stand_next list m heads older k n is lt stand p q at = elim (cases_Bool (k == slot (length heads) (key_of q))) [
  | inl y ↦ same_chain heads older k (key_of q) p (eqb-true k (slot (length heads) (key_of q)) y) lt (elim (one_more list m q p at) [
    | inl before ↦ inr (stand p q before)
    | inr last ↦ inl (n ∙ sym last.0)
  ])
  | inr differ ↦
      let apart : k ≡ slot (length heads) (key_of q) → ⊥ = λ e. false_true (sym differ ∙ eq-eqb k (slot (length heads) (key_of q)) e) in
      elim (one_more list m q p at) [
        | inl before ↦ other_chain heads older (linked heads k) k (length older) (key_of q) p apart (stand p q before)
        | inr last ↦ absurd (apart (is ∙ ap (λ (r : Permission). slot (length heads) (key_of r)) last.1))
      ]
]

-- ---- the loop over entries

pub none_stand : (heads older : List (Option ℕ)) → AllStand [] heads older
none_stand heads older p m at = absurd cc

stand_step : (list : List Permission) (i : ℕ) (m : Permission) (heads older : List (Option ℕ)) (k : ℕ) → i < length list → m ≡ get_or list i m → length older ≡ i
    → k ≡ slot (length heads) (key_of m) → k < length heads → AllStand (take i list) heads older
    → AllStand (take (i + 1) list) (slice_set heads k (Some (length older))) (older ++ linked heads k ∷ [])
stand_step list i m heads older k lt at n is within stand =
    let size : length (take i list) ≡ i = length-take-le i list (omega arith) in
    let more : take (i + 1) list ≡ take i list ++ m ∷ [] = rw (add-one, take-suc list i m, ← at) refl in
    subst (λ (l : List Permission). AllStand l (slice_set heads k (Some (length older))) (older ++ linked heads k ∷ [])) (sym more)
    (stand_next (take i list) m heads older k (n ∙ sym size) is within stand)

-- what the loop keeps: so many entries stand in chains
abbrev pub Standing : List Permission → ℕ → List (Option ℕ) → List (Option ℕ) → Type 0
Standing list i heads older = (length older ≡ i) × ((0 < length heads) × AllStand (take i list) heads older)

pub next_stands : (list : List Permission) (i : ℕ) (m : Permission) (heads older heads_now older_now : List (Option ℕ)) (key : ℕ) → i < length list → m ≡ get_or list i m → key ≡ key_of m
    → older_now ≡ older ++ newest heads key ∷ [] → heads_now ≡ slice_set heads (slot (length heads) key) (Some (length older)) → Standing list i heads older → Standing list (i + 1) heads_now older_now
next_stands list i m heads older heads_now older_now key lt at is grown put standing =
    let within : slot (length heads) key < length heads = mod_below key (length heads) standing.1.0 in
    let stand : AllStand (take (i + 1) list) (slice_set heads (slot (length heads) key) (Some (length older))) (older ++ newest heads key ∷ []) =
    stand_step list i m heads older (slot (length heads) key) lt at standing.0 (ap (slot (length heads)) is) within standing.1.1 in
    let some : 0 < length (slice_set heads (slot (length heads) key) (Some (length older))) = rw (length-set heads (slot (length heads) key) (Some (length older))) standing.1.0 in
    let more : length (older ++ newest heads key ∷ []) ≡ i + 1 = length-append older (newest heads key ∷ []) ∙ ap (λ (n : ℕ). n + 1) standing.0 in (
      ap length grown ∙ more,
      (
        subst (λ (hs : List (Option ℕ)). 0 < length hs) (sym put) some,
        subst (λ (hs : List (Option ℕ)). AllStand (take (i + 1) list) hs older_now) (sym put)
            (subst (λ (ls : List (Option ℕ)). AllStand (take (i + 1) list) (slice_set heads (slot (length heads) key) (Some (length older))) ls) (sym grown) stand),
      ),
    )

pub all_stand : (list : List Permission) (i : ℕ) (heads older : List (Option ℕ)) → length list ≤ i → Standing list i heads older → (0 < length heads) × AllStand list heads older
all_stand list i heads older le standing = (standing.1.0, subst (λ (l : List Permission). AllStand l heads older) (take_all i list le) standing.1.1)
