-- What calls of doPrivileged are given.
use Rattle.std.proofs.Common.{◌≡◌, ◌∙◌, ℕ, zero, suc, ◌≤◌, Bool, List, [], ◌∷◌, length, take, Option, Some, None, refl, sym, ap, ap₂, arith}
use Rattle.std.specs.Prelude.{option_and_then, slice_get}
use Rattle.jlib.specs.declared.side.Side.{Side}
use Rattle.jlib.specs.declared.side.Side.TheVariants.{Source, Passing}
use Rattle.jvalues.specs.declared.jops.value.Value.{Value}
use Rattle.jvalues.specs.declared.jops.value.Value.TheVariants.{Int, Long, Ref, Ctx}
use Rattle.jresolution.specs.declared.jprogram.member.Member.{Member}
use Rattle.jsemantics.specs.jmachine.AccessQueries.{controller_asks, rt_asks, run_asks}
use Rattle.jsemantics.specs.jmachine.AccessCallRows.{controller_row, rt_row}
use Rattle.jsemantics.specs.jmachine.InstructionActions.{run}
use Rattle.jsemantics.specs.jmachine.Security.{Rules}
use Rattle.jsemantics.specs.jmachine.InstructionSites.{Site}
use Rattle.jsemantics.specs.jmachine.Store.{Store}
use Rattle.jlibcalls.specs.declared.jcontexts.requests.PrivilegedForm.{PrivilegedForm}
use Rattle.jlibcalls.specs.declared.jcontexts.requests.PrivilegedForm.TheVariants as forms
use Rattle.jlibcalls.specs.jcontexts.PrivilegeCalls.{request_asks, request_row}
use Rattle.jlibcalls.specs.jcontexts.PrivilegeRequests.{alone_of, call_of, context_in, domain_in, limited_of, requested, taken_by, within_of}

-- ---- the first operands

module _ {A : Type 0} where
  one_of : (xs : List A) (a : A) → Some a ≡ slice_get xs 0 → take 1 xs ≡ a ∷ []
  one_of [] a at = cc
  one_of (x ∷ xs) a at = let same : x ≡ a = cc in ap (λ y. y ∷ []) same

  two_of : (xs : List A) (a b : A) → Some a ≡ slice_get xs 0 → Some b ≡ slice_get xs 1 → take 2 xs ≡ a ∷ b ∷ []
  two_of [] a b at second = cc
  two_of (x ∷ xs) a b at second = let same : x ≡ a = cc in ap₂ (λ y ys. y ∷ ys) same (one_of xs b second)

  three_of : (xs : List A) (a b c : A) → Some a ≡ slice_get xs 0 → Some b ≡ slice_get xs 1 → Some c ≡ slice_get xs 2 → take 3 xs ≡ a ∷ b ∷ c ∷ []
  three_of [] a b c at second third = cc
  three_of (x ∷ xs) a b c at second third = let same : x ≡ a = cc in ap₂ (λ y ys. y ∷ ys) same (two_of xs b c second third)

  four_of : (xs : List A) (a b c d : A) → Some a ≡ slice_get xs 0 → Some b ≡ slice_get xs 1 → Some c ≡ slice_get xs 2 → Some d ≡ slice_get xs 3
      → take 4 xs ≡ a ∷ b ∷ c ∷ d ∷ []
  four_of [] a b c d at second third fourth = cc
  four_of (x ∷ xs) a b c d at second third fourth = let same : x ≡ a = cc in ap₂ (λ y ys. y ∷ ys) same (three_of xs b c d second third fourth)

  five_of : (xs : List A) (a b c d e : A) → Some a ≡ slice_get xs 0 → Some b ≡ slice_get xs 1 → Some c ≡ slice_get xs 2 → Some d ≡ slice_get xs 3
      → Some e ≡ slice_get xs 4 → take 5 xs ≡ a ∷ b ∷ c ∷ d ∷ e ∷ []
  five_of [] a b c d e at second third fourth fifth = cc
  five_of (x ∷ xs) a b c d e at second third fourth fifth = let same : x ≡ a = cc in ap₂ (λ y ys. y ∷ ys) same (four_of xs b c d e second third fourth fifth)

-- ---- on the source side

module _ (values : List (Value ℕ)) where
  pub source_alone : (v : Value ℕ) → Some v ≡ slice_get values 0 → Some (alone_of None v) ≡ requested Source forms.Alone (take 1 values)
  source_alone v at = rw (one_of values v at) refl

  pub source_within : (context v : Value ℕ) → Some context ≡ slice_get values 0 → Some v ≡ slice_get values 1
      → Some (within_of None context v) ≡ requested Source forms.Within (take 2 values)
  source_within context v at second = rw (two_of values context v at second) refl

  pub source_limited : (array context v : Value ℕ) → Some array ≡ slice_get values 0 → Some context ≡ slice_get values 1 → Some v ≡ slice_get values 2
      → Some (limited_of None None array context v) ≡ requested Source forms.Limited (take 3 values)
  source_limited array context v at second third = rw (three_of values array context v at second third) refl

  -- ---- on the passing side

  pub passing_alone : (d v : Value ℕ) (n : ℕ) → Some d ≡ slice_get values 0 → Some v ≡ slice_get values 1 → Some n ≡ domain_in d
      → Some (alone_of (Some n) v) ≡ requested Passing forms.Alone (take 2 values)
  passing_alone d v n at second told = rw (two_of values d v at second, ← told) refl

  pub passing_within : (d context v : Value ℕ) (n : ℕ) → Some d ≡ slice_get values 0 → Some context ≡ slice_get values 1 → Some v ≡ slice_get values 2
      → Some n ≡ domain_in d → Some (within_of (Some n) context v) ≡ requested Passing forms.Within (take 3 values)
  passing_within d context v n at second third told = rw (three_of values d context v at second third, ← told) refl

  pub passing_limited : (d k array context v : Value ℕ) (n c : ℕ) → Some d ≡ slice_get values 0 → Some k ≡ slice_get values 1 → Some array ≡ slice_get values 2
      → Some context ≡ slice_get values 3 → Some v ≡ slice_get values 4 → Some n ≡ domain_in d → Some c ≡ context_in k
      → Some (limited_of (Some n) (Some c) array context v) ≡ requested Passing forms.Limited (take 5 values)
  passing_limited d k array context v n c at second third fourth fifth told given =
      rw (five_of values d k array context v at second third fourth fifth, ← told, ← given) refl

-- ---- operands that aren't such

pub alone_untold : (values : List (Value ℕ)) (d : Value ℕ) → 2 ≤ length values → Some d ≡ slice_get values 0 → None ≡ domain_in d
    → None ≡ requested Passing forms.Alone (take 2 values)
alone_untold [] d few at none = absurd (omega (arith, few))
alone_untold (x ∷ []) d few at none = absurd (omega (arith, few))
alone_untold (x ∷ v ∷ rest) d few at none = let same : x ≡ d = cc in rw (same, ← none) refl

pub within_untold : (values : List (Value ℕ)) (d : Value ℕ) → 3 ≤ length values → Some d ≡ slice_get values 0 → None ≡ domain_in d
    → None ≡ requested Passing forms.Within (take 3 values)
within_untold [] d few at none = absurd (omega (arith, few))
within_untold (x ∷ []) d few at none = absurd (omega (arith, few))
within_untold (x ∷ context ∷ []) d few at none = absurd (omega (arith, few))
within_untold (x ∷ context ∷ v ∷ rest) d few at none = let same : x ≡ d = cc in rw (same, ← none) refl

pub limited_untold : (values : List (Value ℕ)) (d : Value ℕ) → 5 ≤ length values → Some d ≡ slice_get values 0 → None ≡ domain_in d
    → None ≡ requested Passing forms.Limited (take 5 values)
limited_untold [] d few at none = absurd (omega (arith, few))
limited_untold (x ∷ []) d few at none = absurd (omega (arith, few))
limited_untold (x ∷ k ∷ []) d few at none = absurd (omega (arith, few))
limited_untold (x ∷ k ∷ array ∷ []) d few at none = absurd (omega (arith, few))
limited_untold (x ∷ k ∷ array ∷ context ∷ []) d few at none = absurd (omega (arith, few))
limited_untold (x ∷ k ∷ array ∷ context ∷ v ∷ rest) d few at none = let same : x ≡ d = cc in rw (same, ← none) refl

pub limited_without : (values : List (Value ℕ)) (d k : Value ℕ) (n : ℕ) → 5 ≤ length values → Some d ≡ slice_get values 0 → Some n ≡ domain_in d
    → Some k ≡ slice_get values 1 → None ≡ context_in k → None ≡ requested Passing forms.Limited (take 5 values)
limited_without [] d k n few at told second none = absurd (omega (arith, few))
limited_without (x ∷ []) d k n few at told second none = absurd (omega (arith, few))
limited_without (x ∷ y ∷ []) d k n few at told second none = absurd (omega (arith, few))
limited_without (x ∷ y ∷ array ∷ []) d k n few at told second none = absurd (omega (arith, few))
limited_without (x ∷ y ∷ array ∷ context ∷ []) d k n few at told second none = absurd (omega (arith, few))
limited_without (x ∷ y ∷ array ∷ context ∷ v ∷ rest) d k n few at told second none =
    let same : x ≡ d = cc in let also : y ≡ k = cc in rw (same, also, ← told, ← none) refl

-- ---- so many others

none_else : (side : Side) (form : PrivilegedForm) (values : List (Value ℕ)) → (length values ≡ taken_by side form → ⊥) → requested side form values ≡ None
none_else Source forms.Alone [] other = refl
none_else Source forms.Alone (v ∷ []) other = absurd (other refl)
none_else Source forms.Alone (v ∷ w ∷ rest) other = refl
none_else Source forms.Within [] other = refl
none_else Source forms.Within (v ∷ []) other = refl
none_else Source forms.Within (v ∷ w ∷ []) other = absurd (other refl)
none_else Source forms.Within (v ∷ w ∷ x ∷ rest) other = refl
none_else Source forms.Limited [] other = refl
none_else Source forms.Limited (v ∷ []) other = refl
none_else Source forms.Limited (v ∷ w ∷ []) other = refl
none_else Source forms.Limited (v ∷ w ∷ x ∷ []) other = absurd (other refl)
none_else Source forms.Limited (v ∷ w ∷ x ∷ y ∷ rest) other = refl
none_else Passing forms.Alone [] other = refl
none_else Passing forms.Alone (v ∷ []) other = refl
none_else Passing forms.Alone (v ∷ w ∷ []) other = absurd (other refl)
none_else Passing forms.Alone (v ∷ w ∷ x ∷ rest) other = refl
none_else Passing forms.Within [] other = refl
none_else Passing forms.Within (v ∷ []) other = refl
none_else Passing forms.Within (v ∷ w ∷ []) other = refl
none_else Passing forms.Within (v ∷ w ∷ x ∷ []) other = absurd (other refl)
none_else Passing forms.Within (v ∷ w ∷ x ∷ y ∷ rest) other = refl
none_else Passing forms.Limited [] other = refl
none_else Passing forms.Limited (v ∷ []) other = refl
none_else Passing forms.Limited (v ∷ w ∷ []) other = refl
none_else Passing forms.Limited (v ∷ w ∷ x ∷ []) other = refl
none_else Passing forms.Limited (v ∷ w ∷ x ∷ y ∷ []) other = refl
none_else Passing forms.Limited (v ∷ w ∷ x ∷ y ∷ z ∷ []) other = absurd (other refl)
none_else Passing forms.Limited (v ∷ w ∷ x ∷ y ∷ z ∷ u ∷ rest) other = refl

taken_length : (count : ℕ) (values : List (Value ℕ)) → count ≤ length values → length (take count values) ≡ count
taken_length zero values few = refl
taken_length (suc n) [] few = absurd (omega (arith, few))
taken_length (suc n) (v ∷ values) few = ap suc (taken_length n values (omega (arith, few)))

pub other_count : (side : Side) (form : PrivilegedForm) (count : ℕ) (values : List (Value ℕ)) → count ≤ length values → (count ≡ taken_by side form → ⊥)
    → None ≡ requested side form (take count values)
other_count side form count values few other =
    sym (none_else side form (take count values) (λ e. other (sym (taken_length count values few) ∙ e)))

-- ---- the rows of calls, and what they ask

-- Operands of a call have the row of what they ask for, and ask what it asks.
abbrev pub IsRequested : Type 0 → Store ℕ → Side → PrivilegedForm → List (Value ℕ) → Type 0
IsRequested E s call_side form values = let q = requested call_side form values in
    ((r : Rules ℕ E) (at : Site) (own : Member → Bool) (entries : List E) (inherited : Option ℕ)
    → run r at own s entries inherited (call_of call_side form) values ≡ option_and_then (request_row r at s entries) q)
    × ((side : Side) (at : Site) → run_asks side at s (call_of call_side form) values ≡ option_and_then (request_asks side at s) q)

pub is_requested : (E : Type 0) (s : Store ℕ) (call_side : Side) (form : PrivilegedForm) (values : List (Value ℕ)) → IsRequested E s call_side form values
unfolding controller_row rt_row controller_asks rt_asks
is_requested E s Source forms.Alone [] = (λ r at own entries inherited. refl, λ side at. refl)
is_requested E s Source forms.Alone (v ∷ []) = (λ r at own entries inherited. refl, λ side at. refl)
is_requested E s Source forms.Alone (v ∷ w ∷ rest) = (λ r at own entries inherited. refl, λ side at. refl)
is_requested E s Source forms.Within [] = (λ r at own entries inherited. refl, λ side at. refl)
is_requested E s Source forms.Within (v ∷ []) = (λ r at own entries inherited. refl, λ side at. refl)
is_requested E s Source forms.Within (v ∷ w ∷ []) = (λ r at own entries inherited. refl, λ side at. refl)
is_requested E s Source forms.Within (v ∷ w ∷ x ∷ rest) = (λ r at own entries inherited. refl, λ side at. refl)
is_requested E s Source forms.Limited [] = (λ r at own entries inherited. refl, λ side at. refl)
is_requested E s Source forms.Limited (v ∷ []) = (λ r at own entries inherited. refl, λ side at. refl)
is_requested E s Source forms.Limited (v ∷ w ∷ []) = (λ r at own entries inherited. refl, λ side at. refl)
is_requested E s Source forms.Limited (v ∷ w ∷ x ∷ []) = (λ r at own entries inherited. refl, λ side at. refl)
is_requested E s Source forms.Limited (v ∷ w ∷ x ∷ y ∷ rest) = (λ r at own entries inherited. refl, λ side at. refl)
is_requested E s Passing forms.Alone [] = (λ r at own entries inherited. refl, λ side at. refl)
is_requested E s Passing forms.Alone (Int d ∷ []) = (λ r at own entries inherited. refl, λ side at. refl)
is_requested E s Passing forms.Alone (Int d ∷ w ∷ []) = (λ r at own entries inherited. refl, λ side at. refl)
is_requested E s Passing forms.Alone (Int d ∷ w ∷ x ∷ rest) = (λ r at own entries inherited. refl, λ side at. refl)
is_requested E s Passing forms.Alone (Long d ∷ []) = (λ r at own entries inherited. refl, λ side at. refl)
is_requested E s Passing forms.Alone (Long d ∷ w ∷ []) = (λ r at own entries inherited. refl, λ side at. refl)
is_requested E s Passing forms.Alone (Long d ∷ w ∷ x ∷ rest) = (λ r at own entries inherited. refl, λ side at. refl)
is_requested E s Passing forms.Alone (Ref d ∷ []) = (λ r at own entries inherited. refl, λ side at. refl)
is_requested E s Passing forms.Alone (Ref d ∷ w ∷ []) = (λ r at own entries inherited. refl, λ side at. refl)
is_requested E s Passing forms.Alone (Ref d ∷ w ∷ x ∷ rest) = (λ r at own entries inherited. refl, λ side at. refl)
is_requested E s Passing forms.Alone (Ctx d ∷ []) = (λ r at own entries inherited. refl, λ side at. refl)
is_requested E s Passing forms.Alone (Ctx d ∷ w ∷ []) = (λ r at own entries inherited. refl, λ side at. refl)
is_requested E s Passing forms.Alone (Ctx d ∷ w ∷ x ∷ rest) = (λ r at own entries inherited. refl, λ side at. refl)
is_requested E s Passing forms.Within [] = (λ r at own entries inherited. refl, λ side at. refl)
is_requested E s Passing forms.Within (Int d ∷ []) = (λ r at own entries inherited. refl, λ side at. refl)
is_requested E s Passing forms.Within (Int d ∷ w ∷ []) = (λ r at own entries inherited. refl, λ side at. refl)
is_requested E s Passing forms.Within (Int d ∷ w ∷ x ∷ []) = (λ r at own entries inherited. refl, λ side at. refl)
is_requested E s Passing forms.Within (Int d ∷ w ∷ x ∷ y ∷ rest) = (λ r at own entries inherited. refl, λ side at. refl)
is_requested E s Passing forms.Within (Long d ∷ []) = (λ r at own entries inherited. refl, λ side at. refl)
is_requested E s Passing forms.Within (Long d ∷ w ∷ []) = (λ r at own entries inherited. refl, λ side at. refl)
is_requested E s Passing forms.Within (Long d ∷ w ∷ x ∷ []) = (λ r at own entries inherited. refl, λ side at. refl)
is_requested E s Passing forms.Within (Long d ∷ w ∷ x ∷ y ∷ rest) = (λ r at own entries inherited. refl, λ side at. refl)
is_requested E s Passing forms.Within (Ref d ∷ []) = (λ r at own entries inherited. refl, λ side at. refl)
is_requested E s Passing forms.Within (Ref d ∷ w ∷ []) = (λ r at own entries inherited. refl, λ side at. refl)
is_requested E s Passing forms.Within (Ref d ∷ w ∷ x ∷ []) = (λ r at own entries inherited. refl, λ side at. refl)
is_requested E s Passing forms.Within (Ref d ∷ w ∷ x ∷ y ∷ rest) = (λ r at own entries inherited. refl, λ side at. refl)
is_requested E s Passing forms.Within (Ctx d ∷ []) = (λ r at own entries inherited. refl, λ side at. refl)
is_requested E s Passing forms.Within (Ctx d ∷ w ∷ []) = (λ r at own entries inherited. refl, λ side at. refl)
is_requested E s Passing forms.Within (Ctx d ∷ w ∷ x ∷ []) = (λ r at own entries inherited. refl, λ side at. refl)
is_requested E s Passing forms.Within (Ctx d ∷ w ∷ x ∷ y ∷ rest) = (λ r at own entries inherited. refl, λ side at. refl)
is_requested E s Passing forms.Limited [] = (λ r at own entries inherited. refl, λ side at. refl)
is_requested E s Passing forms.Limited (Int d ∷ []) = (λ r at own entries inherited. refl, λ side at. refl)
is_requested E s Passing forms.Limited (Int d ∷ (Int k) ∷ []) = (λ r at own entries inherited. refl, λ side at. refl)
is_requested E s Passing forms.Limited (Int d ∷ (Int k) ∷ x ∷ []) = (λ r at own entries inherited. refl, λ side at. refl)
is_requested E s Passing forms.Limited (Int d ∷ (Int k) ∷ x ∷ y ∷ []) = (λ r at own entries inherited. refl, λ side at. refl)
is_requested E s Passing forms.Limited (Int d ∷ (Int k) ∷ x ∷ y ∷ z ∷ []) = (λ r at own entries inherited. refl, λ side at. refl)
is_requested E s Passing forms.Limited (Int d ∷ (Int k) ∷ x ∷ y ∷ z ∷ u ∷ rest) = (λ r at own entries inherited. refl, λ side at. refl)
is_requested E s Passing forms.Limited (Int d ∷ (Long k) ∷ []) = (λ r at own entries inherited. refl, λ side at. refl)
is_requested E s Passing forms.Limited (Int d ∷ (Long k) ∷ x ∷ []) = (λ r at own entries inherited. refl, λ side at. refl)
is_requested E s Passing forms.Limited (Int d ∷ (Long k) ∷ x ∷ y ∷ []) = (λ r at own entries inherited. refl, λ side at. refl)
is_requested E s Passing forms.Limited (Int d ∷ (Long k) ∷ x ∷ y ∷ z ∷ []) = (λ r at own entries inherited. refl, λ side at. refl)
is_requested E s Passing forms.Limited (Int d ∷ (Long k) ∷ x ∷ y ∷ z ∷ u ∷ rest) = (λ r at own entries inherited. refl, λ side at. refl)
is_requested E s Passing forms.Limited (Int d ∷ (Ref k) ∷ []) = (λ r at own entries inherited. refl, λ side at. refl)
is_requested E s Passing forms.Limited (Int d ∷ (Ref k) ∷ x ∷ []) = (λ r at own entries inherited. refl, λ side at. refl)
is_requested E s Passing forms.Limited (Int d ∷ (Ref k) ∷ x ∷ y ∷ []) = (λ r at own entries inherited. refl, λ side at. refl)
is_requested E s Passing forms.Limited (Int d ∷ (Ref k) ∷ x ∷ y ∷ z ∷ []) = (λ r at own entries inherited. refl, λ side at. refl)
is_requested E s Passing forms.Limited (Int d ∷ (Ref k) ∷ x ∷ y ∷ z ∷ u ∷ rest) = (λ r at own entries inherited. refl, λ side at. refl)
is_requested E s Passing forms.Limited (Int d ∷ (Ctx k) ∷ []) = (λ r at own entries inherited. refl, λ side at. refl)
is_requested E s Passing forms.Limited (Int d ∷ (Ctx k) ∷ x ∷ []) = (λ r at own entries inherited. refl, λ side at. refl)
is_requested E s Passing forms.Limited (Int d ∷ (Ctx k) ∷ x ∷ y ∷ []) = (λ r at own entries inherited. refl, λ side at. refl)
is_requested E s Passing forms.Limited (Int d ∷ (Ctx k) ∷ x ∷ y ∷ z ∷ []) = (λ r at own entries inherited. refl, λ side at. refl)
is_requested E s Passing forms.Limited (Int d ∷ (Ctx k) ∷ x ∷ y ∷ z ∷ u ∷ rest) = (λ r at own entries inherited. refl, λ side at. refl)
is_requested E s Passing forms.Limited (Long d ∷ []) = (λ r at own entries inherited. refl, λ side at. refl)
is_requested E s Passing forms.Limited (Long d ∷ w ∷ []) = (λ r at own entries inherited. refl, λ side at. refl)
is_requested E s Passing forms.Limited (Long d ∷ w ∷ x ∷ []) = (λ r at own entries inherited. refl, λ side at. refl)
is_requested E s Passing forms.Limited (Long d ∷ w ∷ x ∷ y ∷ []) = (λ r at own entries inherited. refl, λ side at. refl)
is_requested E s Passing forms.Limited (Long d ∷ w ∷ x ∷ y ∷ z ∷ []) = (λ r at own entries inherited. refl, λ side at. refl)
is_requested E s Passing forms.Limited (Long d ∷ w ∷ x ∷ y ∷ z ∷ u ∷ rest) = (λ r at own entries inherited. refl, λ side at. refl)
is_requested E s Passing forms.Limited (Ref d ∷ []) = (λ r at own entries inherited. refl, λ side at. refl)
is_requested E s Passing forms.Limited (Ref d ∷ w ∷ []) = (λ r at own entries inherited. refl, λ side at. refl)
is_requested E s Passing forms.Limited (Ref d ∷ w ∷ x ∷ []) = (λ r at own entries inherited. refl, λ side at. refl)
is_requested E s Passing forms.Limited (Ref d ∷ w ∷ x ∷ y ∷ []) = (λ r at own entries inherited. refl, λ side at. refl)
is_requested E s Passing forms.Limited (Ref d ∷ w ∷ x ∷ y ∷ z ∷ []) = (λ r at own entries inherited. refl, λ side at. refl)
is_requested E s Passing forms.Limited (Ref d ∷ w ∷ x ∷ y ∷ z ∷ u ∷ rest) = (λ r at own entries inherited. refl, λ side at. refl)
is_requested E s Passing forms.Limited (Ctx d ∷ []) = (λ r at own entries inherited. refl, λ side at. refl)
is_requested E s Passing forms.Limited (Ctx d ∷ w ∷ []) = (λ r at own entries inherited. refl, λ side at. refl)
is_requested E s Passing forms.Limited (Ctx d ∷ w ∷ x ∷ []) = (λ r at own entries inherited. refl, λ side at. refl)
is_requested E s Passing forms.Limited (Ctx d ∷ w ∷ x ∷ y ∷ []) = (λ r at own entries inherited. refl, λ side at. refl)
is_requested E s Passing forms.Limited (Ctx d ∷ w ∷ x ∷ y ∷ z ∷ []) = (λ r at own entries inherited. refl, λ side at. refl)
is_requested E s Passing forms.Limited (Ctx d ∷ w ∷ x ∷ y ∷ z ∷ u ∷ rest) = (λ r at own entries inherited. refl, λ side at. refl)
