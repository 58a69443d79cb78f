-- Which values are of a kind, and the laws that operations have a value exactly at the kinds that they take.
use Rattle.std.specs.Prelude.{◌≡◌, Bool, true, false, ◌&&◌, ◌||◌, ◌==◌, List, [], ◌∷◌, Option, Some, None, is_some, Ok}
use Rattle.jvalues.specs.declared.jnames.kinds.Kind.{Kind}
use Rattle.jvalues.specs.declared.jnames.kinds.Kind.TheVariants as kinds
use Rattle.jvalues.specs.declared.jnames.kinds.Kinds.{Kinds}
use Rattle.jvalues.specs.declared.jnames.kinds.Kinds.TheVariants as many
use Rattle.jvalues.specs.declared.jnames.names.OpTwo.{OpTwo}
use Rattle.jvalues.specs.declared.jnames.names.OpOne.{OpOne}
use Rattle.jvalues.specs.declared.jnames.names.Division.{Division}
use Rattle.jvalues.specs.declared.jnames.names.Compare.{Compare}
use Rattle.jvalues.specs.jnames.Effects.{two_effect, one_effect, division_effect, compares_references}
use Rattle.jvalues.specs.declared.jops.value.Value.{Value}
use Rattle.jvalues.specs.declared.jops.value.Value.TheVariants.{Int, Long, Ref, Ctx}
use Rattle.jvalues.specs.jops.Operations.{two, one, divide, test}

-- Whether a value is of a kind, as far as it says itself: which object a reference names isn't looked at, so that every reference
-- may be one to an array.
abbrev pub is_of : {K : Type 0} → Kind → Value K → Bool
is_of kinds.Int (Int x) = true
is_of kinds.Long (Long x) = true
is_of kinds.Null (Ref n) = n == 0
is_of kinds.Ref (Ref n) = true
is_of kinds.Array (Ref n) = true
is_of kinds.Held (Ref n) = true
is_of kinds.Held (Ctx k) = true
is_of _ _ = false

-- whether operands, the newest first, are of these kinds and no others are there
abbrev pub are_of : {K : Type 0} → Kinds → List (Value K) → Bool
are_of many.None [] = true
are_of (many.One k) (a ∷ []) = is_of k a
are_of (many.Two k l) (b ∷ a ∷ []) = is_of l a && is_of k b
are_of (many.Three k l m) (c ∷ b ∷ a ∷ []) = is_of m a && (is_of l b && is_of k c)
are_of _ _ = false

-- whether a value is of the kind that is given, where one is
abbrev pub is_given : {K : Type 0} → Option Kind → Value K → Bool
is_given None v = false
is_given (Some k) v = is_of k v

-- ---- laws: an operation has a value exactly where its operands are of the kinds that it takes, and the value is of the kind that it gives

abbrev pub TwoByKinds : Type 0 → Type 0
TwoByKinds K = (op : OpTwo) (a b : Value K) → is_some (two op a b) ≡ are_of (two_effect op).takes (b ∷ a ∷ [])

abbrev pub TwoGives : Type 0 → Type 0
TwoGives K = (op : OpTwo) (a b v : Value K) → two op a b ≡ Some v → is_given (two_effect op).gives v ≡ true

abbrev pub OneByKinds : Type 0 → Type 0
OneByKinds K = (op : OpOne) (a : Value K) → is_some (one op a) ≡ are_of (one_effect op).takes (a ∷ [])

abbrev pub OneGives : Type 0 → Type 0
OneGives K = (op : OpOne) (a v : Value K) → one op a ≡ Some v → is_given (one_effect op).gives v ≡ true

abbrev pub DivisionByKinds : Type 0 → Type 0
DivisionByKinds K = (op : Division) (a b : Value K) → is_some (divide op a b) ≡ are_of (division_effect op).takes (b ∷ a ∷ [])

abbrev pub DivisionGives : Type 0 → Type 0
DivisionGives K = (op : Division) (a b v : Value K) → divide op a b ≡ Some (Ok v) → is_given (division_effect op).gives v ≡ true

-- two ints, or two references where these may be compared
abbrev pub TestByKinds : Type 0 → Type 0
TestByKinds K = (c : Compare) (a b : Value K)
    → is_some (test c a b)
    ≡ (are_of (many.Two kinds.Int kinds.Int) (b ∷ a ∷ []) || (compares_references c && are_of (many.Two kinds.Ref kinds.Ref) (b ∷ a ∷ [])))
