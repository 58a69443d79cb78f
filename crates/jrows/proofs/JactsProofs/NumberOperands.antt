-- Ints and longs that are taken: whether an operand serves is said by the operand itself.
use Rattle.std.proofs.Common.{◌≡◌, ℕ, zero, suc, Bool, true, false, ◌&&◌, List, [], ◌∷◌, length, drop, Option, Some, None, refl, arith, ◌<◌}
use Rattle.std.specs.Prelude.{⊤, if◌then◌else◌, option_map, slice_get}
use Rattle.jvalues.specs.declared.jnames.kinds.Kind.{Kind}
use Rattle.jvalues.specs.declared.jnames.kinds.Kind.TheVariants as kinds
use Rattle.jvalues.specs.declared.jnames.kinds.Kinds.{Kinds}
use Rattle.jvalues.specs.declared.jnames.kinds.Kinds.TheVariants as many
use Rattle.jvalues.specs.declared.jops.value.Value.{Value}
use Rattle.jvalues.specs.declared.jops.value.Value.TheVariants.{Int, Long, Ref, Ctx}
use Rattle.jvalues.specs.jops.ValueKinds.{are_of, is_of}
use Rattle.jtypes.specs.declared.vtype.Name.{Name}
use Rattle.jtypes.specs.declared.vtype.VType.{VType}
use Rattle.jtyping.specs.jrule.StackEffects.{Of, of_kinds}
use Rattle.jtyping.specs.jrule.StackEffects as types
use Rattle.jsemantics.specs.jmachine.HeapObjects.{Object, Instance, Thrown, Text, Builder, Piece, Permission, Context, Thread, Bare, Array, class_of, is_ready}
use Rattle.jsemantics.specs.jmachine.TakenOperands.{Taken, serves, taken, with_value, serves_as, found_type}
use Rattle.jsemantics.specs.jmachine.Store.{Store, object_at}
use Rattle.jsemantics.specs.jmachine.World.{World}

-- the kinds of numbers
abbrev pub IsNumber : Kind → Type 0
IsNumber kinds.Int = ⊤
IsNumber kinds.Long = ⊤
IsNumber k = ⊥

-- ---- no object is a number

not_int : {K : Type 0} (named : ℕ → Name) (x : Object K) → types.is_of kinds.Int (class_of named x) ≡ false
not_int named (Instance class message fields) = refl
not_int named (Thrown c message) = refl
not_int named (Text units) = refl
not_int named (Builder units) = refl
not_int named (Piece units) = refl
not_int named (Permission c held) = refl
not_int named (Context kept) = refl
not_int named (Thread number) = refl
not_int named (Bare c) = refl
not_int named (Array a items) = refl

not_long : {K : Type 0} (named : ℕ → Name) (x : Object K) → types.is_of kinds.Long (class_of named x) ≡ false
not_long named (Instance class message fields) = refl
not_long named (Thrown c message) = refl
not_long named (Text units) = refl
not_long named (Builder units) = refl
not_long named (Piece units) = refl
not_long named (Permission c held) = refl
not_long named (Context kept) = refl
not_long named (Thread number) = refl
not_long named (Bare c) = refl
not_long named (Array a items) = refl

not_number : {K : Type 0} (k : Kind) → IsNumber k → (named : ℕ → Name) (x : Object K) → types.is_of k (class_of named x) ≡ false
not_number kinds.Int n named x = not_int named x
not_number kinds.Long n named x = not_long named x
not_number kinds.Null n named x = elim n [ ]
not_number kinds.Ref n named x = elim n [ ]
not_number kinds.Array n named x = elim n [ ]
not_number kinds.Held n named x = elim n [ ]

pub if_ready : (w : World) (k : Kind) (ready : Bool) (t : VType) → types.is_of k t ≡ false → serves_as w (Of k) (if ready then Some t else None) ≡ false
if_ready w k true t h = h
if_ready w k false t h = refl

found_not : {K : Type 0} (w : World) (k : Kind) → IsNumber k → (o : Option (Object K)) → serves_as w (Of k) (found_type w o) ≡ false
found_not w k n None = refl
found_not w k n (Some x) = if_ready w k (is_ready x) (class_of w.named x) (not_number k n w.named x)

-- ---- operands of these kinds

-- a value serves where a number is wanted
pub serves_by : {K : Type 0} (w : World) (s : Store K) (k : Kind) → IsNumber k → (v : Value K) → serves w s (Of k) v ≡ is_of k v
serves_by w s kinds.Int n (Int x) = refl
serves_by w s kinds.Int n (Long x) = refl
serves_by w s kinds.Int n (Ref zero) = refl
serves_by w s kinds.Int n (Ref (suc i)) = found_not w kinds.Int n (object_at s (suc i))
serves_by w s kinds.Int n (Ctx k) = refl
serves_by w s kinds.Long n (Int x) = refl
serves_by w s kinds.Long n (Long x) = refl
serves_by w s kinds.Long n (Ref zero) = refl
serves_by w s kinds.Long n (Ref (suc i)) = found_not w kinds.Long n (object_at s (suc i))
serves_by w s kinds.Long n (Ctx k) = refl
serves_by w s kinds.Null n v = elim n [ ]
serves_by w s kinds.Ref n v = elim n [ ]
serves_by w s kinds.Array n v = elim n [ ]
serves_by w s kinds.Held n v = elim n [ ]

abbrev pub AreTwo : Kinds → Type 0
AreTwo (many.Two k l) = IsNumber k × IsNumber l
AreTwo ks = ⊥

abbrev pub IsOne : Kinds → Type 0
IsOne (many.One k) = IsNumber k
IsOne ks = ⊥

abbrev pub two_taken : {K : Type 0} → Value K → Value K → List (Value K) → Taken K
two_taken a b rest = record { values = b ∷ a ∷ []; below = rest }

abbrev pub one_taken : {K : Type 0} → Value K → List (Value K) → Taken K
one_taken a rest = record { values = a ∷ []; below = rest }

-- two that serve
pub are_taken : {K : Type 0} (w : World) (s : Store K) (ks : Kinds) → AreTwo ks → (a b : Value K) (rest : List (Value K)) → are_of ks (b ∷ a ∷ []) ≡ true
    → taken w s (of_kinds ks) (b ∷ a ∷ rest) ≡ Some (two_taken a b rest)
unfolding taken
are_taken w s (many.Two k l) n a b rest h =
    rw (serves_by w s k n.0 b, serves_by w s l n.1 a) (both (is_of l a) (is_of k b) h)
  where
    both : {K : Type 0} {a b : Value K} {rest : List (Value K)} (x y : Bool) → (x && y) ≡ true
        → (if y then option_map (with_value b) (if x then Some (one_taken a rest) else None) else None) ≡ Some (two_taken a b rest)
    both true true h = refl
    both true false h = cc
    both false y h = cc
are_taken w s many.None n a b rest h = elim n [ ]
are_taken w s (many.One k) n a b rest h = elim n [ ]
are_taken w s (many.Three k l m) n a b rest h = elim n [ ]

-- two that don't serve
pub not_taken : {K : Type 0} (w : World) (s : Store K) (ks : Kinds) → AreTwo ks → (a b : Value K) (rest : List (Value K)) → are_of ks (b ∷ a ∷ []) ≡ false
    → taken w s (of_kinds ks) (b ∷ a ∷ rest) ≡ None
unfolding taken
not_taken w s (many.Two k l) n a b rest h =
    rw (serves_by w s k n.0 b, serves_by w s l n.1 a) (neither a b rest (is_of l a) (is_of k b) h)
  where
    neither : {K : Type 0} (a b : Value K) (rest : List (Value K)) (x y : Bool) → (x && y) ≡ false
        → (if y then option_map (with_value b) (if x then Some (one_taken a rest) else None) else None) ≡ None
    neither a b rest true true h = cc
    neither a b rest true false h = refl
    neither a b rest false true h = refl
    neither a b rest false false h = refl
not_taken w s many.None n a b rest h = elim n [ ]
not_taken w s (many.One k) n a b rest h = elim n [ ]
not_taken w s (many.Three k l m) n a b rest h = elim n [ ]

abbrev pub none_of : (A : Type 0) → Option A
none_of A = None

-- fewer than two
pub too_few : {K : Type 0} (w : World) (s : Store K) (ks : Kinds) → AreTwo ks → (operands : List (Value K)) → length operands < 2 → taken w s (of_kinds ks) operands ≡ None
unfolding taken
too_few w s (many.Two k l) n [] few = refl
too_few w s (many.Two k l) n (b ∷ []) few = lone (serves w s (Of k) b)
  where
    lone : {A : Type 0} (x : Bool) → (if x then none_of A else none_of A) ≡ none_of A
    lone true = refl
    lone false = refl
too_few w s (many.Two k l) n (b ∷ a ∷ rest) few = absurd (omega (arith, few))
too_few w s many.None n operands few = elim n [ ]
too_few w s (many.One k) n operands few = elim n [ ]
too_few w s (many.Three k l m) n operands few = elim n [ ]

-- one that serves, or doesn't
pub is_taken : {K : Type 0} (w : World) (s : Store K) (ks : Kinds) → IsOne ks → (a : Value K) (rest : List (Value K)) → are_of ks (a ∷ []) ≡ true
    → taken w s (of_kinds ks) (a ∷ rest) ≡ Some (one_taken a rest)
unfolding taken
is_taken w s (many.One k) n a rest h = rw (serves_by w s k n a, h) refl
is_taken w s many.None n a rest h = elim n [ ]
is_taken w s (many.Two k l) n a rest h = elim n [ ]
is_taken w s (many.Three k l m) n a rest h = elim n [ ]

pub isnt_taken : {K : Type 0} (w : World) (s : Store K) (ks : Kinds) → IsOne ks → (a : Value K) (rest : List (Value K)) → are_of ks (a ∷ []) ≡ false
    → taken w s (of_kinds ks) (a ∷ rest) ≡ None
unfolding taken
isnt_taken w s (many.One k) n a rest h = rw (serves_by w s k n a, h) refl
isnt_taken w s many.None n a rest h = elim n [ ]
isnt_taken w s (many.Two k l) n a rest h = elim n [ ]
isnt_taken w s (many.Three k l m) n a rest h = elim n [ ]

pub none_there : {K : Type 0} (w : World) (s : Store K) (ks : Kinds) → IsOne ks → (operands : List (Value K)) → length operands < 1 → taken w s (of_kinds ks) operands ≡ None
unfolding taken
none_there w s (many.One k) n [] few = refl
none_there w s (many.One k) n (a ∷ rest) few = absurd (omega (arith, few))
none_there w s many.None n operands few = elim n [ ]
none_there w s (many.Two k l) n operands few = elim n [ ]
none_there w s (many.Three k l m) n operands few = elim n [ ]

-- ---- the newest operands

pub front_two : {K : Type 0} (operands : List (Value K)) (a b : Value K) → Some b ≡ slice_get operands 0 → Some a ≡ slice_get operands 1 → operands ≡ b ∷ a ∷ drop 2 operands
front_two [] a b newer older = cc
front_two (y ∷ []) a b newer older = cc
front_two (y ∷ x ∷ rest) a b newer older = let e : b ≡ y = cc in let d : a ≡ x = cc in rw (e, d) refl

pub front_one : {K : Type 0} (operands : List (Value K)) (a : Value K) → Some a ≡ slice_get operands 0 → operands ≡ a ∷ drop 1 operands
front_one [] a newest = cc
front_one (x ∷ rest) a newest = let e : a ≡ x = cc in rw e refl
