-- Operations have a value exactly at the kinds that they take.
use Rattle.std.proofs.Common.{◌≡◌, ◌∙◌, ℤ, pos, Bool, true, false, not, ◌&&◌, ◌||◌, cond, Option, Some, None, is_some, option_map, Result, Ok, Err, refl, subst}
use Rattle.std.specs.Prelude.{int_lt, int_le, int_div, int_rem}
use Rattle.std.specs.Ordering.{int_eq}
use Rattle.jvalues.specs.declared.jnames.kinds.Kind.{Kind}
use Rattle.jvalues.specs.declared.jnames.kinds.Kind.TheVariants as kinds
use Rattle.jvalues.specs.declared.jnames.names.OpTwo.TheVariants as twos
use Rattle.jvalues.specs.declared.jnames.names.OpOne.TheVariants as ones
use Rattle.jvalues.specs.declared.jnames.names.Division.TheVariants as divisions
use Rattle.jvalues.specs.declared.jnames.names.Compare.TheVariants as compares
use Rattle.jvalues.specs.declared.jops.value.Value.{Value}
use Rattle.jvalues.specs.declared.jops.value.Value.TheVariants.{Int, Long, Ref, Ctx}
use Rattle.jvalues.specs.declared.jops.value.DivideByZero.{DivideByZero}
use Rattle.jvalues.specs.jops.Operations.{two, one, divide, on_int, on_long, on_ints, on_longs, on_long_and_int, unless_zero, same, int, long}
use Rattle.jvalues.specs.ProofNames.{int_quotient, int_remainder, long_quotient, long_remainder}
use Rattle.jvalues.specs.jops.ValueKinds.{is_of, TwoByKinds, TwoGives, OneByKinds, OneGives, DivisionByKinds, DivisionGives, TestByKinds}

-- ---- whether there is a value

int_there : {K R : Type 0} (f : ℤ → R) (a : Value K) → is_some (on_int f a) ≡ is_of kinds.Int a
int_there f (Int x) = refl
int_there f (Long x) = refl
int_there f (Ref n) = refl
int_there f (Ctx k) = refl

long_there : {K R : Type 0} (f : ℤ → R) (a : Value K) → is_some (on_long f a) ≡ is_of kinds.Long a
long_there f (Int x) = refl
long_there f (Long x) = refl
long_there f (Ref n) = refl
long_there f (Ctx k) = refl

ints_there : {K R : Type 0} (f : ℤ → ℤ → R) (a b : Value K) → is_some (on_ints f a b) ≡ (is_of kinds.Int a && is_of kinds.Int b)
ints_there f (Int x) (Int y) = refl
ints_there f (Int x) (Long y) = refl
ints_there f (Int x) (Ref n) = refl
ints_there f (Int x) (Ctx k) = refl
ints_there f (Long x) b = refl
ints_there f (Ref n) b = refl
ints_there f (Ctx k) b = refl

longs_there : {K R : Type 0} (f : ℤ → ℤ → R) (a b : Value K) → is_some (on_longs f a b) ≡ (is_of kinds.Long a && is_of kinds.Long b)
longs_there f (Long x) (Int y) = refl
longs_there f (Long x) (Long y) = refl
longs_there f (Long x) (Ref n) = refl
longs_there f (Long x) (Ctx k) = refl
longs_there f (Int x) b = refl
longs_there f (Ref n) b = refl
longs_there f (Ctx k) b = refl

shifts_there : {K R : Type 0} (f : ℤ → ℤ → R) (a b : Value K) → is_some (on_long_and_int f a b) ≡ (is_of kinds.Long a && is_of kinds.Int b)
shifts_there f (Long x) (Int y) = refl
shifts_there f (Long x) (Long y) = refl
shifts_there f (Long x) (Ref n) = refl
shifts_there f (Long x) (Ctx k) = refl
shifts_there f (Int x) b = refl
shifts_there f (Ref n) b = refl
shifts_there f (Ctx k) b = refl

pub two_there : (K : Type 0) → TwoByKinds K
unfolding two
two_there K twos.Iadd a b = ints_there _ a b
two_there K twos.Isub a b = ints_there _ a b
two_there K twos.Imul a b = ints_there _ a b
two_there K twos.Ishl a b = ints_there _ a b
two_there K twos.Ishr a b = ints_there _ a b
two_there K twos.Iushr a b = ints_there _ a b
two_there K twos.Iand a b = ints_there _ a b
two_there K twos.Ior a b = ints_there _ a b
two_there K twos.Ixor a b = ints_there _ a b
two_there K twos.Ladd a b = longs_there _ a b
two_there K twos.Lsub a b = longs_there _ a b
two_there K twos.Lmul a b = longs_there _ a b
two_there K twos.Land a b = longs_there _ a b
two_there K twos.Lor a b = longs_there _ a b
two_there K twos.Lxor a b = longs_there _ a b
two_there K twos.Lcmp a b = longs_there _ a b
two_there K twos.Lshl a b = shifts_there _ a b
two_there K twos.Lshr a b = shifts_there _ a b
two_there K twos.Lushr a b = shifts_there _ a b

pub one_there : (K : Type 0) → OneByKinds K
unfolding one
one_there K ones.Ineg a = int_there _ a
one_there K ones.Lneg a = long_there _ a
one_there K ones.I2l a = int_there _ a
one_there K ones.L2i a = long_there _ a
one_there K ones.I2b a = int_there _ a
one_there K ones.I2c a = int_there _ a
one_there K ones.I2s a = int_there _ a

pub division_there : (K : Type 0) → DivisionByKinds K
unfolding divide
division_there K divisions.Idiv a b = ints_there _ a b
division_there K divisions.Irem a b = ints_there _ a b
division_there K divisions.Ldiv a b = longs_there _ a b
division_there K divisions.Lrem a b = longs_there _ a b

same_there : {K : Type 0} (a b : Value K) → is_some (same a b) ≡ ((is_of kinds.Int a && is_of kinds.Int b) || (is_of kinds.Ref a && is_of kinds.Ref b))
same_there (Int x) (Int y) = refl
same_there (Int x) (Long y) = refl
same_there (Int x) (Ref n) = refl
same_there (Int x) (Ctx k) = refl
same_there (Ref n) (Int y) = refl
same_there (Ref n) (Long y) = refl
same_there (Ref n) (Ref m) = refl
same_there (Ref n) (Ctx k) = refl
same_there (Long x) b = refl
same_there (Ctx k) b = refl

turned_there : (o : Option Bool) → is_some (option_map not o) ≡ is_some o
turned_there None = refl
turned_there (Some t) = refl

or_none : (a : Bool) → a ≡ (a || false)
or_none true = refl
or_none false = refl

pub test_there : (K : Type 0) → TestByKinds K
test_there K compares.Eq a b = same_there a b
test_there K compares.Ne a b = turned_there (same a b) ∙ same_there a b
test_there K compares.Lt a b = ints_there int_lt a b ∙ or_none (is_of kinds.Int a && is_of kinds.Int b)
test_there K compares.Ge a b = ints_there (λ x y. int_le y x) a b ∙ or_none (is_of kinds.Int a && is_of kinds.Int b)
test_there K compares.Gt a b = ints_there (λ x y. int_lt y x) a b ∙ or_none (is_of kinds.Int a && is_of kinds.Int b)
test_there K compares.Le a b = ints_there int_le a b ∙ or_none (is_of kinds.Int a && is_of kinds.Int b)

-- ---- of which kind it is

some_is : {A : Type 0} (a b : A) → Some a ≡ Some b → a ≡ b
some_is a b e = cc

int_gives : {K : Type 0} (f : ℤ → Value K) (k : Kind) → ((x : ℤ) → is_of k (f x) ≡ true) → (a v : Value K) → on_int f a ≡ Some v → is_of k v ≡ true
int_gives f k each (Int x) v e = subst (λ w. is_of k w ≡ true) (some_is (f x) v e) (each x)
int_gives f k each (Long x) v e = cc
int_gives f k each (Ref n) v e = cc
int_gives f k each (Ctx c) v e = cc

long_gives : {K : Type 0} (f : ℤ → Value K) (k : Kind) → ((x : ℤ) → is_of k (f x) ≡ true) → (a v : Value K) → on_long f a ≡ Some v → is_of k v ≡ true
long_gives f k each (Long x) v e = subst (λ w. is_of k w ≡ true) (some_is (f x) v e) (each x)
long_gives f k each (Int x) v e = cc
long_gives f k each (Ref n) v e = cc
long_gives f k each (Ctx c) v e = cc

ints_give : {K : Type 0} (f : ℤ → ℤ → Value K) (k : Kind) → ((x y : ℤ) → is_of k (f x y) ≡ true) → (a b v : Value K) → on_ints f a b ≡ Some v → is_of k v ≡ true
ints_give f k each (Int x) (Int y) v e = subst (λ w. is_of k w ≡ true) (some_is (f x y) v e) (each x y)
ints_give f k each (Int x) (Long y) v e = cc
ints_give f k each (Int x) (Ref n) v e = cc
ints_give f k each (Int x) (Ctx c) v e = cc
ints_give f k each (Long x) b v e = cc
ints_give f k each (Ref n) b v e = cc
ints_give f k each (Ctx c) b v e = cc

longs_give : {K : Type 0} (f : ℤ → ℤ → Value K) (k : Kind) → ((x y : ℤ) → is_of k (f x y) ≡ true) → (a b v : Value K) → on_longs f a b ≡ Some v → is_of k v ≡ true
longs_give f k each (Long x) (Long y) v e = subst (λ w. is_of k w ≡ true) (some_is (f x y) v e) (each x y)
longs_give f k each (Long x) (Int y) v e = cc
longs_give f k each (Long x) (Ref n) v e = cc
longs_give f k each (Long x) (Ctx c) v e = cc
longs_give f k each (Int x) b v e = cc
longs_give f k each (Ref n) b v e = cc
longs_give f k each (Ctx c) b v e = cc

shifts_give : {K : Type 0} (f : ℤ → ℤ → Value K) (k : Kind) → ((x y : ℤ) → is_of k (f x y) ≡ true) → (a b v : Value K) → on_long_and_int f a b ≡ Some v → is_of k v ≡ true
shifts_give f k each (Long x) (Int y) v e = subst (λ w. is_of k w ≡ true) (some_is (f x y) v e) (each x y)
shifts_give f k each (Long x) (Long y) v e = cc
shifts_give f k each (Long x) (Ref n) v e = cc
shifts_give f k each (Long x) (Ctx c) v e = cc
shifts_give f k each (Int x) b v e = cc
shifts_give f k each (Ref n) b v e = cc
shifts_give f k each (Ctx c) b v e = cc

pub two_gives : (K : Type 0) → TwoGives K
unfolding two
two_gives K twos.Iadd a b v e = ints_give _ kinds.Int (λ x y. refl) a b v e
two_gives K twos.Isub a b v e = ints_give _ kinds.Int (λ x y. refl) a b v e
two_gives K twos.Imul a b v e = ints_give _ kinds.Int (λ x y. refl) a b v e
two_gives K twos.Ishl a b v e = ints_give _ kinds.Int (λ x y. refl) a b v e
two_gives K twos.Ishr a b v e = ints_give _ kinds.Int (λ x y. refl) a b v e
two_gives K twos.Iushr a b v e = ints_give _ kinds.Int (λ x y. refl) a b v e
two_gives K twos.Iand a b v e = ints_give _ kinds.Int (λ x y. refl) a b v e
two_gives K twos.Ior a b v e = ints_give _ kinds.Int (λ x y. refl) a b v e
two_gives K twos.Ixor a b v e = ints_give _ kinds.Int (λ x y. refl) a b v e
two_gives K twos.Ladd a b v e = longs_give _ kinds.Long (λ x y. refl) a b v e
two_gives K twos.Lsub a b v e = longs_give _ kinds.Long (λ x y. refl) a b v e
two_gives K twos.Lmul a b v e = longs_give _ kinds.Long (λ x y. refl) a b v e
two_gives K twos.Land a b v e = longs_give _ kinds.Long (λ x y. refl) a b v e
two_gives K twos.Lor a b v e = longs_give _ kinds.Long (λ x y. refl) a b v e
two_gives K twos.Lxor a b v e = longs_give _ kinds.Long (λ x y. refl) a b v e
two_gives K twos.Lshl a b v e = shifts_give _ kinds.Long (λ x y. refl) a b v e
two_gives K twos.Lshr a b v e = shifts_give _ kinds.Long (λ x y. refl) a b v e
two_gives K twos.Lushr a b v e = shifts_give _ kinds.Long (λ x y. refl) a b v e
two_gives K twos.Lcmp a b v e = longs_give _ kinds.Int (λ x y. refl) a b v e

pub one_gives : (K : Type 0) → OneGives K
unfolding one
one_gives K ones.Ineg a v e = int_gives _ kinds.Int (λ x. refl) a v e
one_gives K ones.Lneg a v e = long_gives _ kinds.Long (λ x. refl) a v e
one_gives K ones.I2l a v e = int_gives _ kinds.Long (λ x. refl) a v e
one_gives K ones.L2i a v e = long_gives _ kinds.Int (λ x. refl) a v e
one_gives K ones.I2b a v e = int_gives _ kinds.Int (λ x. refl) a v e
one_gives K ones.I2c a v e = int_gives _ kinds.Int (λ x. refl) a v e
one_gives K ones.I2s a v e = int_gives _ kinds.Int (λ x. refl) a v e

-- a quotient that there is
quotient_is : {K : Type 0} (y : ℤ) (w v : Value K) → unless_zero y w ≡ Ok v → w ≡ v
quotient_is {K = K} y w v e = go (int_eq y (pos 0)) e
  where
    go : (z : Bool) → cond {A = Result (Value K) DivideByZero} z (Err (record {})) (Ok w) ≡ Ok v → w ≡ v
    go true h = cc
    go false h = cc

ints_divide : {K : Type 0} (f : ℤ → ℤ → Result (Value K) DivideByZero) (k : Kind)
    → ((x y : ℤ) (v : Value K) → f x y ≡ Ok v → is_of k v ≡ true) → (a b v : Value K) → on_ints f a b ≡ Some (Ok v) → is_of k v ≡ true
ints_divide f k each (Int x) (Int y) v e = each x y v (some_is (f x y) (Ok v) e)
ints_divide f k each (Int x) (Long y) v e = cc
ints_divide f k each (Int x) (Ref n) v e = cc
ints_divide f k each (Int x) (Ctx c) v e = cc
ints_divide f k each (Long x) b v e = cc
ints_divide f k each (Ref n) b v e = cc
ints_divide f k each (Ctx c) b v e = cc

longs_divide : {K : Type 0} (f : ℤ → ℤ → Result (Value K) DivideByZero) (k : Kind)
    → ((x y : ℤ) (v : Value K) → f x y ≡ Ok v → is_of k v ≡ true) → (a b v : Value K) → on_longs f a b ≡ Some (Ok v) → is_of k v ≡ true
longs_divide f k each (Long x) (Long y) v e = each x y v (some_is (f x y) (Ok v) e)
longs_divide f k each (Long x) (Int y) v e = cc
longs_divide f k each (Long x) (Ref n) v e = cc
longs_divide f k each (Long x) (Ctx c) v e = cc
longs_divide f k each (Int x) b v e = cc
longs_divide f k each (Ref n) b v e = cc
longs_divide f k each (Ctx c) b v e = cc

of_kind : {K : Type 0} (k : Kind) (y : ℤ) (w v : Value K) → is_of k w ≡ true → unless_zero y w ≡ Ok v → is_of k v ≡ true
of_kind k y w v is e = subst (λ u. is_of k u ≡ true) (quotient_is y w v e) is

pub division_gives : (K : Type 0) → DivisionGives K
unfolding divide
division_gives K divisions.Idiv a b v e = ints_divide int_quotient kinds.Int (λ x y w h. of_kind kinds.Int y (int (int_div x y)) w refl h) a b v e
division_gives K divisions.Irem a b v e = ints_divide int_remainder kinds.Int (λ x y w h. of_kind kinds.Int y (Int (int_rem x y)) w refl h) a b v e
division_gives K divisions.Ldiv a b v e = longs_divide long_quotient kinds.Long (λ x y w h. of_kind kinds.Long y (long (int_div x y)) w refl h) a b v e
division_gives K divisions.Lrem a b v e = longs_divide long_remainder kinds.Long (λ x y w h. of_kind kinds.Long y (Long (int_rem x y)) w refl h) a b v e
