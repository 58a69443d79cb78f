-- The rows of straight instructions don't depend on what is kept.
use Rattle.std.proofs.Common.{◌≡◌, ◌∙◌, ℕ, zero, suc, ℤ, pos, Bool, true, false, not, List, [], ◌∷◌, Option, Some, None, option_map, Result, Ok, Err, refl, ap}
use Rattle.std.specs.Prelude.{int_div, int_rem, if◌then◌else◌}
use Rattle.std.specs.Ordering.{int_eq}
use Rattle.jvalues.specs.declared.jnames.names.OpTwo.{OpTwo}
use Rattle.jvalues.specs.declared.jnames.names.OpTwo.TheVariants as twos
use Rattle.jvalues.specs.declared.jnames.names.OpOne.{OpOne}
use Rattle.jvalues.specs.declared.jnames.names.OpOne.TheVariants as ones
use Rattle.jvalues.specs.declared.jnames.names.Division.{Division}
use Rattle.jvalues.specs.declared.jnames.names.Division.TheVariants as divisions
use Rattle.jvalues.specs.declared.jnames.names.Compare.{Compare}
use Rattle.jvalues.specs.declared.jnames.names.Compare.TheVariants as compares
use Rattle.jvalues.specs.declared.jops.value.Value.{Value}
use Rattle.jvalues.specs.declared.jops.value.Value.TheVariants.{Int, Long, Ref, Ctx}
use Rattle.jvalues.specs.declared.jops.value.DivideByZero.{DivideByZero}
use Rattle.jvalues.specs.jops.Operations.{divide, int, long, on_int, on_ints, on_long, on_long_and_int, on_longs, one, same, test, two}
use Rattle.jvalues.specs.ProofNames.{int_quotient, int_remainder, long_quotient, long_remainder}
use Rattle.jparts.specs.declared.jcode.names.RefTest.{RefTest}
use Rattle.jparts.specs.declared.jcode.names.RefTest.TheVariants as tests
use Rattle.jparts.specs.declared.jcode.op_form.Simple.{Simple}
use Rattle.jparts.specs.declared.jcode.op_form.Simple.TheVariants as simples
use Rattle.jresolution.specs.juses.IndexedInstructions.{Test, Always, If, IfInt, IfRef}
use Rattle.jsemantics.specs.jmachine.StateMaps.{row_map, store_map, value_map, values_map}
use Rattle.jsemantics.specs.jmachine.NaturalityLaws.{JumpAlike, SimpleAlike, SwitchAlike, ThrowAlike}
use Rattle.jsemantics.specs.jmachine.Store.{Store}
use Rattle.jsemantics.specs.jmachine.BasicInstructions.{branched, gives_one, holds, jump, quotient, simple, switch, throw}
use Rattle.jsemantics.specs.ProofNames.{compared}

-- ---- operations

module _ {K L : Type 0} (f : K → L) where
  int_alike : (h : ℤ → Value K) (a : Value K) → option_map (value_map f) (on_int h a) ≡ on_int (λ x. value_map f (h x)) (value_map f a)
  int_alike h (Int x) = refl
  int_alike h (Long x) = refl
  int_alike h (Ref n) = refl
  int_alike h (Ctx k) = refl

  long_alike : (h : ℤ → Value K) (a : Value K) → option_map (value_map f) (on_long h a) ≡ on_long (λ x. value_map f (h x)) (value_map f a)
  long_alike h (Int x) = refl
  long_alike h (Long x) = refl
  long_alike h (Ref n) = refl
  long_alike h (Ctx k) = refl

  ints_alike : (h : ℤ → ℤ → Value K) (a b : Value K) → option_map (value_map f) (on_ints h a b) ≡ on_ints (λ x y. value_map f (h x y)) (value_map f a) (value_map f b)
  ints_alike h (Int x) (Int y) = refl
  ints_alike h (Int x) (Long y) = refl
  ints_alike h (Int x) (Ref n) = refl
  ints_alike h (Int x) (Ctx k) = refl
  ints_alike h (Long x) b = refl
  ints_alike h (Ref n) b = refl
  ints_alike h (Ctx k) b = refl

  longs_alike : (h : ℤ → ℤ → Value K) (a b : Value K) → option_map (value_map f) (on_longs h a b) ≡ on_longs (λ x y. value_map f (h x y)) (value_map f a) (value_map f b)
  longs_alike h (Long x) (Long y) = refl
  longs_alike h (Long x) (Int y) = refl
  longs_alike h (Long x) (Ref n) = refl
  longs_alike h (Long x) (Ctx k) = refl
  longs_alike h (Int x) b = refl
  longs_alike h (Ref n) b = refl
  longs_alike h (Ctx k) b = refl

  shifts_alike : (h : ℤ → ℤ → Value K) (a b : Value K) → option_map (value_map f) (on_long_and_int h a b) ≡ on_long_and_int (λ x y. value_map f (h x y)) (value_map f a) (value_map f b)
  shifts_alike h (Long x) (Int y) = refl
  shifts_alike h (Long x) (Long y) = refl
  shifts_alike h (Long x) (Ref n) = refl
  shifts_alike h (Long x) (Ctx k) = refl
  shifts_alike h (Int x) b = refl
  shifts_alike h (Ref n) b = refl
  shifts_alike h (Ctx k) b = refl

  two_alike : (op : OpTwo) (a b : Value K) → option_map (value_map f) (two op a b) ≡ two op (value_map f a) (value_map f b)
  unfolding two
  two_alike twos.Iadd a b = ints_alike _ a b
  two_alike twos.Isub a b = ints_alike _ a b
  two_alike twos.Imul a b = ints_alike _ a b
  two_alike twos.Ishl a b = ints_alike _ a b
  two_alike twos.Ishr a b = ints_alike _ a b
  two_alike twos.Iushr a b = ints_alike _ a b
  two_alike twos.Iand a b = ints_alike _ a b
  two_alike twos.Ior a b = ints_alike _ a b
  two_alike twos.Ixor a b = ints_alike _ a b
  two_alike twos.Ladd a b = longs_alike _ a b
  two_alike twos.Lsub a b = longs_alike _ a b
  two_alike twos.Lmul a b = longs_alike _ a b
  two_alike twos.Land a b = longs_alike _ a b
  two_alike twos.Lor a b = longs_alike _ a b
  two_alike twos.Lxor a b = longs_alike _ a b
  two_alike twos.Lcmp a b = longs_alike _ a b
  two_alike twos.Lshl a b = shifts_alike _ a b
  two_alike twos.Lshr a b = shifts_alike _ a b
  two_alike twos.Lushr a b = shifts_alike _ a b

  one_alike : (op : OpOne) (a : Value K) → option_map (value_map f) (one op a) ≡ one op (value_map f a)
  unfolding one
  one_alike ones.Ineg a = int_alike _ a
  one_alike ones.Lneg a = long_alike _ a
  one_alike ones.I2l a = int_alike _ a
  one_alike ones.L2i a = long_alike _ a
  one_alike ones.I2b a = int_alike _ a
  one_alike ones.I2c a = int_alike _ a
  one_alike ones.I2s a = int_alike _ a

  -- ---- divisions

  abbrev result_map : Result (Value K) DivideByZero → Result (Value L) DivideByZero
  result_map (Ok v) = Ok (value_map f v)
  result_map (Err e) = Err e

  zero_alike : (b : Bool) (v : Value K) → result_map (if b then Err (record {}) else Ok v) ≡ (if b then Err (record {}) else Ok (value_map f v))
  zero_alike true v = refl
  zero_alike false v = refl

  ints_divided : (h : ℤ → ℤ → Result (Value K) DivideByZero) (i : ℤ → ℤ → Result (Value L) DivideByZero) → ((x y : ℤ) → result_map (h x y) ≡ i x y)
      → (a b : Value K) → option_map result_map (on_ints h a b) ≡ on_ints i (value_map f a) (value_map f b)
  ints_divided h i e (Int x) (Int y) = ap Some (e x y)
  ints_divided h i e (Int x) (Long y) = refl
  ints_divided h i e (Int x) (Ref n) = refl
  ints_divided h i e (Int x) (Ctx k) = refl
  ints_divided h i e (Long x) b = refl
  ints_divided h i e (Ref n) b = refl
  ints_divided h i e (Ctx k) b = refl

  longs_divided : (h : ℤ → ℤ → Result (Value K) DivideByZero) (i : ℤ → ℤ → Result (Value L) DivideByZero) → ((x y : ℤ) → result_map (h x y) ≡ i x y)
      → (a b : Value K) → option_map result_map (on_longs h a b) ≡ on_longs i (value_map f a) (value_map f b)
  longs_divided h i e (Long x) (Long y) = ap Some (e x y)
  longs_divided h i e (Long x) (Int y) = refl
  longs_divided h i e (Long x) (Ref n) = refl
  longs_divided h i e (Long x) (Ctx k) = refl
  longs_divided h i e (Int x) b = refl
  longs_divided h i e (Ref n) b = refl
  longs_divided h i e (Ctx k) b = refl

  divide_alike : (op : Division) (a b : Value K) → option_map result_map (divide op a b) ≡ divide op (value_map f a) (value_map f b)
  unfolding divide
  divide_alike divisions.Idiv a b = ints_divided int_quotient int_quotient (λ x y. zero_alike (int_eq y (pos 0)) (int (int_div x y))) a b
  divide_alike divisions.Irem a b = ints_divided int_remainder int_remainder (λ x y. zero_alike (int_eq y (pos 0)) (Int (int_rem x y))) a b
  divide_alike divisions.Ldiv a b = longs_divided long_quotient long_quotient (λ x y. zero_alike (int_eq y (pos 0)) (long (int_div x y))) a b
  divide_alike divisions.Lrem a b = longs_divided long_remainder long_remainder (λ x y. zero_alike (int_eq y (pos 0)) (Long (int_rem x y))) a b

  -- ---- tests

  same_alike : (a b : Value K) → same a b ≡ same (value_map f a) (value_map f b)
  same_alike (Int x) (Int y) = refl
  same_alike (Int x) (Long y) = refl
  same_alike (Int x) (Ref n) = refl
  same_alike (Int x) (Ctx k) = refl
  same_alike (Ref n) (Int y) = refl
  same_alike (Ref n) (Long y) = refl
  same_alike (Ref n) (Ref m) = refl
  same_alike (Ref n) (Ctx k) = refl
  same_alike (Long x) b = refl
  same_alike (Ctx k) b = refl

  order_alike : (h : ℤ → ℤ → Bool) (a b : Value K) → on_ints h a b ≡ on_ints h (value_map f a) (value_map f b)
  order_alike h (Int x) (Int y) = refl
  order_alike h (Int x) (Long y) = refl
  order_alike h (Int x) (Ref n) = refl
  order_alike h (Int x) (Ctx k) = refl
  order_alike h (Long x) b = refl
  order_alike h (Ref n) b = refl
  order_alike h (Ctx k) b = refl

  test_alike : (c : Compare) (a b : Value K) → test c a b ≡ test c (value_map f a) (value_map f b)
  test_alike compares.Eq a b = same_alike a b
  test_alike compares.Ne a b = ap (option_map not) (same_alike a b)
  test_alike compares.Lt a b = order_alike _ a b
  test_alike compares.Ge a b = order_alike _ a b
  test_alike compares.Gt a b = order_alike _ a b
  test_alike compares.Le a b = order_alike _ a b

  compared_alike : (t : RefTest) (values : List (Value K)) → compared t values ≡ compared t (values_map f values)
  compared_alike tests.Same [] = refl
  compared_alike tests.Same (a ∷ []) = refl
  compared_alike tests.Same (b ∷ a ∷ []) = test_alike compares.Eq a b
  compared_alike tests.Same (c ∷ b ∷ a ∷ rest) = refl
  compared_alike tests.Other [] = refl
  compared_alike tests.Other (a ∷ []) = refl
  compared_alike tests.Other (b ∷ a ∷ []) = test_alike compares.Ne a b
  compared_alike tests.Other (c ∷ b ∷ a ∷ rest) = refl
  compared_alike tests.Null [] = refl
  compared_alike tests.Null (a ∷ []) = test_alike compares.Eq a (Ref 0)
  compared_alike tests.Null (b ∷ a ∷ rest) = refl
  compared_alike tests.NonNull [] = refl
  compared_alike tests.NonNull (a ∷ []) = test_alike compares.Ne a (Ref 0)
  compared_alike tests.NonNull (b ∷ a ∷ rest) = refl

  holds_alike : (t : Test) (values : List (Value K)) → holds t values ≡ holds t (values_map f values)
  holds_alike Always [] = refl
  holds_alike Always (a ∷ rest) = refl
  holds_alike (If t) [] = refl
  holds_alike (If t) (a ∷ []) = test_alike t a (Int (pos 0))
  holds_alike (If t) (b ∷ a ∷ rest) = refl
  holds_alike (IfInt t) [] = refl
  holds_alike (IfInt t) (a ∷ []) = refl
  holds_alike (IfInt t) (b ∷ a ∷ []) = test_alike t a b
  holds_alike (IfInt t) (c ∷ b ∷ a ∷ rest) = refl
  holds_alike (IfRef t) values = compared_alike t values

-- ---- rows

module _ {K L E F : Type 0} (f : K → L) (g : E → F) where
  one_given : (s : Store K) (v : Option (Value K)) → option_map (row_map f g) (gives_one s v) ≡ gives_one (store_map f s) (option_map (value_map f) v)
  one_given s None = refl
  one_given s (Some v) = refl

  quotient_alike : (s : Store K) (v : Option (Result (Value K) DivideByZero)) → option_map (row_map f g) (option_map (quotient s) v) ≡ option_map (quotient (store_map f s)) (option_map (result_map f) v)
  quotient_alike s None = refl
  quotient_alike s (Some (Ok v)) = refl
  quotient_alike s (Some (Err e)) = refl

  branched_alike : (s : Store K) (to : ℕ) (b : Option Bool) → option_map (row_map f g) (option_map (branched s to) b) ≡ option_map (branched (store_map f s) to) b
  branched_alike s to None = refl
  branched_alike s to (Some true) = refl
  branched_alike s to (Some false) = refl

  pub simple_alike : (s : Store K) (form : Simple) (values : List (Value K)) → option_map (row_map f g) (simple s form values) ≡ simple (store_map f s) form (values_map f values)
  unfolding simple
  simple_alike s simples.Nothing [] = refl
  simple_alike s simples.Nothing (v ∷ rest) = refl
  simple_alike s simples.Null [] = refl
  simple_alike s simples.Null (v ∷ rest) = refl
  simple_alike s (simples.Int n) [] = refl
  simple_alike s (simples.Int n) (v ∷ rest) = refl
  simple_alike s (simples.Long n) [] = refl
  simple_alike s (simples.Long n) (v ∷ rest) = refl
  simple_alike s (simples.Two op) [] = refl
  simple_alike s (simples.Two op) (a ∷ []) = refl
  simple_alike s (simples.Two op) (b ∷ a ∷ []) = one_given s (two op a b) ∙ ap (λ (v : Option (Value L)). gives_one {E = F} (store_map f s) v) (two_alike f op a b)
  simple_alike s (simples.Two op) (c ∷ b ∷ a ∷ rest) = refl
  simple_alike s (simples.Divide op) [] = refl
  simple_alike s (simples.Divide op) (a ∷ []) = refl
  simple_alike s (simples.Divide op) (b ∷ a ∷ []) = quotient_alike s (divide op a b) ∙ ap (λ (v : Option (Result (Value L) DivideByZero)). option_map (quotient {E = F} (store_map f s)) v) (divide_alike f op a b)
  simple_alike s (simples.Divide op) (c ∷ b ∷ a ∷ rest) = refl
  simple_alike s (simples.One op) [] = refl
  simple_alike s (simples.One op) (a ∷ []) = one_given s (one op a) ∙ ap (λ (v : Option (Value L)). gives_one {E = F} (store_map f s) v) (one_alike f op a)
  simple_alike s (simples.One op) (b ∷ a ∷ rest) = refl

  pub jump_alike : (s : Store K) (t : Test) (to : ℕ) (values : List (Value K)) → option_map (row_map f g) (jump s t to values) ≡ jump (store_map f s) t to (values_map f values)
  unfolding jump
  jump_alike s t to values = branched_alike s to (holds t values) ∙ ap (λ (b : Option Bool). option_map (branched {E = F} (store_map f s) to) b) (holds_alike f t values)

  pub switch_alike : (cases : List (ℤ × ℕ)) (other : ℕ) (values : List (Value K)) → option_map (row_map f g) (switch cases other values) ≡ switch cases other (values_map f values)
  unfolding switch
  switch_alike cases other [] = refl
  switch_alike cases other (Int x ∷ []) = refl
  switch_alike cases other (Int x ∷ v ∷ rest) = refl
  switch_alike cases other (Long x ∷ rest) = refl
  switch_alike cases other (Ref x ∷ rest) = refl
  switch_alike cases other (Ctx x ∷ rest) = refl

  pub throw_alike : (values : List (Value K)) → option_map (row_map f g) (throw values) ≡ throw (values_map f values)
  unfolding throw
  throw_alike [] = refl
  throw_alike (Int x ∷ rest) = refl
  throw_alike (Long x ∷ rest) = refl
  throw_alike (Ctx x ∷ rest) = refl
  throw_alike (Ref zero ∷ []) = refl
  throw_alike (Ref (suc n) ∷ []) = refl
  throw_alike (Ref zero ∷ v ∷ rest) = refl
  throw_alike (Ref (suc n) ∷ v ∷ rest) = refl

pub simple_law : (K L E F : Type 0) → SimpleAlike K L E F
simple_law K L E F f g s form values = simple_alike f g s form values

pub jump_law : (K L E F : Type 0) → JumpAlike K L E F
jump_law K L E F f g s t to values = jump_alike f g s t to values

pub switch_law : (K L E F : Type 0) → SwitchAlike K L E F
switch_law K L E F f g cases other values = switch_alike f g cases other values

pub throw_law : (K L E F : Type 0) → ThrowAlike K L E F
throw_law K L E F f g values = throw_alike f g values
