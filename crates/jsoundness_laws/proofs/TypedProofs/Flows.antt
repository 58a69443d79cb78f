-- Rows of instructions that jump, return and throw.
use Rattle.std.proofs.Common.{◌≡◌, ℕ, zero, suc, ℤ, pos, Bool, true, false, ◌||◌, List, [], ◌∷◌, map, Option, Some, None, is_some, option_map, refl, sym, subst}
use Rattle.std.specs.Ordering.{int_eq}
use Rattle.std.specs.Prelude.{option_to_list, if◌then◌else◌}
use Rattle.jvalues.specs.declared.jnames.kinds.Kind.{Kind}
use Rattle.jvalues.specs.declared.jnames.kinds.Kind.TheVariants as kinds
use Rattle.jvalues.specs.declared.jnames.kinds.Kinds.TheVariants as many
use Rattle.jvalues.specs.declared.jnames.names.Compare.{Compare}
use Rattle.jvalues.specs.declared.jnames.names.Compare.TheVariants as compares
use Rattle.jvalues.specs.declared.jops.value.Value.{Value}
use Rattle.jvalues.specs.declared.jops.value.Value.TheVariants.{Int, Ref}
use Rattle.jvalues.specs.jops.Operations as operations
use Rattle.jvalues.proofs.JopsProofs.OperationKinds.{test_there}
use Rattle.jparts.specs.declared.jcode.names.RefTest.{RefTest}
use Rattle.jparts.specs.declared.jcode.names.RefTest.TheVariants as refs
use Rattle.jparts.specs.declared.jcode.names.Returned.{Returned}
use Rattle.jparts.specs.declared.jcode.names.Returned.TheVariants as results
use Rattle.jparts.specs.jcode.InstructionForms as forms
use Rattle.jtypes.specs.declared.vtype.VType.{VType}
use Rattle.jtypes.specs.declared.vtype.VType.TheVariants as types
use Rattle.jtypes.specs.Assignability as checked
use Rattle.jclass.specs.FileContents.{IsIn}
use Rattle.jresolution.specs.juses.IndexedInstructions.{Instruction, Jump, Switch, Throw, Test, Always, If, IfInt, IfRef, goes_on}
use Rattle.jtyping.specs.jrule.StackEffects.{Fits, Of, is_ref, of_kinds}
use Rattle.jtyping.specs.jrule.InstructionContext.{Here}
use Rattle.jtyping.specs.jrule.BasicRule.{returns, tested}
use Rattle.jtyping.specs.jrule.PoolEffects.{throwable}
use Rattle.jsemantics.specs.jmachine.MachineStates.{Jumps, Row, Throws, free, raises}
use Rattle.jsemantics.specs.jmachine.Store.{Store}
use Rattle.jsemantics.specs.jmachine.BasicInstructions.{branched, case_of, holds, jump, leave, switch, throw}
use Rattle.jsemantics.specs.ProofNames.{compared}
use Rattle.jsemantics.specs.jmachine.World.{World}
use Rattle.jlib.specs.declared.classes.LibClass.TheVariants as lib
use Rattle.jlib.specs.declared.classes.Thrown.TheVariants as thrown
use Rattle.jsoundness_laws.specs.typed.TypedFrames.{News}
use Rattle.jsoundness_laws.specs.typed.TypedStores.{IsStored}
use Rattle.jsoundness_laws.proofs.TypedProofs.StoreMonotonicity.{grows_itself}
use Rattle.jsoundness_laws.specs.typed.TypedValues.{AllServe, AreOf, IsA, Serves}
use Rattle.jsoundness_laws.proofs.TypedProofs.ValueKinds.{int_value, ref_value}
use Rattle.jsoundness_laws.proofs.TypedProofs.Simples.{HasRow}
use Rattle.jsoundness_laws.proofs.TypedProofs.TakenOperands.{ArePlain}

-- ---- jumps

ref_plain : (test : RefTest) → ArePlain (forms.listed (forms.compared test))
ref_plain refs.Same = (tt, (tt, tt))
ref_plain refs.Other = (tt, (tt, tt))
ref_plain refs.Null = (tt, tt)
ref_plain refs.NonNull = (tt, tt)

pub tested_plain : (test : Test) → ArePlain (forms.listed (tested test))
tested_plain Always = tt
tested_plain (If test) = (tt, tt)
tested_plain (IfInt test) = (tt, (tt, tt))
tested_plain (IfRef test) = ref_plain test

module _ {K : Type 0} (w : World) (s : Store K) where
  abbrev Decided : Option Bool → Type 0
  Decided o = (b : Bool) × (o ≡ Some b)

  there : (o : Option Bool) → is_some o ≡ true → Decided o
  there None e = absurd (cc)
  there (Some b) e = (b, refl)

  of_ints : (test : Compare) (x y : ℤ) → Decided (operations.test {K = K} test (Int x) (Int y))
  of_ints test x y = there (operations.test {K = K} test (Int x) (Int y)) (test_there K test (Int x) (Int y))

  int_against : (test : Compare) (y : ℤ) (v : Value K) → Serves w s (Of kinds.Int) v → Decided (operations.test test v (Int y))
  int_against test y v h = let i = int_value w s v h in subst (λ v. Decided (operations.test test v (Int y))) (sym i.1) (of_ints test i.0 y)

  ints_against : (test : Compare) (v u : Value K) → Serves w s (Of kinds.Int) v → Serves w s (Of kinds.Int) u → Decided (operations.test test v u)
  ints_against test v u h k = let i = int_value w s u k in subst (λ u. Decided (operations.test test v u)) (sym i.1) (int_against test i.0 v h)

  same_refs : (n m : ℕ) → Decided (operations.test {K = K} compares.Eq (Ref n) (Ref m))
  same_refs n m = there (operations.test {K = K} compares.Eq (Ref n) (Ref m)) refl

  other_refs : (n m : ℕ) → Decided (operations.test {K = K} compares.Ne (Ref n) (Ref m))
  other_refs n m = there (operations.test {K = K} compares.Ne (Ref n) (Ref m)) refl

  abbrev AreRefs : (Value K → Value K → Type 0) → Type 0
  AreRefs P = (n m : ℕ) → P (Ref n) (Ref m)

  of_refs : (P : Value K → Value K → Type 0) → AreRefs P → (v u : Value K) → Serves w s (Of kinds.Ref) v → Serves w s (Of kinds.Ref) u → P v u
  of_refs P all v u h k = let i = ref_value w s v h in let j = ref_value w s u k in subst (λ v. P v u) (sym i.1) (subst (λ u. P (Ref i.0) u) (sym j.1) (all i.0 j.0))

  of_ref : (P : Value K → Type 0) → ((n : ℕ) → P (Ref n)) → (v : Value K) → Serves w s (Of kinds.Ref) v → P v
  of_ref P all v h = let i = ref_value w s v h in subst P (sym i.1) (all i.0)

  refs_compared : (test : RefTest) (given : List (Value K)) → AllServe w s (of_kinds (forms.compared test)) given → Decided (compared test given)
  refs_compared refs.Same (v ∷ u ∷ []) h = of_refs (λ v u. Decided (operations.test compares.Eq u v)) (λ n m. same_refs m n) v u h.0 h.1.0
  refs_compared refs.Other (v ∷ u ∷ []) h = of_refs (λ v u. Decided (operations.test compares.Ne u v)) (λ n m. other_refs m n) v u h.0 h.1.0
  refs_compared refs.Null (v ∷ []) h = of_ref (λ v. Decided (operations.test compares.Eq v (Ref 0))) (λ n. same_refs n 0) v h.0
  refs_compared refs.NonNull (v ∷ []) h = of_ref (λ v. Decided (operations.test compares.Ne v (Ref 0))) (λ n. other_refs n 0) v h.0
  refs_compared refs.Same [] h = absurd h
  refs_compared refs.Same (v ∷ []) h = absurd h.1
  refs_compared refs.Same (v ∷ u ∷ x ∷ more) h = absurd h.1.1
  refs_compared refs.Other [] h = absurd h
  refs_compared refs.Other (v ∷ []) h = absurd h.1
  refs_compared refs.Other (v ∷ u ∷ x ∷ more) h = absurd h.1.1
  refs_compared refs.Null [] h = absurd h
  refs_compared refs.Null (v ∷ u ∷ more) h = absurd h.1
  refs_compared refs.NonNull [] h = absurd h
  refs_compared refs.NonNull (v ∷ u ∷ more) h = absurd h.1

  held : (test : Test) (given : List (Value K)) → AllServe w s (of_kinds (tested test)) given → Decided (holds test given)
  held Always [] h = (true, refl)
  held Always (v ∷ more) h = absurd h
  held (If test) (v ∷ []) h = int_against test (pos 0) v h.0
  held (If test) [] h = absurd h
  held (If test) (v ∷ u ∷ more) h = absurd h.1
  held (IfInt test) (v ∷ u ∷ []) h = ints_against test u v h.1.0 h.0
  held (IfInt test) [] h = absurd h
  held (IfInt test) (v ∷ []) h = absurd h.1
  held (IfInt test) (v ∷ u ∷ x ∷ more) h = absurd h.1.1
  held (IfRef test) given h = refs_compared test given h

  ref_of : (v : Value K) → Serves w s (Fits throwable) v → (n : ℕ) × (v ≡ Ref n)
  ref_of v h = ref_value w s v (record { type = h.type; is = h.is; met = thrown_ref h.type h.met })
    where
      thrown_ref : (a : VType) → checked.fits_where (λ c. checked.is_above_arrays c || w.tree.is_interface c) w.tree a throwable ≡ true → is_ref a ≡ true
      thrown_ref types.Null e = refl
      thrown_ref (types.Object c) e = refl
      thrown_ref (types.Array b) e = refl
      thrown_ref _ e = absurd (cc)

-- where a switch goes on is where one of its numbers leads
case_in : (cases : List (ℤ × ℕ)) (other : ℕ) (key : ℤ) → IsIn (case_of key cases other) (other ∷ map (λ c. c.1) cases)
unfolding case_of
case_in [] other key = (0, refl)
case_in (c ∷ cases) other key = go (int_eq c.0 key) (case_in cases other key)
  where
    go : (b : Bool) → IsIn (case_of key cases other) (other ∷ map (λ c. c.1) cases)
        → IsIn (if b then c.1 else case_of key cases other) (other ∷ c.1 ∷ map (λ c. c.1) cases)
    go true h = (1, refl)
    go false (zero, e) = (zero, e)
    go false (suc k, e) = (suc (suc k), e)

module _ {K E : Type 0} (w : World) (s : Store K) (statics : List VType) (stored : IsStored w s statics) (here : Here) (news : News) where
  abbrev IsRow : Instruction → Option VType → Option (Row K E) → Type 0
  IsRow i gives found = HasRow {K = K} {E = E} w s statics here news i gives found

  branch_row : (test : Test) (to : ℕ) → goes_on (Jump test to) ≡ true → (b : Bool) → IsRow (Jump test to) None (Some (branched s to b))
  branch_row test to on true = record { row = branched s to true; is = refl; act = ((0, refl), refl) }
  branch_row test to on false = record { row = branched s to false; is = refl; act = (on, grows_itself K w s, stored, tt) }

  tested_row : (test : Test) (to : ℕ) → goes_on (Jump test to) ≡ true → (given : List (Value K)) → AllServe w s (of_kinds (tested test)) given
      → IsRow (Jump test to) None (jump s test to given)
  unfolding jump
  tested_row test to on given h = let x = held w s test given h in subst (λ o. IsRow (Jump test to) None (option_map (branched s to) o)) (sym x.1) (branch_row test to on x.0)

  always_row : (to : ℕ) → IsRow (Jump Always to) None (jump {K = K} s Always to [])
  unfolding jump
  always_row to = record { row = branched s to true; is = refl; act = ((0, refl), refl) }

  pub jump_row : (test : Test) (to : ℕ) (given : List (Value K)) → AllServe w s (of_kinds (tested test)) given → IsRow (Jump test to) None (jump s test to given)
  jump_row Always to [] h = always_row to
  jump_row Always to (v ∷ more) h = absurd h
  jump_row (If test) to given h = tested_row (If test) to refl given h
  jump_row (IfInt test) to given h = tested_row (IfInt test) to refl given h
  jump_row (IfRef test) to given h = tested_row (IfRef test) to refl given h

  key_row : (cases : List (ℤ × ℕ)) (other : ℕ) (x : ℤ) → IsRow (Switch cases other) None (switch {K = K} cases other (Int x ∷ []))
  unfolding switch
  key_row cases other x = record { row = free (Jumps (case_of x cases other)); is = refl; act = (case_in cases other x, refl) }

  pub switch_row : (cases : List (ℤ × ℕ)) (other : ℕ) (given : List (Value K)) → AllServe w s (Of kinds.Int ∷ []) given → IsRow (Switch cases other) None (switch cases other given)
  switch_row cases other (v ∷ []) h = let i = int_value w s v h.0 in subst (λ v. IsRow (Switch cases other) None (switch cases other (v ∷ []))) (sym i.1) (key_row cases other i.0)
  switch_row cases other [] h = absurd h
  switch_row cases other (v ∷ u ∷ more) h = absurd h.1

  -- ---- throws

  ref_thrown : (n : ℕ) → IsA w s throwable (Ref n) → IsRow Throw None (throw (Ref n ∷ []))
  unfolding throw
  ref_thrown zero h = record { row = raises (lib.Thrown thrown.NullPointerException); is = refl; act = tt }
  ref_thrown (suc n) h = record { row = free (Throws (suc n)); is = refl; act = (h, λ e. cc) }

  pub throw_row : (given : List (Value K)) → AllServe w s (Fits throwable ∷ []) given → IsRow Throw None (throw given)
  throw_row (v ∷ []) h = let i = ref_of w s v h.0 in subst (λ v. IsRow Throw None (throw (v ∷ []))) (sym i.1) (ref_thrown i.0 (subst (λ v. IsA w s throwable v) i.1 h.0))
  throw_row [] h = absurd h
  throw_row (v ∷ u ∷ more) h = absurd h.1

  -- ---- returns

  pub leave_row : (i : Instruction) (given : List (Value K)) → AreOf w s (option_to_list here.returns) given → IsRow i None (leave given)
  leave_row i given h = record { row = _; is = refl; act = (refl, h) }
