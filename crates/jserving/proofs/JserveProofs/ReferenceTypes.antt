-- References, and objects of types that casts, throws and stores into arrays ask for.
use Rattle.std.proofs.Common.{◌≡◌, ◌∙◌, ℕ, zero, suc, ◌-◌, ◌<◌, ◌≤◌, Bool, false, ◌&&◌, List, [], ◌∷◌, length, Option, Some, None, refl, sym, ap, arith}
use Rattle.std.specs.Prelude.{is_some, option_map, slice_get}
use Rattle.jparts.specs.declared.jcode.names.CastOp.{CastOp}
use Rattle.jparts.specs.declared.jcode.names.CastOp.TheVariants as casts
use Rattle.jparts.specs.declared.jcode.names.RefTest.{RefTest}
use Rattle.jparts.specs.declared.jcode.names.RefTest.TheVariants as tests
use Rattle.jparts.specs.jcode.InstructionForms.{compared}
use Rattle.jlib.specs.declared.classes.LibClass.TheVariants as lib
use Rattle.jlib.specs.declared.classes.Thrown.TheVariants as thrown
use Rattle.jvalues.specs.declared.jnames.kinds.Kind.TheVariants as wanted
use Rattle.jvalues.specs.declared.jops.value.Value.{Value}
use Rattle.jvalues.specs.declared.jops.value.Value.TheVariants.{Ref}
use Rattle.jtypes.specs.declared.vtype.VType.{VType}
use Rattle.jtypes.specs.declared.vtype.VType.TheVariants.{Array as ArrayVType}
use Rattle.jtypes.specs.DescriptorElements.{alone, in_brackets}
use Rattle.jresolution.specs.declared.jprogram.member.Member.{Member}
use Rattle.jresolution.specs.declared.jprogram.part.ClassRef.TheVariants as refs
use Rattle.jresolution.specs.jprogram.ProgramClasses.{Program}
use Rattle.jresolution.specs.declared.juses.types.ArrayRef.{ArrayRef}
use Rattle.jresolution.specs.declared.juses.types.TypeRef.{TypeRef}
use Rattle.jresolution.specs.declared.juses.types.TypeRef.TheVariants as types
use Rattle.jresolution.specs.juses.InstructionMeanings as meanings
use Rattle.jresolution.specs.juses.InternedTypes.{array_named, element_named, named}
use Rattle.jtyping.specs.jrule.ArrayRule.{component}
use Rattle.jtyping.specs.jrule.StackEffects.{Fits, Of, Want, is_ref, of_kinds}
use Rattle.jtyping.specs.jrule.PoolEffects.{exchange}
use Rattle.jsemantics.specs.jmachine.ObjectInstructions.{is_one}
use Rattle.jsemantics.specs.jmachine.TakenOperands.{taken, type_of, serves_as}
use Rattle.jsemantics.specs.jmachine.InstructionSites.{Site}
use Rattle.jsemantics.specs.jmachine.Store.{Store}
use Rattle.jsemantics.specs.jmachine.World.{World, world}
use Rattle.jrows.specs.jobjs.EntryOperands.{IsOne, Serve}
use Rattle.jruntime.specs.jstate.HeapMeaningLaws.{SeesEach}
use Rattle.jserving.specs.jfits.TypeQueries.{is_instance}
use Rattle.jserving.specs.declared.jserve.values.Objects.{Objects}
use Rattle.jserving.specs.jserve.OperandChecks.{ServeThrown, one_serves, serves_in}
use Rattle.jserving.specs.jserve.ValueTypes.{IsStore, type_in}
use Rattle.jserving.proofs.JserveProofs.FittingOperands.{double, serves_seen, single}
use Rattle.jserving.proofs.JserveProofs.ValueTypes.{type_is}

-- ---- references

pub no_ref : (p : Program) (x : Objects) (v : Value ℕ) → None ≡ type_in x v → false ≡ serves_in p x (Of wanted.Ref) v
no_ref p x v e = ap (λ (t : Option TypeRef). serves_as (world p) (Of wanted.Ref) (option_map (named p) t)) e

pub ref_typed : (p : Program) (x : Objects) (v : Value ℕ) (t : TypeRef) (b : Bool) → Some t ≡ type_in x v → b ≡ is_ref (named p t)
    → b ≡ serves_in p x (Of wanted.Ref) v
ref_typed p x v t b e h = h ∙ ap (λ (t : Option TypeRef). serves_as (world p) (Of wanted.Ref) (option_map (named p) t)) e

module _ (law : SeesEach) (p : Program) (x : Objects) (s : Store ℕ) (store : IsStore p x s) (operands : List (Value ℕ)) where
  abbrev at_place : ℕ → Bool
  at_place i = one_serves (serves_in p x) (Of wanted.Ref) (slice_get operands i)

  one : (w : World) (want : Want) (b : Bool) → w ≡ world p → b ≡ one_serves (serves_in p x) want (slice_get operands 0)
      → is_some (taken w s (want ∷ []) operands) ≡ b
  one w want b here e =
      ap (λ (w : World). is_some (taken w s (want ∷ []) operands)) here ∙ single (world p) s (serves_in p x) (serves_seen law p x s store) want operands ∙ sym e

  pub cast_served : (at : Site) (own : Member → Bool) (op : CastOp) (t : VType) (b : Bool) → at.world ≡ world p → b ≡ at_place 0
      → Serve at own s (meanings.Cast op t) operands b
  unfolding exchange
  cast_served at own casts.CheckCast t b here e = one at.world (Of wanted.Ref) b here e
  cast_served at own casts.InstanceOf t b here e = one at.world (Of wanted.Ref) b here e

  tested : (test like : RefTest) (b : Bool) → test ≡ like → is_some (taken (world p) s (of_kinds (compared like)) operands) ≡ b
      → is_some (taken (world p) s (of_kinds (compared test)) operands) ≡ b
  tested test like b e h = ap (λ (t : RefTest). is_some (taken (world p) s (of_kinds (compared t)) operands)) e ∙ h

  null_served : (b : Bool) → b ≡ at_place 0 → is_some (taken (world p) s (Of wanted.Ref ∷ []) operands) ≡ b
  null_served b e = one (world p) (Of wanted.Ref) b refl e

  both_served : (b : Bool) → b ≡ (at_place 0 && at_place 1) → is_some (taken (world p) s (Of wanted.Ref ∷ Of wanted.Ref ∷ []) operands) ≡ b
  both_served b e = double (world p) s (serves_in p x) (serves_seen law p x s store) (Of wanted.Ref) (Of wanted.Ref) operands ∙ sym e

  pub same_served : (test : RefTest) (b : Bool) → test ≡ tests.Same → b ≡ (at_place 0 && at_place 1)
      → is_some (taken (world p) s (of_kinds (compared test)) operands) ≡ b
  same_served test b is e = tested test tests.Same b is (both_served b e)

  pub other_served : (test : RefTest) (b : Bool) → test ≡ tests.Other → b ≡ (at_place 0 && at_place 1)
      → is_some (taken (world p) s (of_kinds (compared test)) operands) ≡ b
  other_served test b is e = tested test tests.Other b is (both_served b e)

  pub is_null_served : (test : RefTest) (b : Bool) → test ≡ tests.Null → b ≡ at_place 0 → is_some (taken (world p) s (of_kinds (compared test)) operands) ≡ b
  is_null_served test b is e = tested test tests.Null b is (null_served b e)

  pub non_null_served : (test : RefTest) (b : Bool) → test ≡ tests.NonNull → b ≡ at_place 0
      → is_some (taken (world p) s (of_kinds (compared test)) operands) ≡ b
  non_null_served test b is e = tested test tests.NonNull b is (null_served b e)

  pub thrown_served : (at : Site) (b : Bool) → at.world ≡ world p
      → b ≡ one_serves (serves_in p x) (Fits (named p (types.Object (refs.Lib (lib.Thrown thrown.Throwable))))) (slice_get operands 0)
      → ServeThrown at s operands b
  thrown_served at b here e = one at.world (Fits (named p (types.Object (refs.Lib (lib.Thrown thrown.Throwable))))) b here e

-- ---- whether an object is one of a type

pub none_is : (p : Program) (x : Objects) (v : Value ℕ) (t : TypeRef) → None ≡ type_in x v
    → false ≡ is_one (world p) (named p t) (option_map (named p) (type_in x v))
none_is p x v t e = ap (λ (o : Option TypeRef). is_one (world p) (named p t) (option_map (named p) o)) e

pub some_is : (p : Program) (x : Objects) (v : Value ℕ) (t own : TypeRef) (b : Bool) → Some own ≡ type_in x v
    → b ≡ is_instance p (named p own) (named p t)
    → b ≡ is_one (world p) (named p t) (option_map (named p) (type_in x v))
unfolding world
some_is p x v t own b e h = h ∙ ap (λ (o : Option TypeRef). is_one (world p) (named p t) (option_map (named p) o)) e

module _ (law : SeesEach) (p : Program) (x : Objects) (s : Store ℕ) (store : IsStore p x s) where
  pub one_found : (operands : List (Value ℕ)) (v : Value ℕ) (t : TypeRef) (b : Bool) → Some v ≡ slice_get operands 0
      → b ≡ is_one (world p) (named p t) (option_map (named p) (type_in x v)) → IsOne (world p) s (named p t) (slice_get operands 0) b
  one_found operands v t b newest h n e =
      let same : v ≡ Ref (suc n) = cc in
      ap (λ (v : Value ℕ). is_one (world p) (named p t) (type_of (world p) s v)) (sym same)
      ∙ ap (is_one (world p) (named p t)) (type_is law p x s v store) ∙ sym h

  pub none_found : (operands : List (Value ℕ)) (t : TypeRef) (b : Bool) → length operands < 1 → IsOne (world p) s (named p t) (slice_get operands 0) b
  none_found [] t b few n e = cc
  none_found (v ∷ rest) t b few n e = absurd (omega arith)

  pub stored_served : (v : Value ℕ) (array : ArrayRef) (t : TypeRef) (b : Bool) → named p t ≡ component (array_named p array)
      → b ≡ is_one (world p) (named p t) (option_map (named p) (type_in x v)) → b ≡ is_one (world p) (component (array_named p array)) (type_of (world p) s v)
  stored_served v array t b holds h =
      h ∙ ap (λ (c : VType). is_one (world p) c (option_map (named p) (type_in x v))) holds
      ∙ sym (ap (is_one (world p) (component (array_named p array))) (type_is law p x s v store))

-- ---- what arrays hold

pub one_dimension : (p : Program) (array : ArrayRef) (t : TypeRef) → array.depth ≤ 1 → named p t ≡ alone (element_named p array.element)
    → named p t ≡ component (array_named p array)
one_dimension p array t few h = let e : array.depth - 1 ≡ 0 = omega arith in h ∙ ap (λ n. in_brackets n (element_named p array.element)) (sym e)

pub more_dimensions : (p : Program) (array : ArrayRef) → 1 < array.depth
    → ArrayVType (record { depth = array.depth - 1; element = element_named p array.element }) ≡ component (array_named p array)
more_dimensions p array many = by (array.depth - 1) (omega arith)
  where
    by : (n : ℕ) → 0 < n → ArrayVType (record { depth = n; element = element_named p array.element }) ≡ in_brackets n (element_named p array.element)
    by zero some = absurd (omega arith)
    by (suc n) some = refl
