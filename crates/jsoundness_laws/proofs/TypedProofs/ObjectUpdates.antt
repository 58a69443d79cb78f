-- A store of which all is as the program says, with another object in the place of one.
use Rattle.std.proofs.Common.{◌≡◌, ℕ, zero, suc, List, [], ◌∷◌, Some, ◌⊎◌, inl, inr, sym, subst}
use Rattle.std.specs.Bool.{⊤}
use Rattle.std.specs.Prelude.{slice_get, slice_set}
use Rattle.jtypes.specs.declared.vtype.VType.{VType}
use Rattle.jsemantics.specs.jmachine.HeapObjects.{Object, Bare, Text}
use Rattle.jsemantics.specs.jmachine.Store.{Store, object_at, with_object}
use Rattle.jsemantics.specs.jmachine.World.{World}
use Rattle.jsoundness_laws.specs.typed.StoreGrowth.{Becomes, Grows}
use Rattle.jsoundness_laws.specs.typed.TypedStores.{IsObject, IsStored}
use Rattle.jsoundness_laws.proofs.TypedProofs.StoreMonotonicity.{grows_changed, placed}
use Rattle.jsoundness_laws.proofs.TypedProofs.ObjectAllocation.{are_kept, object_kept}

some_is : {A : Type 0} (a b : A) → Some a ≡ Some b → a ≡ b
some_is a b e = cc

-- ---- lists

set_get : {A : Type 0} (xs : List A) (n : ℕ) (y : A) (i : ℕ) (z : A) → slice_get (slice_set xs n y) i ≡ Some z → (y ≡ z) ⊎ (slice_get xs i ≡ Some z)
set_get [] n y i z e = inr e
set_get (x ∷ xs) zero y zero z e = inl (some_is y z e)
set_get (x ∷ xs) zero y (suc i) z e = inr e
set_get (x ∷ xs) (suc n) y zero z e = inr e
set_get (x ∷ xs) (suc n) y (suc i) z e = set_get xs n y i z e

-- ---- objects that no constant and no static of the library names

abbrev pub IsFree : {K : Type 0} → Object K → Type 0
IsFree (Text (Some units)) = ⊥
IsFree (Bare c) = ⊥
IsFree x = ⊤

module _ {K : Type 0} (s : Store K) (n : ℕ) (x y : Object K) (at : object_at s (suc n) ≡ Some x) where
  abbrev Changed : Store K
  Changed = with_object s (suc n) y

  still_at : (i : ℕ) (z : Object K) → (z ≡ x → ⊥) → object_at s i ≡ Some z → object_at Changed i ≡ Some z
  still_at zero z other e = absurd (cc)
  still_at (suc i) z other e = elim (placed s.objects n x y at i z e) [
    | inl h ↦ absurd (other h.1)
    | inr h ↦ h
  ]

  no_text : IsFree x → (units : List ℕ) → Text (Some units) ≡ x → ⊥
  no_text free units e = subst IsFree (sym e) free

  no_bare : IsFree x → (c : _) → Bare c ≡ x → ⊥
  no_bare free c e = subst IsFree (sym e) free

pub stored_changed : {K : Type 0} (w : World) (s : Store K) (n : ℕ) (x y : Object K) (statics : List VType) → IsStored w s statics → object_at s (suc n) ≡ Some x → IsFree x → Becomes w x y
    → IsObject w (with_object s (suc n) y) y → IsStored w (with_object s (suc n) y) statics
stored_changed {K} w s n x y statics h at free becomes is = record {
  objects = each;
  statics_of = are_kept w s (Changed s n x y at) grows statics s.statics h.statics_of;
  constants = λ c inside. still_at s n x y at c.1 (Text (Some c.0)) (no_text s n x y at free c.0) (h.constants c inside);
  out_is = still_at s n x y at 1 _ (no_bare s n x y at free _) h.out_is;
}
  where
    grows : Grows w s (with_object s (suc n) y)
    grows = grows_changed K w s (suc n) x y at becomes

    each : (i : ℕ) (z : Object K) → object_at (with_object s (suc n) y) i ≡ Some z → IsObject w (with_object s (suc n) y) z
    each zero z e = absurd (cc)
    each (suc i) z e = elim (set_get s.objects n y i z e) [
      | inl same ↦ subst (λ z. IsObject w (with_object s (suc n) y) z) same is
      | inr old ↦ object_kept w s (with_object s (suc n) y) grows z (h.objects (suc i) z old)
    ]
