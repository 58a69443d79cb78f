-- A store of which all is as the program says, with one more object that is so.
use Rattle.std.proofs.Common.{◌≡◌, ℕ, zero, suc, ◌+◌, length, arith, List, [], ◌∷◌, ◌++◌, Some, ◌⊎◌, inl, inr, refl, ap, subst, ◌∙◌}
use Rattle.std.specs.Prelude.{slice_get}
use Rattle.jvalues.specs.declared.jops.value.Value.{Value}
use Rattle.jvalues.specs.declared.jops.value.Value.TheVariants.{Ref}
use Rattle.jtypes.specs.declared.vtype.VType.{VType}
use Rattle.jtyping.specs.jrule.ArrayRule.{component}
use Rattle.jsemantics.specs.jmachine.HeapObjects.{Object, Instance, Thrown, Text, Builder, Piece, Permission, Context, Thread, Bare, Array}
use Rattle.jclass.specs.FileContents.{IsIn}
use Rattle.jsemantics.specs.jmachine.Store.{Store, next_number, object_at, with_constant, with_made}
use Rattle.jsemantics.specs.jmachine.World.{World}
use Rattle.jsoundness_laws.specs.typed.StoreGrowth.{Grows}
use Rattle.jsoundness_laws.specs.typed.TypedStores.{EachOf, IsObject, IsStored, StoredMade}
use Rattle.jsoundness_laws.specs.typed.TypedValues.{AreOf}
use Rattle.jsoundness_laws.proofs.TypedProofs.StoreMonotonicity.{get_front, grows_constant, grows_made, serves_kept}

module _ {K : Type 0} (w : World) (s t : Store K) (grows : Grows w s t) where
  pub each_kept : (a : VType) (vs : List (Value K)) → EachOf w s a vs → EachOf w t a vs
  each_kept a [] h = tt
  each_kept a (v ∷ vs) h = (serves_kept w s t grows _ v h.0, each_kept a vs h.1)

  pub are_kept : (ts : List VType) (vs : List (Value K)) → AreOf w s ts vs → AreOf w t ts vs
  are_kept [] [] h = tt
  are_kept [] (v ∷ vs) h = absurd h
  are_kept (a ∷ ts) [] h = absurd h
  are_kept (a ∷ ts) (v ∷ vs) h = (serves_kept w s t grows _ v h.0, are_kept ts vs h.1)

  pub object_kept : (x : Object K) → IsObject w s x → IsObject w t x
  object_kept (Instance class message fields) h = (serves_kept w s t grows _ (Ref message) h.0, are_kept (w.layout class) fields h.1)
  object_kept (Thrown c message) h = (h.0, serves_kept w s t grows _ (Ref message) h.1)
  object_kept (Array a items) h = (h.0, each_kept (component a) items h.1)
  object_kept (Text units) h = tt
  object_kept (Builder units) h = tt
  object_kept (Piece units) h = tt
  object_kept (Permission c held) h = tt
  object_kept (Context kept) h = tt
  object_kept (Thread number) h = tt
  object_kept (Bare c) h = h

some_is : {A : Type 0} (a b : A) → Some a ≡ Some b → a ≡ b
some_is a b e = cc

at_end : {A : Type 0} (xs : List A) (x : A) (n : ℕ) (y : A) → slice_get (xs ++ x ∷ []) n ≡ Some y → (slice_get xs n ≡ Some y) ⊎ (x ≡ y)
at_end [] x zero y e = inr (some_is x y e)
at_end [] x (suc n) y e = absurd (cc)
at_end (a ∷ xs) x zero y e = inl e
at_end (a ∷ xs) x (suc n) y e = at_end xs x n y e

made_at : {K : Type 0} (s : Store K) (x : Object K) (n : ℕ) (y : Object K) → object_at s n ≡ Some y → object_at (with_made s x) n ≡ Some y
made_at s x zero y e = absurd (cc)
made_at s x (suc n) y e = get_front s.objects (x ∷ []) n y e

pub stored_made : (K : Type 0) → StoredMade K
stored_made K w s x statics h is = record {
  objects = each;
  statics_of = are_kept w s (with_made s x) (grows_made K w s x) statics s.statics h.statics_of;
  constants = λ c inside. made_at s x c.1 (Text (Some c.0)) (h.constants c inside);
  out_is = made_at s x 1 _ h.out_is;
}
  where
    each : (n : ℕ) (y : Object K) → object_at (with_made s x) n ≡ Some y → IsObject w (with_made s x) y
    each zero y e = absurd (cc)
    each (suc n) y e = elim (at_end s.objects x n y e) [
      | inl old ↦ object_kept w s (with_made s x) (grows_made K w s x) y (h.objects (suc n) y old)
      | inr same ↦ subst (λ y. IsObject w (with_made s x) y) same is
    ]

-- ---- string constants

pub get_end : {A : Type 0} (xs : List A) (x : A) → slice_get (xs ++ x ∷ []) (length xs) ≡ Some x
get_end [] x = refl
get_end (y ∷ xs) x = get_end xs x

suc_is : (n : ℕ) → n + 1 ≡ suc n
suc_is n = omega arith

module _ {K : Type 0} (s : Store K) (units : List ℕ) where
  abbrev pub WithText : Store K
  WithText = with_made (with_constant s units) (Text (Some units))

  still_at : (n : ℕ) (y : Object K) → object_at s n ≡ Some y → object_at WithText n ≡ Some y
  still_at zero y e = absurd (cc)
  still_at (suc n) y e = get_front s.objects (Text (Some units) ∷ []) n y e

  new_at : object_at WithText (next_number s) ≡ Some (Text (Some units))
  new_at = ap (object_at WithText) (suc_is (length s.objects)) ∙ get_end s.objects (Text (Some units))

pub stored_constant : (K : Type 0) (w : World) (s : Store K) (units : List ℕ) (statics : List VType) → IsStored w s statics
    → IsStored w (with_made (with_constant s units) (Text (Some units))) statics
stored_constant K w s units statics h = record {
  objects = each;
  statics_of = are_kept w s (WithText s units) (grows_constant K w s units (Text (Some units))) statics s.statics h.statics_of;
  constants = told;
  out_is = still_at s units 1 _ h.out_is;
}
  where
    each : (n : ℕ) (y : Object K) → object_at (WithText s units) n ≡ Some y → IsObject w (WithText s units) y
    each zero y e = absurd (cc)
    each (suc n) y e = elim (at_end s.objects (Text (Some units)) n y e) [
      | inl old ↦ object_kept w s (WithText s units) (grows_constant K w s units (Text (Some units))) y (h.objects (suc n) y old)
      | inr same ↦ subst (λ y. IsObject w (WithText s units) y) same tt
    ]

    told : (c : List ℕ × ℕ) → IsIn c (s.constants ++ (units, next_number s) ∷ []) → object_at (WithText s units) c.1 ≡ Some (Text (Some c.0))
    told c inside = elim (at_end s.constants (units, next_number s) inside.0 c inside.1) [
      | inl old ↦ still_at s units c.1 (Text (Some c.0)) (h.constants c (inside.0, old))
      | inr same ↦ subst (λ (c : List ℕ × ℕ). object_at (WithText s units) c.1 ≡ Some (Text (Some c.0))) same (new_at s units)
    ]
