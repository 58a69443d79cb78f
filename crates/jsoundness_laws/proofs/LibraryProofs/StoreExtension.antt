-- Stores that follow one another: with one more object, and with another in the place of one.
use Rattle.std.proofs.Common.{◌≡◌, ℕ, zero, suc, ◌+◌, ◌⊎◌, inl, inr, arith, true, List, [], ◌∷◌, ◌++◌, length, Some, None, refl, sym, ap, subst, ◌∙◌}
use Rattle.std.specs.Bool.{⊤}
use Rattle.std.specs.Prelude.{slice_get, slice_set, if◌then◌else◌}
use Rattle.jlib.specs.declared.classes.LibClass.TheVariants as lib
use Rattle.jvalues.specs.declared.jops.value.Value.TheVariants.{Ref}
use Rattle.jtypes.specs.declared.vtype.VType.{VType}
use Rattle.jsemantics.specs.jmachine.FieldInstructions.{out}
use Rattle.jsemantics.specs.jmachine.HeapObjects.{Object, Text, Bare, class_of}
use Rattle.jsemantics.specs.jmachine.Store.{Store, next_number, object_at, with_made, with_object}
use Rattle.jsemantics.specs.jmachine.World.{World, fits}
use Rattle.jsoundness_laws.specs.typed.StoreGrowth.{Becomes, Grows}
use Rattle.jsoundness_laws.specs.typed.TypedStores.{IsObject, IsStored}
use Rattle.jsoundness_laws.specs.typed.TypedValues.{IsA, is_whole, whole_type}
use Rattle.jsoundness_laws.proofs.TypedProofs.StoreMonotonicity.{grows_changed, grows_itself, grows_made, grows_on}
use Rattle.jsoundness_laws.proofs.TypedProofs.ObjectAllocation.{are_kept, object_kept, stored_made}
use Rattle.jsoundness_laws.specs.library.LibraryResults.{Follows, IsWhole}

-- ---- lists

some_is : {A : Type 0} (a b : A) → Some a ≡ Some b → a ≡ b
some_is a b e = cc

suc_is : (n : ℕ) → n + 1 ≡ suc n
suc_is n = omega arith

get_end : {A : Type 0} (xs : List A) (x : A) → slice_get (xs ++ x ∷ []) (length xs) ≡ Some x
get_end [] x = refl
get_end (a ∷ xs) x = get_end xs x

-- what stands in the place that was changed
set_here : {A : Type 0} (xs : List A) (n : ℕ) (x y : A) → slice_get xs n ≡ Some x → slice_get (slice_set xs n y) n ≡ Some y
set_here [] n x y e = absurd (cc)
set_here (a ∷ xs) zero x y e = refl
set_here (a ∷ xs) (suc n) x y e = set_here xs n x y e

-- and in each place of what was and of what is
set_was : {A : Type 0} (xs : List A) (n : ℕ) (y : A) (i : ℕ) (z : A) → slice_get (slice_set xs n y) i ≡ Some z → (slice_get xs i ≡ Some z) ⊎ (y ≡ z)
set_was [] n y i z e = absurd (cc)
set_was (a ∷ xs) zero y zero z e = inr (some_is y z e)
set_was (a ∷ xs) zero y (suc i) z e = inl e
set_was (a ∷ xs) (suc n) y zero z e = inl e
set_was (a ∷ xs) (suc n) y (suc i) z e = set_was xs n y i z e

set_is : {A : Type 0} (xs : List A) (n : ℕ) (x y : A) → slice_get xs n ≡ Some x → (i : ℕ) (z : A) → slice_get xs i ≡ Some z → (slice_get (slice_set xs n y) i ≡ Some z) ⊎ (z ≡ x)
set_is [] n x y at i z e = absurd (cc)
set_is (a ∷ xs) zero x y at zero z e = inr (some_is z x (sym e ∙ at))
set_is (a ∷ xs) zero x y at (suc i) z e = inl e
set_is (a ∷ xs) (suc n) x y at zero z e = inl e
set_is (a ∷ xs) (suc n) x y at (suc i) z e = set_is xs n x y at i z e

-- ---- stores

module _ {K : Type 0} (w : World) (statics : List VType) where
  pub follows_itself : (s : Store K) → IsStored w s statics → Follows w statics s s
  follows_itself s stored = record { grows = grows_itself K w s; stored = stored }

  pub follows_on : (s t u : Store K) → Follows w statics s t → Follows w statics t u → Follows w statics s u
  follows_on s t u first second = record { grows = grows_on K w s t u first.grows second.grows; stored = second.stored }

  -- ---- one more object

  pub follows_made : (s : Store K) (x : Object K) → IsStored w s statics → IsObject w (with_made s x) x → Follows w statics s (with_made s x)
  follows_made s x stored is = record { grows = grows_made K w s x; stored = stored_made K w s x statics stored is }

  pub made_at : (s : Store K) (x : Object K) → object_at (with_made s x) (next_number s) ≡ Some x
  made_at s x = ap (object_at (with_made s x)) (suc_is (length s.objects)) ∙ get_end s.objects x

  -- ---- another in the place of one

  -- an object that is neither a string nor of a class without a form: those may be told elsewhere
  abbrev pub IsChanging : Object K → Type 0
  IsChanging (Text units) = ⊥
  IsChanging (Bare c) = ⊥
  IsChanging x = ⊤

  abbrev IsThere : Store K → ℕ → Object K → Type 0
  IsThere t m z = object_at t m ≡ Some z

  kept_at : (s : Store K) (n : ℕ) (x y : Object K) → object_at s (suc n) ≡ Some x → IsChanging x → (m : ℕ) (z : Object K) → (IsChanging z → ⊥) → object_at s m ≡ Some z
      → IsThere (with_object s (suc n) y) m z
  kept_at s n x y at changing zero z fixed e = absurd (cc)
  kept_at s n x y at changing (suc m) z fixed e = elim (set_is s.objects n x y at m z e) [
    | inl same ↦ same
    | inr is ↦ absurd (fixed (subst (λ x. IsChanging x) (sym is) changing))
  ]

  pub follows_changed : (s : Store K) (n : ℕ) (x y : Object K) → IsStored w s statics → object_at s n ≡ Some x → Becomes w x y → IsChanging x
      → IsObject w (with_object s n y) y → Follows w statics s (with_object s n y)
  follows_changed s zero x y stored at becomes changing is = absurd (cc)
  follows_changed s (suc n) x y stored at becomes changing is = record {
    grows = grows;
    stored = record {
      objects = each;
      statics_of = are_kept w s (with_object s (suc n) y) grows statics s.statics stored.statics_of;
      constants = λ c inside. kept_at s n x y at changing c.1 (Text (Some c.0)) (λ fixed. fixed) (stored.constants c inside);
      out_is = kept_at s n x y at changing out (Bare lib.PrintStream) (λ fixed. fixed) stored.out_is;
    };
  }
    where
      grows : Grows w s (with_object s (suc n) y)
      grows = grows_changed K w s (suc n) x y at becomes

      each : (m : ℕ) (z : Object K) → object_at (with_object s (suc n) y) m ≡ Some z → IsObject w (with_object s (suc n) y) z
      each zero z e = absurd (cc)
      each (suc m) z e = elim (set_was s.objects n y m z e) [
        | inl old ↦ object_kept w s (with_object s (suc n) y) grows z (stored.objects (suc m) z old)
        | inr same ↦ subst (λ z. IsObject w (with_object s (suc n) y) z) same is
      ]

  pub changed_at : (s : Store K) (n : ℕ) (x y : Object K) → object_at s n ≡ Some x → object_at (with_object s n y) n ≡ Some y
  changed_at s zero x y at = absurd (cc)
  changed_at s (suc n) x y at = set_here s.objects n x y at

  pub still_whole : (s t : Store K) → Grows w s t → (n : ℕ) → IsWhole s n → IsWhole t n
  still_whole s t grows n h = let later = grows n h.0 h.1 in (later.0, later.1, later.2.whole h.2)

  -- ---- what is named

  pub is_named : (s : Store K) (t : VType) (n : ℕ) (x : Object K) → object_at s n ≡ Some x → is_whole x ≡ true → fits w (class_of w.named x) t ≡ true → IsA w s t (Ref n)
  is_named s t zero x at whole fit = absurd (cc)
  is_named s t (suc n) x at whole fit = record {
    type = class_of w.named x;
    is = ap (whole_type w s) at ∙ ap (λ b. if b then Some (class_of w.named x) else None) whole;
    met = fit;
  }
