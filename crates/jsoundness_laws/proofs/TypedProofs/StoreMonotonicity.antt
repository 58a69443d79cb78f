-- What is known of values is known in each store behind.
use Rattle.std.proofs.Common.{◌≡◌, ℕ, zero, suc, Bool, true, false, List, [], ◌∷◌, ◌++◌, Option, Some, None, ◌⊎◌, inl, inr, refl, sym, ap, subst, ◌∙◌}
use Rattle.std.specs.Prelude.{slice_get, slice_set, if◌then◌else◌}
use Rattle.jvalues.specs.declared.jops.value.Value.{Value}
use Rattle.jvalues.specs.declared.jops.value.Value.TheVariants.{Int, Long, Ref, Ctx}
use Rattle.jtypes.specs.declared.vtype.Name.{Name}
use Rattle.jtypes.specs.declared.vtype.VType.{VType}
use Rattle.jtypes.specs.declared.vtype.VType.TheVariants as types
use Rattle.jtyping.specs.jrule.StackEffects.{Want}
use Rattle.jtyping.specs.jrule.InstructionContext.{Here}
use Rattle.jsemantics.specs.jmachine.HeapObjects.{Object, class_of}
use Rattle.jsemantics.specs.jmachine.Store.{Store, object_at, with_constant, with_made}
use Rattle.jsemantics.specs.jmachine.World.{World}
use Rattle.jsoundness_laws.specs.typed.TypedFrames.{AllHave, AllHold, Has, Holds, IsMade, News}
use Rattle.jsoundness_laws.specs.typed.StoreGrowth.{Becomes, Grows, GrowsChanged, GrowsItself, GrowsMade, GrowsOn, SuitsLater}
use Rattle.jsoundness_laws.specs.typed.TypedValues.{Serves, is_whole, known, whole_type}

some_is : {A : Type 0} (a b : A) → Some a ≡ Some b → a ≡ b
some_is a b e = cc

module _ {K : Type 0} (w : World) (s t : Store K) (grows : Grows w s t) where
  record Whole (a : VType) (x : Object K) : Type 0 where
    whole : is_whole x ≡ true
    class : class_of w.named x ≡ a

  whole_in : (x : Object K) (a : VType) → (b : Bool) → is_whole x ≡ b → (if b then Some (class_of w.named x) else None) ≡ Some a → Whole a x
  whole_in x a true is e = record { whole = is; class = some_is (class_of w.named x) a e }
  whole_in x a false is e = absurd (cc)

  found_kept : (n : ℕ) (a : VType) (o : Option (Object K)) → object_at s n ≡ o → whole_type w s o ≡ Some a → whole_type w t (object_at t n) ≡ Some a
  found_kept n a None at e = absurd (cc)
  found_kept n a (Some x) at e =
      let h = whole_in x a (is_whole x) refl e in
      let later = grows n x at in
      ap (whole_type w t) later.1 ∙ ap (λ b. if b then Some (class_of w.named later.0) else None) (later.2.whole h.whole) ∙ ap (λ c. Some c) (later.2.class ∙ h.class)

  known_kept : (v : Value K) (a : VType) → known w s v ≡ Some a → known w t v ≡ Some a
  known_kept (Int x) a e = e
  known_kept (Long x) a e = e
  known_kept (Ctx k) a e = e
  known_kept (Ref zero) a e = e
  known_kept (Ref (suc n)) a e = found_kept (suc n) a (object_at s (suc n)) refl e

  pub serves_kept : (want : Want) (v : Value K) → Serves w s want v → Serves w t want v
  serves_kept want v x = record { type = x.type; is = known_kept v x.type x.is; met = x.met }

  made_kept : (o : Option Name) (n : ℕ) → IsMade w s o n → IsMade w t o n
  made_kept None n h = absurd h
  made_kept (Some c) n h = let later = grows n h.0 h.1 in (later.0, later.1, later.2.class ∙ h.2, later.2.piece ∙ h.3)

  module _ (here : Here) (news : News) where
    pub has_kept : (a : VType) (v : Value K) → Has w s here news a v → Has w t here news a v
    has_kept types.Top v h = tt
    has_kept types.UninitThis v h = (h.0, (serves_kept _ _ h.1.0, h.1.1))
    has_kept (types.Uninit o) v h = (h.0, made_kept (here.makes o) (news.made o) h.1)
    has_kept types.Int v h = serves_kept _ v h
    has_kept types.Long v h = serves_kept _ v h
    has_kept types.Null v h = serves_kept _ v h
    has_kept (types.Object c) v h = serves_kept _ v h
    has_kept (types.Array b) v h = (serves_kept _ v h.0, h.1)
    has_kept types.Ctx v h = serves_kept _ v h

    pub have_kept : (ts : List VType) (vs : List (Value K)) → AllHave w s here news ts vs → AllHave w t here news ts vs
    have_kept [] [] h = tt
    have_kept [] (v ∷ vs) h = absurd h
    have_kept (a ∷ ts) [] h = absurd h
    have_kept (a ∷ ts) (v ∷ vs) h = (has_kept a v h.0, have_kept ts vs h.1)

    hold_kept : (a : VType) (y : Option (Value K)) → Holds w s here news a y → Holds w t here news a y
    hold_kept a None h = h
    hold_kept a (Some v) h = has_kept a v h

    pub all_kept : (ts : List VType) (ls : List (Option (Value K))) → AllHold w s here news ts ls → AllHold w t here news ts ls
    all_kept [] [] h = tt
    all_kept [] (y ∷ ls) h = absurd h
    all_kept (a ∷ ts) [] h = absurd h
    all_kept (a ∷ ts) (y ∷ ls) h = (hold_kept a y h.0, all_kept ts ls h.1)

pub suits_later : (K E : Type 0) → SuitsLater K E
suits_later K E w s t here news shape f grows x = record {
  locals = all_kept w s t grows here news shape.locals f.locals x.locals;
  operands = have_kept w s t grows here news shape.stack f.operands x.operands;
}

-- ---- stores behind others

itself : {K : Type 0} (w : World) (x : Object K) → Becomes w x x
itself w x = record { class = refl; whole = λ h. h; piece = refl }

pub grows_itself : (K : Type 0) → GrowsItself K
grows_itself K w s n x at = (x, at, itself w x)

pub grows_on : (K : Type 0) → GrowsOn K
grows_on K w s t u first second n x at =
    let y = first n x at in
    let z = second n y.0 y.1 in
    (z.0, z.1, record { class = z.2.class ∙ y.2.class; whole = λ h. z.2.whole (y.2.whole h); piece = z.2.piece ∙ y.2.piece })

pub get_front : {A : Type 0} (xs ys : List A) (n : ℕ) (x : A) → slice_get xs n ≡ Some x → slice_get (xs ++ ys) n ≡ Some x
get_front [] ys n x e = absurd (cc)
get_front (a ∷ xs) ys zero x e = e
get_front (a ∷ xs) ys (suc n) x e = get_front xs ys n x e

pub grows_made : (K : Type 0) → GrowsMade K
grows_made K w s made zero x at = absurd (cc)
grows_made K w s made (suc n) x at = (x, get_front s.objects (made ∷ []) n x at, itself w x)

-- with the string of a constant, which is told
pub grows_constant : (K : Type 0) (w : World) (s : Store K) (units : List ℕ) (made : Object K) → Grows w s (with_made (with_constant s units) made)
grows_constant K w s units made zero x at = absurd (cc)
grows_constant K w s units made (suc n) x at = (x, get_front s.objects (made ∷ []) n x at, itself w x)

-- what stands in a place of a list with another item in one of its places
abbrev pub Stands : {A : Type 0} → List A → ℕ → A → A → ℕ → A → Type 0
Stands {A} xs n x y i z = ((i ≡ n) × (z ≡ x) × (slice_get (slice_set xs n y) i ≡ Some y)) ⊎ (slice_get (slice_set xs n y) i ≡ Some z)

pub placed : {A : Type 0} (xs : List A) (n : ℕ) (x y : A) → slice_get xs n ≡ Some x → (i : ℕ) (z : A) → slice_get xs i ≡ Some z → Stands xs n x y i z
placed [] n x y e i z f = absurd (cc)
placed (a ∷ xs) zero x y e zero z f = inl (refl, some_is z x (sym f ∙ e), refl)
placed (a ∷ xs) zero x y e (suc i) z f = inr f
placed (a ∷ xs) (suc n) x y e zero z f = inr f
placed (a ∷ xs) (suc n) x y e (suc i) z f = elim (placed xs n x y e i z f) [
  | inl h ↦ inl (ap suc h.0, h.1, h.2)
  | inr h ↦ inr h
]

pub grows_changed : (K : Type 0) → GrowsChanged K
grows_changed K w s zero x y at b i z e = absurd (cc)
grows_changed K w s (suc n) x y at b zero z e = absurd (cc)
grows_changed K w s (suc n) x y at b (suc i) z e = elim (placed s.objects n x y at i z e) [
  | inl h ↦ (y, h.2, subst (λ x. Becomes w x y) (sym h.1) b)
  | inr h ↦ (z, h, itself w z)
]
