-- Kinds of values, by the types that are known of them.
use Rattle.std.proofs.Common.{◌≡◌, ℕ, zero, suc, ℤ, Bool, true, false, ◌||◌, List, Option, Some, None, refl, sym, ap, subst, ◌∙◌}
use Rattle.std.specs.Bool.{⊤}
use Rattle.std.specs.Prelude.{if◌then◌else◌}
use Rattle.jvalues.specs.declared.jnames.kinds.Kind.{Kind}
use Rattle.jvalues.specs.declared.jnames.kinds.Kind.TheVariants as kinds
use Rattle.jvalues.specs.declared.jops.value.Value.{Value}
use Rattle.jvalues.specs.declared.jops.value.Value.TheVariants.{Int, Long, Ref, Ctx}
use Rattle.jvalues.specs.jops.ValueKinds as values
use Rattle.jvalues.specs.jops.Shuffles as shuffles
use Rattle.jtypes.specs.declared.vtype.ArrayType.{ArrayType}
use Rattle.jtypes.specs.declared.vtype.VType.{VType}
use Rattle.jtypes.specs.declared.vtype.VType.TheVariants as types
use Rattle.jtyping.specs.jrule.StackEffects.{Want, Fits, Of, is_of, is_ref}
use Rattle.jtyping.specs.jrule.InstructionContext.{Here}
use Rattle.jtyping.specs.jrule.LocalRule.{is_top}
use Rattle.jtypes.specs.TypeFrames.{is_long}
use Rattle.jsemantics.specs.jmachine.HeapObjects.{Object, Instance, Thrown, Text, Builder, Piece, Permission, Context, Thread, Bare, Array, class_of}
use Rattle.jsemantics.specs.jmachine.TakenOperands.{serves, type_of, serves_as, found_type}
use Rattle.jsemantics.specs.jmachine.Store.{Store, object_at}
use Rattle.jsemantics.specs.jmachine.World.{World, fits}
use Rattle.jsoundness_laws.specs.typed.TypedValues.{Serves, is_whole, known, whole_type}
use Rattle.jsoundness_laws.specs.typed.TypedFrames.{News, Has}
use Rattle.jsoundness_laws.specs.typed.RuntimeAssignability.{IsValueType}

-- the kinds of what computes: no `this` and no object before its `<init>` is of one
abbrev pub IsPlain : Kind → Type 0
IsPlain kinds.Held = ⊥
IsPlain k = ⊤

-- ---- what fits a kind is of it

module _ (w : World) where
  pub int_fits : (a : VType) → fits w a types.Int ≡ true → a ≡ types.Int
  int_fits types.Int e = refl
  int_fits _ e = absurd (cc)

  pub long_fits : (a : VType) → fits w a types.Long ≡ true → a ≡ types.Long
  long_fits types.Long e = refl
  long_fits _ e = absurd (cc)

  pub null_fits : (a : VType) → fits w a types.Null ≡ true → a ≡ types.Null
  null_fits types.Null e = refl
  null_fits _ e = absurd (cc)

  pub ref_fits : (c : _) (a : VType) → fits w a (types.Object c) ≡ true → is_ref a ≡ true
  ref_fits c types.Null e = refl
  ref_fits c (types.Object d) e = refl
  ref_fits c (types.Array b) e = refl
  ref_fits c _ e = absurd (cc)

  pub array_fits : (b : _) (a : VType) → fits w a (types.Array b) ≡ true → is_of kinds.Array a ≡ true
  array_fits b types.Null e = refl
  array_fits b (types.Array d) e = refl
  array_fits b _ e = absurd (cc)

  pub array_ref : (a : VType) → is_of kinds.Array a ≡ true → is_ref a ≡ true
  array_ref types.Null e = refl
  array_ref (types.Array b) e = refl
  array_ref _ e = absurd (cc)

  pub kind_kept : (k : Kind) (a b : VType) → IsPlain k → fits w a b ≡ true → is_of k b ≡ true → is_of k a ≡ true
  kind_kept kinds.Held a b h f e = absurd h
  kind_kept kinds.Int a types.Int h f e = ap (is_of kinds.Int) (int_fits a f)
  kind_kept kinds.Long a types.Long h f e = ap (is_of kinds.Long) (long_fits a f)
  kind_kept kinds.Null a types.Null h f e = ap (is_of kinds.Null) (null_fits a f)
  kind_kept kinds.Ref a types.Null h f e = ap (is_of kinds.Ref) (null_fits a f)
  kind_kept kinds.Ref a (types.Object c) h f e = ref_fits c a f
  kind_kept kinds.Ref a (types.Array b) h f e = array_ref a (array_fits b a f)
  kind_kept kinds.Array a types.Null h f e = ap (is_of kinds.Array) (null_fits a f)
  kind_kept kinds.Array a (types.Array b) h f e = array_fits b a f
  kind_kept k a b h f e = absurd (cc)

some_is : {A : Type 0} (a b : A) → Some a ≡ Some b → a ≡ b
some_is a b e = cc

never : false ≡ true → ⊥
never e = cc

apart : (a b : Bool) → a || b ≡ false → a ≡ true → ⊥
apart true b e t = cc
apart false b e t = cc

behind : (a b : Bool) → a || b ≡ false → b ≡ true → ⊥
behind true b e t = cc
behind false true e t = cc
behind false false e t = cc

-- ---- what is of a plain kind is a value's type

pub not_top : (k : Kind) → is_of k types.Top ≡ true → ⊥
not_top kinds.Int e = cc
not_top kinds.Long e = cc
not_top kinds.Null e = cc
not_top kinds.Ref e = cc
not_top kinds.Array e = cc
not_top kinds.Held e = cc

not_this : (k : Kind) → IsPlain k → is_of k types.UninitThis ≡ true → ⊥
not_this kinds.Held h e = h
not_this kinds.Int h e = cc
not_this kinds.Long h e = cc
not_this kinds.Null h e = cc
not_this kinds.Ref h e = cc
not_this kinds.Array h e = cc

not_new : (k : Kind) (o : ℕ) → IsPlain k → is_of k (types.Uninit o) ≡ true → ⊥
not_new kinds.Held o h e = h
not_new kinds.Int o h e = cc
not_new kinds.Long o h e = cc
not_new kinds.Null o h e = cc
not_new kinds.Ref o h e = cc
not_new kinds.Array o h e = cc

module _ {K : Type 0} (w : World) (s : Store K) where
  -- what is known of a value serves where its kind is wanted
  pub has_kind : (here : Here) (news : News) (k : Kind) (a : VType) (v : Value K) → IsPlain k → Has w s here news a v → is_of k a ≡ true → Serves w s (Of k) v
  has_kind here news k types.Top v h x e = absurd (not_top k e)
  has_kind here news k types.UninitThis v h x e = absurd (not_this k h e)
  has_kind here news k (types.Uninit o) v h x e = absurd (not_new k o h e)
  has_kind here news k types.Int v h x e = record { type = x.type; is = x.is; met = kind_kept w k x.type types.Int h x.met e }
  has_kind here news k types.Long v h x e = record { type = x.type; is = x.is; met = kind_kept w k x.type types.Long h x.met e }
  has_kind here news k types.Null v h x e = record { type = x.type; is = x.is; met = kind_kept w k x.type types.Null h x.met e }
  has_kind here news k (types.Object c) v h x e = record { type = x.type; is = x.is; met = kind_kept w k x.type (types.Object c) h x.met e }
  has_kind here news k (types.Array b) v h x e = record { type = x.0.type; is = x.0.is; met = kind_kept w k x.0.type (types.Array b) h x.0.met e }
  has_kind here news k types.Ctx v h x e = record { type = x.type; is = x.is; met = kind_kept w k x.type types.Ctx h x.met e }

  -- ---- the machine finds it too

  whole_found : (o : Option (Object K)) (a : VType) → whole_type w s o ≡ Some a → found_type w o ≡ Some a
  whole_found None a e = absurd (cc)
  whole_found (Some (Piece units)) a e = absurd (cc)
  whole_found (Some x) a e = e

  pub known_type : (v : Value K) (a : VType) → known w s v ≡ Some a → type_of w s v ≡ Some a
  known_type (Int x) a e = e
  known_type (Long x) a e = e
  known_type (Ctx k) a e = e
  known_type (Ref zero) a e = e
  known_type (Ref (suc n)) a e = whole_found (object_at s (suc n)) a e

  pub served : (want : Want) (v : Value K) → Serves w s want v → serves w s want v ≡ true
  served want v x = ap (serves_as w want) (known_type v x.type x.is) ∙ x.met

  -- ---- numbers

  abbrev pub Of_class : VType → Option (Object K) → Type 0
  Of_class a o = (x : Object K) × (o ≡ Some x) × (a ≡ class_of w.named x)

  pub whole_class : (o : Option (Object K)) (a : VType) → whole_type w s o ≡ Some a → Of_class a o
  whole_class None a e = absurd (cc)
  whole_class (Some x) a e = (x, refl, go (is_whole x) e)
    where
      go : (b : Bool) → (if b then Some (class_of w.named x) else None) ≡ Some a → a ≡ class_of w.named x
      go true e = cc
      go false e = absurd (cc)

  no_number : (x : Object K) → is_of kinds.Int (class_of w.named x) || is_of kinds.Long (class_of w.named x) ≡ false
  no_number (Instance class message fields) = refl
  no_number (Thrown c message) = refl
  no_number (Text units) = refl
  no_number (Builder units) = refl
  no_number (Piece units) = refl
  no_number (Permission c held) = refl
  no_number (Context kept) = refl
  no_number (Thread number) = refl
  no_number (Bare c) = refl
  no_number (Array b items) = refl

  class_value : (x : Object K) → IsValueType (class_of w.named x)
  class_value (Instance class message fields) = tt
  class_value (Thrown c message) = tt
  class_value (Text units) = tt
  class_value (Builder units) = tt
  class_value (Piece units) = tt
  class_value (Permission c held) = tt
  class_value (Context kept) = tt
  class_value (Thread number) = tt
  class_value (Bare c) = tt
  class_value (Array b items) = tt

  -- what is known of a value is a type that values have
  pub known_value : (v : Value K) (a : VType) → known w s v ≡ Some a → IsValueType a
  known_value (Int x) a e = subst IsValueType (some_is types.Int a e) tt
  known_value (Long x) a e = subst IsValueType (some_is types.Long a e) tt
  known_value (Ctx k) a e = subst IsValueType (some_is types.Ctx a e) tt
  known_value (Ref zero) a e = subst IsValueType (some_is types.Null a e) tt
  known_value (Ref (suc n)) a e = let c = whole_class (object_at s (suc n)) a e in subst IsValueType (sym c.2) (class_value c.0)

  abbrev is_number : VType → Bool
  is_number a = is_of kinds.Int a || is_of kinds.Long a

  no_reference : (n : ℕ) (a : VType) → known w s (Ref n) ≡ Some a → is_number a ≡ false
  no_reference zero a e = ap is_number (some_is a types.Null (sym e))
  no_reference (suc n) a e = let c = whole_class (object_at s (suc n)) a e in ap is_number c.2 ∙ no_number c.0

  pub int_value : (v : Value K) → Serves w s (Of kinds.Int) v → (x : ℤ) × (v ≡ Int x)
  int_value (Int x) h = (x, refl)
  int_value (Long x) h = absurd (never (sym (ap (is_of kinds.Int) (some_is h.type types.Long (sym h.is))) ∙ h.met))
  int_value (Ctx k) h = absurd (never (sym (ap (is_of kinds.Int) (some_is h.type types.Ctx (sym h.is))) ∙ h.met))
  int_value (Ref n) h = absurd (apart (is_of kinds.Int h.type) (is_of kinds.Long h.type) (no_reference n h.type h.is) h.met)

  pub long_value : (v : Value K) → Serves w s (Of kinds.Long) v → (x : ℤ) × (v ≡ Long x)
  long_value (Long x) h = (x, refl)
  long_value (Int x) h = absurd (never (sym (ap (is_of kinds.Long) (some_is h.type types.Int (sym h.is))) ∙ h.met))
  long_value (Ctx k) h = absurd (never (sym (ap (is_of kinds.Long) (some_is h.type types.Ctx (sym h.is))) ∙ h.met))
  long_value (Ref n) h = absurd (behind (is_of kinds.Int h.type) (is_of kinds.Long h.type) (no_reference n h.type h.is) h.met)

  pub ref_value : (v : Value K) → Serves w s (Of kinds.Ref) v → (n : ℕ) × (v ≡ Ref n)
  ref_value (Ref n) h = (n, refl)
  ref_value (Int x) h = absurd (never (sym (ap (is_of kinds.Ref) (some_is h.type types.Int (sym h.is))) ∙ h.met))
  ref_value (Long x) h = absurd (never (sym (ap (is_of kinds.Ref) (some_is h.type types.Long (sym h.is))) ∙ h.met))
  ref_value (Ctx k) h = absurd (never (sym (ap (is_of kinds.Ref) (some_is h.type types.Ctx (sym h.is))) ∙ h.met))

  abbrev IsArray : Object K → Type 0
  IsArray x = (a : ArrayType) × (items : List (Value K)) × (x ≡ Array a items)

  array_object : (x : Object K) → is_of kinds.Array (class_of w.named x) ≡ true → IsArray x
  array_object (Array a items) e = (a, items, refl)
  array_object _ e = absurd (cc)

  -- a reference to an array that isn't null names an array
  pub array_value : (n : ℕ) → Serves w s (Of kinds.Array) (Ref (suc n)) → (a : ArrayType) × (items : List (Value K)) × (object_at s (suc n) ≡ Some (Array a items))
  array_value n h =
      let c = whole_class (object_at s (suc n)) h.type h.is in
      let x = array_object c.0 (ap (is_of kinds.Array) (sym c.2) ∙ h.met) in
      (x.0, x.1, c.1 ∙ ap (λ (x : Object K). Some x) x.2)

  -- a number is of its type
  pub int_is : (v : Value K) → values.is_of kinds.Int v ≡ true → Serves w s (Fits types.Int) v
  int_is (Int x) e = record { type = types.Int; is = refl; met = refl }
  int_is _ e = absurd (cc)

  pub long_is : (v : Value K) → values.is_of kinds.Long v ≡ true → Serves w s (Fits types.Long) v
  long_is (Long x) e = record { type = types.Long; is = refl; met = refl }
  long_is _ e = absurd (cc)

  -- ---- what locals hold

  pub number_of : (here : Here) (news : News) (a : VType) (v : Value K) → Has w s here news a v → is_of kinds.Int a ≡ true → values.is_of kinds.Int v ≡ true
  number_of here news a v x e = ap (values.is_of kinds.Int) (int_value v (has_kind here news kinds.Int a v tt x e)).1

  pub long_of : (here : Here) (news : News) (a : VType) (v : Value K) → Has w s here news a v → is_of kinds.Long a ≡ true → values.is_of kinds.Long v ≡ true
  long_of here news a v x e = ap (values.is_of kinds.Long) (long_value v (has_kind here news kinds.Long a v tt x e)).1

  -- no number fits what a reference or a context is of
  int_apart : (t : VType) → is_of kinds.Held t ≡ true → fits w types.Int t ≡ true → ⊥
  int_apart types.Top e f = cc
  int_apart types.Int e f = cc
  int_apart types.Long e f = cc
  int_apart types.Null e f = cc
  int_apart types.UninitThis e f = cc
  int_apart (types.Uninit o) e f = cc
  int_apart (types.Object c) e f = cc
  int_apart (types.Array b) e f = cc
  int_apart types.Ctx e f = cc

  long_apart : (t : VType) → is_of kinds.Held t ≡ true → fits w types.Long t ≡ true → ⊥
  long_apart types.Top e f = cc
  long_apart types.Int e f = cc
  long_apart types.Long e f = cc
  long_apart types.Null e f = cc
  long_apart types.UninitThis e f = cc
  long_apart (types.Uninit o) e f = cc
  long_apart (types.Object c) e f = cc
  long_apart (types.Array b) e f = cc
  long_apart types.Ctx e f = cc

  held_is : (t : VType) (v : Value K) → is_of kinds.Held t ≡ true → Serves w s (Fits t) v → values.is_of kinds.Held v ≡ true
  held_is t (Ref n) e x = refl
  held_is t (Ctx k) e x = refl
  held_is t (Int y) e x = absurd (int_apart t e (subst (λ a. fits w a t ≡ true) (sym (some_is types.Int x.type x.is)) x.met))
  held_is t (Long y) e x = absurd (long_apart t e (subst (λ a. fits w a t ≡ true) (sym (some_is types.Long x.type x.is)) x.met))

  pub held_of : (here : Here) (news : News) (a : VType) (v : Value K) → Has w s here news a v → is_of kinds.Held a ≡ true → values.is_of kinds.Held v ≡ true
  held_of here news types.UninitThis v x e = ap (values.is_of kinds.Held) x.0
  held_of here news (types.Uninit o) v x e = ap (values.is_of kinds.Held) x.0
  held_of here news types.Null v x e = held_is types.Null v refl x
  held_of here news (types.Object c) v x e = held_is (types.Object c) v refl x
  held_of here news (types.Array b) v x e = held_is (types.Array b) v refl x.0
  held_of here news types.Ctx v x e = held_is types.Ctx v refl x
  held_of here news types.Top v x e = absurd (cc)
  held_of here news types.Int v x e = absurd (cc)
  held_of here news types.Long v x e = absurd (cc)

  held_short : (v : Value K) → values.is_of kinds.Held v ≡ true → shuffles.is_long v ≡ false
  held_short (Ref n) e = refl
  held_short (Ctx k) e = refl
  held_short _ e = absurd (cc)

  -- a value is as wide as its type says
  pub as_long : (here : Here) (news : News) (a : VType) (v : Value K) → Has w s here news a v → is_top a ≡ false → is_long a ≡ shuffles.is_long v
  as_long here news types.Top v x e = absurd (cc)
  as_long here news types.Int v x e = sym (ap shuffles.is_long (int_value v (has_kind here news kinds.Int types.Int v tt x refl)).1)
  as_long here news types.Long v x e = sym (ap shuffles.is_long (long_value v (has_kind here news kinds.Long types.Long v tt x refl)).1)
  as_long here news types.UninitThis v x e = sym (ap shuffles.is_long x.0)
  as_long here news (types.Uninit o) v x e = sym (ap shuffles.is_long x.0)
  as_long here news types.Null v x e = sym (held_short v (held_is types.Null v refl x))
  as_long here news (types.Object c) v x e = sym (held_short v (held_is (types.Object c) v refl x))
  as_long here news (types.Array b) v x e = sym (held_short v (held_is (types.Array b) v refl x.0))
  as_long here news types.Ctx v x e = sym (held_short v (held_is types.Ctx v refl x))
