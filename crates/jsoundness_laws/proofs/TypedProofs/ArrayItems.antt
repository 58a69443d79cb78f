-- Items of arrays in typed frames: what is loaded is of the type that the frame says, and what is stored leaves the store a typed one.
use Rattle.std.proofs.Common.{◌≡◌, ◌≢◌, ℕ, zero, suc, ◌-◌, ◌<◌, Bool, true, false, List, [], ◌∷◌, length, Option, Some, None, refl, sym, ap, subst, arith, ◌∙◌}
use Rattle.std.specs.Prelude.{nat_lt, slice_get, slice_set, if◌then◌else◌}
use Rattle.std.proofs.lemmas.Bool.{lt-ltb, ltb-true}
use Rattle.jvalues.specs.declared.jnames.kinds.Kind.TheVariants as kinds
use Rattle.jvalues.specs.declared.jops.value.Value.{Value}
use Rattle.jvalues.specs.declared.jops.value.Value.TheVariants.{Int, Long, Ref, Ctx}
use Rattle.jparts.specs.declared.jcode.names.Element as items
use Rattle.jparts.specs.declared.jcode.names.Element.TheVariants as item
use Rattle.jtypes.specs.declared.vtype.ArrayType.{ArrayType}
use Rattle.jtypes.specs.declared.vtype.Element.{Element}
use Rattle.jtypes.specs.declared.vtype.Element.TheVariants as elements
use Rattle.jtypes.specs.declared.vtype.VType.{VType}
use Rattle.jtypes.specs.declared.vtype.VType.TheVariants as types
use Rattle.jtypes.specs.DescriptorElements.{alone, in_brackets}
use Rattle.jtypes.specs.Assignability.{array_fits, element_fits}
use Rattle.jtypes.specs.ProofNames.{is_above_array}
use Rattle.jtypes.specs.ClassTrees.{Tree}
use Rattle.jtyping.specs.jrule.ArrayRule.{component, loaded}
use Rattle.jtyping.specs.jrule.StackEffects.{Holds, Of, held_as, holds, is_array, is_ref, items_of, same_items}
use Rattle.jtyping.specs.jrule.InstructionContext.{Here}
use Rattle.jsemantics.specs.jmachine.ArrayInstructions.{within}
use Rattle.jsemantics.specs.jmachine.Narrowing.{narrowed}
use Rattle.jsemantics.specs.jmachine.HeapObjects.{Array}
use Rattle.jsemantics.specs.jmachine.Store.{Store, object_at}
use Rattle.jsemantics.specs.jmachine.World.{World, fits, is_above}
use Rattle.jsoundness_laws.specs.typed.TypedFrames.{News}
use Rattle.jsoundness_laws.specs.typed.TypedStores.{EachOf, IsStored}
use Rattle.jsoundness_laws.specs.typed.TypedValues.{HasDimensions, IsA, Serves, known, whole_type}
use Rattle.jsoundness_laws.proofs.TypedProofs.SubtypeTransitivity.{InOrder, fits_on}
use Rattle.jsoundness_laws.proofs.TypedProofs.ValueKinds.{array_value, known_value}
use Rattle.jsoundness_laws.proofs.TypedProofs.ValueKinds as kinds_of
use Rattle.jsoundness_laws.proofs.TypedProofs.TakenOperands.{IsServed}

some_is : {A : Type 0} (a b : A) → Some a ≡ Some b → a ≡ b
some_is a b e = cc

-- ---- dimensions

one_more : (d : ℕ) → nat_lt 1 (suc (suc d)) ≡ true
one_more d = lt-ltb 1 (suc (suc d)) (omega arith)

one_less : (d : ℕ) → suc (suc d) - 1 ≡ suc d
one_less d = omega arith

pub brackets_dimensions : (d : ℕ) (x : Element) → HasDimensions (in_brackets d x)
brackets_dimensions zero elements.Boolean = tt
brackets_dimensions zero elements.Char = tt
brackets_dimensions zero elements.Byte = tt
brackets_dimensions zero elements.Short = tt
brackets_dimensions zero elements.Int = tt
brackets_dimensions zero elements.Long = tt
brackets_dimensions zero (elements.Class c) = tt
brackets_dimensions (suc d) x = λ e. cc

-- ---- the kinds of items

alone_items : (w : World) (e : items.Element) (x y : Element) → element_fits w.tree x y ≡ true → same_items e (held_as y) ≡ true → same_items e (held_as x) ≡ true
alone_items w e elements.Boolean elements.Boolean f h = h
alone_items w e elements.Char elements.Char f h = h
alone_items w e elements.Byte elements.Byte f h = h
alone_items w e elements.Short elements.Short f h = h
alone_items w e elements.Int elements.Int f h = h
alone_items w e elements.Long elements.Long f h = h
alone_items w e (elements.Class c) (elements.Class d) f h = h
alone_items w e _ _ f h = absurd (cc)

abbrev items_by : ℕ → Element → items.Element
items_by d x = if nat_lt 1 d then item.Ref else held_as x

deep_items : (d : ℕ) (x : Element) → items_by (suc (suc d)) x ≡ item.Ref
deep_items d x = ap (λ b. if b then item.Ref else held_as x) (one_more d)

above_items : (w : World) (y : Element) → is_above_array (is_above w) y ≡ true → held_as y ≡ item.Ref
above_items w (elements.Class c) e = refl
above_items w _ e = absurd (cc)

items_kept : (w : World) (e : items.Element) (a b : ℕ) (x y : Element) → a ≢ 0 → b ≢ 0 → array_fits (is_above w) w.tree a x b y ≡ true
    → same_items e (items_by b y) ≡ true → same_items e (items_by a x) ≡ true
unfolding array_fits
items_kept w e zero b x y p q f h = absurd (p refl)
items_kept w e (suc a) zero x y p q f h = absurd (q refl)
items_kept w e (suc zero) (suc zero) x y p q f h = alone_items w e x y f h
items_kept w e (suc zero) (suc (suc b)) x y p q f h = absurd (cc)
items_kept w e (suc (suc a)) (suc zero) x y p q f h = ap (same_items e) (deep_items a x) ∙ sym (ap (same_items e) (above_items w y f)) ∙ h
items_kept w e (suc (suc a)) (suc (suc b)) x y p q f h = ap (same_items e) (deep_items a x) ∙ sym (ap (same_items e) (deep_items b y)) ∙ h

-- ---- what arrays hold

alone_fits : (w : World) (x y : Element) → element_fits w.tree x y ≡ true → fits w (alone x) (alone y) ≡ true
alone_fits w elements.Boolean elements.Boolean f = refl
alone_fits w elements.Char elements.Char f = refl
alone_fits w elements.Byte elements.Byte f = refl
alone_fits w elements.Short elements.Short f = refl
alone_fits w elements.Int elements.Int f = refl
alone_fits w elements.Long elements.Long f = refl
alone_fits w (elements.Class c) (elements.Class d) f = f
alone_fits w _ _ f = absurd (cc)

above_fits : (w : World) (d : ℕ) (x y : Element) → is_above_array (is_above w) y ≡ true → fits w (in_brackets (suc d) x) (alone y) ≡ true
above_fits w d x (elements.Class c) f = f
above_fits w d x _ f = absurd (cc)

-- what an array that fits another holds fits what that one holds
component_fits : (w : World) (a b : ℕ) (x y : Element) → a ≢ 0 → b ≢ 0 → array_fits (is_above w) w.tree a x b y ≡ true
    → fits w (in_brackets (a - 1) x) (in_brackets (b - 1) y) ≡ true
unfolding array_fits
component_fits w zero b x y p q f = absurd (p refl)
component_fits w (suc a) zero x y p q f = absurd (q refl)
component_fits w (suc zero) (suc zero) x y p q f = alone_fits w x y f
component_fits w (suc zero) (suc (suc b)) x y p q f = absurd (cc)
component_fits w (suc (suc a)) (suc zero) x y p q f = subst (λ n. fits w (in_brackets n x) (alone y) ≡ true) (sym (one_less a)) (above_fits w a x y f)
component_fits w (suc (suc a)) (suc (suc b)) x y p q f =
    let inner : fits w (in_brackets (suc a) x) (in_brackets (suc b) y) ≡ true = f in
    subst (λ n. fits w (in_brackets n x) (in_brackets (suc (suc b) - 1) y) ≡ true) (sym (one_less a))
    (subst (λ n. fits w (in_brackets (suc a) x) (in_brackets n y) ≡ true) (sym (one_less b)) inner)

-- ---- what is loaded

alone_loaded : (e : items.Element) (x : Element) → same_items e (held_as x) ≡ true → loaded e (types.Array (record { depth = 1; element = x })) ≡ alone x
alone_loaded item.Byte elements.Boolean h = refl
alone_loaded item.Byte elements.Byte h = refl
alone_loaded item.Char elements.Char h = refl
alone_loaded item.Short elements.Short h = refl
alone_loaded item.Int elements.Int h = refl
alone_loaded item.Long elements.Long h = refl
alone_loaded item.Ref (elements.Class c) h = refl
alone_loaded _ _ h = absurd (cc)

deep_loaded : (e : items.Element) (a : ArrayType) → same_items e item.Ref ≡ true → loaded e (types.Array a) ≡ component a
deep_loaded item.Ref a h = refl
deep_loaded _ a h = absurd (cc)

-- it is what the array holds
pub loaded_is : (e : items.Element) (d : ℕ) (x : Element) → d ≢ 0 → same_items e (items_by d x) ≡ true
    → loaded e (types.Array (record { depth = d; element = x })) ≡ in_brackets (d - 1) x
loaded_is e zero x p h = absurd (p refl)
loaded_is e (suc zero) x p h = alone_loaded e x h
loaded_is e (suc (suc d)) x p h = deep_loaded e (record { depth = suc (suc d); element = x }) (sym (ap (same_items e) (deep_items d x)) ∙ h)

-- ---- lists

pub there_at : {A : Type 0} (xs : List A) (i : ℕ) → i < length xs → (x : A) × (slice_get xs i ≡ Some x)
there_at [] i h = absurd (omega (arith, h))
there_at (x ∷ xs) zero h = (x, refl)
there_at (x ∷ xs) (suc i) h = there_at xs i (omega (arith, h))

-- an index that is within the items is that of one
pub within_there : {A : Type 0} (xs : List A) (o : Option ℕ) (i : ℕ) → within (length xs) o ≡ Some i → (x : A) × (slice_get xs i ≡ Some x)
within_there xs None i e = absurd (cc)
within_there xs (Some j) i e = go (nat_lt j (length xs)) refl e
  where
    go : (b : Bool) → nat_lt j (length xs) ≡ b → (if b then Some j else None) ≡ Some i → (x : _) × (slice_get xs i ≡ Some x)
    go false is e = absurd (cc)
    go true is e = let same = some_is j i e in there_at xs i (subst (λ j. j < length xs) same (ltb-true j (length xs) is))

-- ---- values

pub narrowed_is : {K : Type 0} (w : World) (s : Store K) (a : VType) (held : Option Element) (v : Value K) → IsA w s a v → IsA w s a (narrowed held v)
narrowed_is w s a None v h = h
narrowed_is w s a (Some e) (Int x) h = record { type = h.type; is = h.is; met = h.met }
narrowed_is w s a (Some e) (Long x) h = h
narrowed_is w s a (Some e) (Ref n) h = h
narrowed_is w s a (Some e) (Ctx k) h = h

module _ {K : Type 0} (w : World) (s : Store K) where
  pub each_get : (a : VType) (vs : List (Value K)) (i : ℕ) (v : Value K) → EachOf w s a vs → slice_get vs i ≡ Some v → IsA w s a v
  each_get a [] i v h e = absurd (cc)
  each_get a (x ∷ vs) zero v h e = subst (λ v. IsA w s a v) (some_is x v e) h.0
  each_get a (x ∷ vs) (suc i) v h e = each_get a vs i v h.1 e

  pub each_set : (a : VType) (vs : List (Value K)) (i : ℕ) (v : Value K) → EachOf w s a vs → IsA w s a v → EachOf w s a (slice_set vs i v)
  each_set a [] i v h x = tt
  each_set a (u ∷ vs) zero v h x = (x, h.1)
  each_set a (u ∷ vs) (suc i) v h x = (h.0, each_set a vs i v h.1 x)

-- ---- the array that a value names

module _ {K : Type 0} (w : World) (s : Store K) (order : InOrder w.tree) (statics : List VType) (stored : IsStored w s statics) where
  pub record ArrayAt (a : ArrayType) (n : ℕ) : Type 0 where
    pub type : ArrayType
    pub items : List (Value K)
    pub at : object_at s (suc n) ≡ Some (Array type items)
    pub fit : fits w (types.Array type) (types.Array a) ≡ true
    pub dimensions : HasDimensions (types.Array type)
    pub each : EachOf w s (component type) items

  array_known : (n : ℕ) (t : VType) (b : ArrayType) (items : List (Value K)) → object_at s (suc n) ≡ Some (Array b items) → known w s (Ref (suc n)) ≡ Some t → types.Array b ≡ t
  array_known n t b items at is = some_is (types.Array b) t (sym (ap (whole_type w s) at) ∙ is)

  pub array_at : (a : ArrayType) (n : ℕ) → IsA w s (types.Array a) (Ref (suc n)) → ArrayAt a n
  array_at a n h =
      let x = array_value w s n (record { type = h.type; is = h.is; met = kinds_of.array_fits w a h.type h.met }) in
      let object = stored.objects (suc n) (Array x.0 x.1) x.2 in record {
        type = x.0;
        items = x.1;
        at = x.2;
        fit = ap (λ t. fits w t (types.Array a)) (array_known n h.type x.0 x.1 x.2 h.is) ∙ h.met;
        dimensions = object.0;
        each = object.1;
      }

  pub item_of : (a : ArrayType) (n : ℕ) → HasDimensions (types.Array a) → (x : ArrayAt a n) → (i : ℕ) (v : Value K) → slice_get x.items i ≡ Some v → IsA w s (component a) v
  item_of a n d x i v at =
      let h = each_get w s (component x.type) x.items i v x.each at in
      let fit = component_fits w x.type.depth a.depth x.type.element a.element x.dimensions d x.fit in
      record { type = h.type; is = h.is; met = fits_on w.tree order h.type (component x.type) (component a) (known_value w s v h.type h.is) h.met fit }

  -- nothing that is there is null
  pub no_null : (n : ℕ) → IsA w s types.Null (Ref (suc n)) → ⊥
  no_null n h =
      let null = kinds_of.null_fits w h.type h.met in
      let x = array_value w s n (record { type = h.type; is = h.is; met = ap is_array null }) in
      let no : types.Array x.0 ≡ types.Null = array_known n h.type x.0 x.1 x.2 h.is ∙ null in
      cc

  -- ---- what is known of an array serves where one with such items is wanted

  held_array : (e : items.Element) (a : ArrayType) (v : Value K) → HasDimensions (types.Array a) → IsA w s (types.Array a) v → same_items e (items_of a) ≡ true → Serves w s (Holds e) v
  held_array e a (Ref zero) d x h = record { type = types.Null; is = refl; met = refl }
  held_array e a (Ref (suc n)) d x h =
      let y = array_at a n x in record {
        type = types.Array y.type;
        is = ap (whole_type w s) y.at;
        met = items_kept w e y.type.depth a.depth y.type.element a.element y.dimensions d y.fit h;
      }
  held_array e a (Int z) d x h = let no : fits w types.Int (types.Array a) ≡ true = ap (λ t. fits w t (types.Array a)) (some_is types.Int x.type x.is) ∙ x.met in absurd (cc)
  held_array e a (Long z) d x h = let no : fits w types.Long (types.Array a) ≡ true = ap (λ t. fits w t (types.Array a)) (some_is types.Long x.type x.is) ∙ x.met in absurd (cc)
  held_array e a (Ctx k) d x h = let no : fits w types.Ctx (types.Array a) ≡ true = ap (λ t. fits w t (types.Array a)) (some_is types.Ctx x.type x.is) ∙ x.met in absurd (cc)

  pub holds_served : (here : Here) (news : News) (t : Tree) (e : items.Element) → IsServed w s here news t (Holds e)
  holds_served here news t e types.Null v x h = record { type = x.type; is = x.is; met = ap (holds e) (kinds_of.null_fits w x.type x.met) }
  holds_served here news t e (types.Array a) v x h = held_array e a v x.1 x.0 h
  holds_served here news t e _ v x h = absurd (cc)

-- ---- an array, or null

holds_array : (e : items.Element) (a : VType) → holds e a ≡ true → is_array a ≡ true
holds_array e types.Null h = refl
holds_array e (types.Array b) h = refl
holds_array e _ h = absurd (cc)

holds_ref : (e : items.Element) (a : VType) → holds e a ≡ true → is_ref a ≡ true
holds_ref e types.Null h = refl
holds_ref e (types.Array b) h = refl
holds_ref e _ h = absurd (cc)

pub as_array : {K : Type 0} (w : World) (s : Store K) (e : items.Element) (v : Value K) → Serves w s (Holds e) v → Serves w s (Of kinds.Array) v
as_array w s e v x = record { type = x.type; is = x.is; met = holds_array e x.type x.met }

pub as_ref : {K : Type 0} (w : World) (s : Store K) (e : items.Element) (v : Value K) → Serves w s (Holds e) v → Serves w s (Of kinds.Ref) v
as_ref w s e v x = record { type = x.type; is = x.is; met = holds_ref e x.type x.met }
