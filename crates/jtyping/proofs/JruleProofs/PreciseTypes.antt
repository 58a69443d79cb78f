-- More precise types, and what they do for.
use Rattle.std.proofs.Common.{◌≡◌, ◌⊎◌, inl, inr, ℕ, zero, suc, Bool, true, false, refl, sym, ap, subst, ◌∙◌, arith}
use Rattle.std.specs.Prelude.{◌||◌, ◌==◌, codes, nat_lt, if◌then◌else◌}
use Rattle.jvalues.specs.declared.jnames.kinds.Kind.{Kind}
use Rattle.jvalues.specs.declared.jnames.kinds.Kind.TheVariants as kinds
use Rattle.jparts.specs.declared.jcode.names.Element as items
use Rattle.jparts.specs.declared.jcode.names.Element.TheVariants as item
use Rattle.jtypes.specs.declared.vtype.Name.{Name}
use Rattle.jtypes.specs.declared.vtype.Element.{Element}
use Rattle.jtypes.specs.declared.vtype.Element.TheVariants as elements
use Rattle.jtypes.specs.declared.vtype.ArrayType.{ArrayType}
use Rattle.jtypes.specs.declared.vtype.VType.{VType}
use Rattle.jtypes.specs.declared.vtype.VType.TheVariants.{Top, Int, Long, Null, UninitThis, Uninit, Object, Array, Ctx}
use Rattle.jtypes.specs.Assignability.{array_fits, class_fits, element_fits, fits, is_above_arrays}
use Rattle.jtypes.specs.ProofNames.{is_above_array}
use Rattle.jtypes.specs.TypeFrames.{implies, is_long}
use Rattle.jtypes.specs.ClassTrees.{InterfacesExtendTheirs, Tree}
use Rattle.jtyping.specs.jrule.StackEffects.{Fits, Holds, Of, OrThis, Want, held_as, holds, is_of, is_uninit_this, items_of, meets, same_items}
use Rattle.jtyping.specs.jrule.LocalRule.{is_top}
use Rattle.jtyping.specs.jrule.PreciseFrames.{item_precise, precise}
use Rattle.jtyping.proofs.JruleProofs.Conjunctions.{and_true, both, implies_itself}

-- what is known of a program's classes that stand in order
pub record InOrder (t : Tree) : Type 0 where
  pub itself : (c : Name) → t.extends c c ≡ true
  pub chain : (c d e : Name) → t.extends c d ≡ true → t.extends d e ≡ true → t.extends c e ≡ true
  pub below_object : (c d : Name) → d.0 ≡ codes "java/lang/Object" → t.extends c d ≡ true
  pub interfaces : InterfacesExtendTheirs t

abbrev pub nothing : Name → Bool
nothing c = false

-- ---- what is more precise than a type

-- an object of a class below, or null
abbrev pub IsObject : Tree → VType → Name → Type 0
IsObject t a d = (a ≡ Null) ⊎ ((c : Name) × (a ≡ Object c) × (class_fits t c d ≡ true))

abbrev pub IsArray : Tree → VType → ArrayType → Type 0
IsArray t a b = (a ≡ Null) ⊎ ((x : ArrayType) × (a ≡ Array x) × (array_fits nothing t x.depth x.element b.depth b.element ≡ true))

module _ (t : Tree) where
  -- the first type is more precise than the second, or the same
  abbrev Sharp : VType → VType → Type 0
  Sharp a b = precise t a b ≡ true

  pub sharp_int : (a : VType) → Sharp a Int → a ≡ Int
  sharp_int Int e = refl
  sharp_int _ e = absurd (cc)

  pub sharp_long : (a : VType) → Sharp a Long → a ≡ Long
  sharp_long Long e = refl
  sharp_long _ e = absurd (cc)

  pub sharp_null : (a : VType) → Sharp a Null → a ≡ Null
  sharp_null Null e = refl
  sharp_null _ e = absurd (cc)

  pub sharp_this : (a : VType) → Sharp a UninitThis → a ≡ UninitThis
  sharp_this UninitThis e = refl
  sharp_this _ e = absurd (cc)

  same_number : (o n : ℕ) → (o == n) ≡ true → o ≡ n
  same_number o n e = grind arith

  pub sharp_new : (a : VType) (o : ℕ) → Sharp a (Uninit o) → a ≡ Uninit o
  sharp_new (Uninit n) o e = ap Uninit (same_number n o e)
  sharp_new Top o e = absurd (cc)
  sharp_new Int o e = absurd (cc)
  sharp_new Long o e = absurd (cc)
  sharp_new Null o e = absurd (cc)
  sharp_new UninitThis o e = absurd (cc)
  sharp_new (Object c) o e = absurd (cc)
  sharp_new (Array x) o e = absurd (cc)
  sharp_new Ctx o e = absurd (cc)

  pub sharp_context : (a : VType) → Sharp a Ctx → a ≡ Ctx
  sharp_context Ctx e = refl
  sharp_context _ e = absurd (cc)

  pub sharp_object : (a : VType) (d : Name) → Sharp a (Object d) → IsObject t a d
  sharp_object Null d e = inl refl
  sharp_object (Object c) d e = inr (c, refl, e)
  sharp_object Top d e = absurd (cc)
  sharp_object Int d e = absurd (cc)
  sharp_object Long d e = absurd (cc)
  sharp_object UninitThis d e = absurd (cc)
  sharp_object (Uninit o) d e = absurd (cc)
  sharp_object (Array x) d e = absurd (cc)
  sharp_object Ctx d e = absurd (cc)

  pub sharp_array : (a : VType) (b : ArrayType) → Sharp a (Array b) → IsArray t a b
  sharp_array Null b e = inl refl
  sharp_array (Array x) b e = inr (x, refl, e)
  sharp_array Top b e = absurd (cc)
  sharp_array Int b e = absurd (cc)
  sharp_array Long b e = absurd (cc)
  sharp_array UninitThis b e = absurd (cc)
  sharp_array (Uninit o) b e = absurd (cc)
  sharp_array (Object c) b e = absurd (cc)
  sharp_array Ctx b e = absurd (cc)

  -- what holds of each type that is as precise as one holds of what is more precise
  pub at_object : (P : VType → Type 0) (a : VType) (d : Name) → Sharp a (Object d) → P Null → ((c : Name) → class_fits t c d ≡ true → P (Object c)) → P a
  at_object P a d s null object = elim (sharp_object a d s) [
    | inl e ↦ subst P (sym e) null
    | inr w ↦ subst P (sym w.1) (object w.0 w.2)
  ]

  pub at_array : (P : VType → Type 0) (a : VType) (b : ArrayType) → Sharp a (Array b) → P Null →
      ((x : ArrayType) → array_fits nothing t x.depth x.element b.depth b.element ≡ true → P (Array x)) → P a
  at_array P a b s null array = elim (sharp_array a b s) [
    | inl e ↦ subst P (sym e) null
    | inr w ↦ subst P (sym w.1) (array w.0 w.2)
  ]

  -- ---- kinds

  pub kind_kept : (k : Kind) (a b : VType) → Sharp a b → is_of k b ≡ true → is_of k a ≡ true
  kind_kept k a Int s h = subst (λ x. is_of k x ≡ true) (sym (sharp_int a s)) h
  kind_kept k a Long s h = subst (λ x. is_of k x ≡ true) (sym (sharp_long a s)) h
  kind_kept k a Null s h = subst (λ x. is_of k x ≡ true) (sym (sharp_null a s)) h
  kind_kept k a UninitThis s h = subst (λ x. is_of k x ≡ true) (sym (sharp_this a s)) h
  kind_kept k a (Uninit o) s h = subst (λ x. is_of k x ≡ true) (sym (sharp_new a o s)) h
  kind_kept k a Ctx s h = subst (λ x. is_of k x ≡ true) (sym (sharp_context a s)) h
  kind_kept kinds.Int a Top s h = absurd (cc)
  kind_kept kinds.Long a Top s h = absurd (cc)
  kind_kept kinds.Null a Top s h = absurd (cc)
  kind_kept kinds.Ref a Top s h = absurd (cc)
  kind_kept kinds.Array a Top s h = absurd (cc)
  kind_kept kinds.Held a Top s h = absurd (cc)
  kind_kept kinds.Ref a (Object d) s h = at_object (λ x. is_of kinds.Ref x ≡ true) a d s refl (λ c w. refl)
  kind_kept kinds.Held a (Object d) s h = at_object (λ x. is_of kinds.Held x ≡ true) a d s refl (λ c w. refl)
  kind_kept kinds.Int a (Object d) s h = absurd (cc)
  kind_kept kinds.Long a (Object d) s h = absurd (cc)
  kind_kept kinds.Null a (Object d) s h = absurd (cc)
  kind_kept kinds.Array a (Object d) s h = absurd (cc)
  kind_kept kinds.Ref a (Array b) s h = at_array (λ x. is_of kinds.Ref x ≡ true) a b s refl (λ c w. refl)
  kind_kept kinds.Held a (Array b) s h = at_array (λ x. is_of kinds.Held x ≡ true) a b s refl (λ c w. refl)
  kind_kept kinds.Array a (Array b) s h = at_array (λ x. is_of kinds.Array x ≡ true) a b s refl (λ c w. refl)
  kind_kept kinds.Int a (Array b) s h = absurd (cc)
  kind_kept kinds.Long a (Array b) s h = absurd (cc)
  kind_kept kinds.Null a (Array b) s h = absurd (cc)

  -- what is of a kind isn't Top
  pub known : (k : Kind) (b : VType) → is_of k b ≡ true → is_top b ≡ false
  known kinds.Int Top h = absurd (cc)
  known kinds.Long Top h = absurd (cc)
  known kinds.Null Top h = absurd (cc)
  known kinds.Ref Top h = absurd (cc)
  known kinds.Array Top h = absurd (cc)
  known kinds.Held Top h = absurd (cc)
  known k Int h = refl
  known k Long h = refl
  known k Null h = refl
  known k UninitThis h = refl
  known k (Uninit o) h = refl
  known k (Object c) h = refl
  known k (Array x) h = refl
  known k Ctx h = refl

  -- ---- on the stack

  -- and so on the stack
  abbrev SharpItem : VType → VType → Type 0
  SharpItem a b = item_precise t a b ≡ true

  if_known : (a b : Bool) → b ≡ false → implies b a ≡ true
  if_known a b e = ap (λ x. implies x a) e

  pub item_of : (a b : VType) → Sharp a b → is_top b ≡ false → SharpItem a b
  item_of a b s e = and_true (precise t a b) (implies (is_top b) (is_top a)) s (if_known (is_top a) (is_top b) e)

  pub sharp_of : (a b : VType) → SharpItem a b → Sharp a b
  sharp_of a b s = (both (precise t a b) (implies (is_top b) (is_top a)) s).0

  top_is : (a : VType) → is_top a ≡ true → a ≡ Top
  top_is Top e = refl
  top_is _ e = absurd (cc)

  -- Top for Top alone
  pub item_top : (a : VType) → SharpItem a Top → a ≡ Top
  item_top a s = top_is a (both (precise t a Top) (implies true (is_top a)) s).1

  pub same_long : (a b : VType) → SharpItem a b → is_long a ≡ is_long b
  same_long a Top s = ap is_long (item_top a s)
  same_long a Int s = ap is_long (sharp_int a (sharp_of a Int s))
  same_long a Long s = ap is_long (sharp_long a (sharp_of a Long s))
  same_long a Null s = ap is_long (sharp_null a (sharp_of a Null s))
  same_long a UninitThis s = ap is_long (sharp_this a (sharp_of a UninitThis s))
  same_long a (Uninit o) s = ap is_long (sharp_new a o (sharp_of a (Uninit o) s))
  same_long a Ctx s = ap is_long (sharp_context a (sharp_of a Ctx s))
  same_long a (Object d) s = at_object (λ x. is_long x ≡ false) a d (sharp_of a (Object d) s) refl (λ c w. refl)
  same_long a (Array b) s = at_array (λ x. is_long x ≡ false) a b (sharp_of a (Array b) s) refl (λ c w. refl)

  pub same_top : (a b : VType) → SharpItem a b → is_top a ≡ is_top b
  same_top a Top s = ap is_top (item_top a s)
  same_top a Int s = ap is_top (sharp_int a (sharp_of a Int s))
  same_top a Long s = ap is_top (sharp_long a (sharp_of a Long s))
  same_top a Null s = ap is_top (sharp_null a (sharp_of a Null s))
  same_top a UninitThis s = ap is_top (sharp_this a (sharp_of a UninitThis s))
  same_top a (Uninit o) s = ap is_top (sharp_new a o (sharp_of a (Uninit o) s))
  same_top a Ctx s = ap is_top (sharp_context a (sharp_of a Ctx s))
  same_top a (Object d) s = at_object (λ x. is_top x ≡ false) a d (sharp_of a (Object d) s) refl (λ c w. refl)
  same_top a (Array b) s = at_array (λ x. is_top x ≡ false) a b (sharp_of a (Array b) s) refl (λ c w. refl)

  -- ---- arrays

  pub none_above : (y : Element) → is_above_array nothing y ≡ true → ⊥
  none_above elements.Boolean e = cc
  none_above elements.Char e = cc
  none_above elements.Byte e = cc
  none_above elements.Short e = cc
  none_above elements.Int e = cc
  none_above elements.Long e = cc
  none_above (elements.Class c) e = cc

  same_held : (x y : Element) → element_fits t x y ≡ true → held_as x ≡ held_as y
  same_held elements.Boolean elements.Boolean e = refl
  same_held elements.Char elements.Char e = refl
  same_held elements.Byte elements.Byte e = refl
  same_held elements.Short elements.Short e = refl
  same_held elements.Int elements.Int e = refl
  same_held elements.Long elements.Long e = refl
  same_held (elements.Class c) (elements.Class d) e = refl
  same_held _ _ e = absurd (cc)

  -- as many dimensions, and elements that fit
  pub same_depth : (d e : ℕ) (x y : Element) → array_fits nothing t d x e y ≡ true → (d ≡ e) × (element_fits t x y ≡ true)
  unfolding array_fits
  same_depth zero zero x y h = (refl, h)
  same_depth zero (suc e) x y h = absurd (cc)
  same_depth (suc d) zero x y h = absurd (none_above y h)
  same_depth (suc d) (suc e) x y h = let rest = same_depth d e x y h in (ap suc rest.0, rest.1)

  same_items_of : (x y : ArrayType) → array_fits nothing t x.depth x.element y.depth y.element ≡ true → items_of x ≡ items_of y
  same_items_of x y h =
      let s = same_depth x.depth y.depth x.element y.element h in
      ap (λ n. if nat_lt 1 n then item.Ref else held_as x.element) s.0 ∙ ap (λ i. if nat_lt 1 y.depth then item.Ref else i) (same_held x.element y.element s.1)

  pub holds_kept : (e : items.Element) (a b : VType) → Sharp a b → holds e b ≡ true → holds e a ≡ true
  holds_kept e a Null s h = subst (λ x. holds e x ≡ true) (sym (sharp_null a s)) h
  holds_kept e a (Array y) s h = at_array (λ x. holds e x ≡ true) a y s refl (λ x w. ap (same_items e) (same_items_of x y w) ∙ h)
  holds_kept e a Top s h = absurd (cc)
  holds_kept e a Int s h = absurd (cc)
  holds_kept e a Long s h = absurd (cc)
  holds_kept e a UninitThis s h = absurd (cc)
  holds_kept e a (Uninit o) s h = absurd (cc)
  holds_kept e a (Object c) s h = absurd (cc)
  holds_kept e a Ctx s h = absurd (cc)

  -- ---- where the classes stand in order

  module _ (o : InOrder t) where
    or_second : (a b : Bool) → a ≡ false → (a || b) ≡ true → b ≡ true
    or_second a b e h = cc

    or_first : (a b : Bool) → a ≡ true → (a || b) ≡ true
    or_first a b e = cc

    or_both : (a b : Bool) → b ≡ true → (a || b) ≡ true
    or_both true b e = refl
    or_both false b e = e

    -- what an interface stands below is one, or Object
    above_interface : (c d e : Name) → t.is_interface d ≡ true → t.extends d e ≡ true → t.is_interface e ≡ false → t.extends c e ≡ true
    above_interface c d e i x n = elim (o.interfaces d e i x) [
      | inl is ↦ (absurd (cc))
      | inr top ↦ o.below_object c e top
    ]

    pub class_through : (c d e : Name) → class_fits t c d ≡ true → class_fits t d e ≡ true → class_fits t c e ≡ true
    class_through c d e first second = go (t.is_interface e) refl (t.is_interface d) refl
      where
        go : (i : Bool) → t.is_interface e ≡ i → (j : Bool) → t.is_interface d ≡ j → class_fits t c e ≡ true
        go true is j at = or_first (t.is_interface e) (t.extends c e) is
        go false is true at =
            or_both (t.is_interface e) (t.extends c e) (above_interface c d e at (or_second (t.is_interface e) (t.extends d e) is second) is)
        go false is false at =
            or_both (t.is_interface e) (t.extends c e)
            (o.chain c d e (or_second (t.is_interface d) (t.extends c d) at first) (or_second (t.is_interface e) (t.extends d e) is second))

    class_then : (c d : Name) (z : Element) → class_fits t c d ≡ true → element_fits t (elements.Class d) z ≡ true → element_fits t (elements.Class c) z ≡ true
    class_then c d (elements.Class e) first second = class_through c d e first second
    class_then c d elements.Boolean first second = absurd (cc)
    class_then c d elements.Char first second = absurd (cc)
    class_then c d elements.Byte first second = absurd (cc)
    class_then c d elements.Short first second = absurd (cc)
    class_then c d elements.Int first second = absurd (cc)
    class_then c d elements.Long first second = absurd (cc)

    element_through : (x y z : Element) → element_fits t x y ≡ true → element_fits t y z ≡ true → element_fits t x z ≡ true
    element_through elements.Boolean elements.Boolean z first second = second
    element_through elements.Char elements.Char z first second = second
    element_through elements.Byte elements.Byte z first second = second
    element_through elements.Short elements.Short z first second = second
    element_through elements.Int elements.Int z first second = second
    element_through elements.Long elements.Long z first second = second
    element_through (elements.Class c) (elements.Class d) z first second = class_then c d z first second
    element_through _ _ z first second = absurd (cc)

    array_through : (d e g : ℕ) (x y z : Element) → array_fits nothing t d x e y ≡ true → array_fits is_above_arrays t e y g z ≡ true → array_fits is_above_arrays t d x g z ≡ true
    unfolding array_fits
    array_through zero zero zero x y z first second = element_through x y z first second
    array_through zero zero (suc g) x y z first second = absurd (cc)
    array_through zero (suc e) g x y z first second = absurd (cc)
    array_through (suc d) zero g x y z first second = absurd (none_above y first)
    array_through (suc d) (suc e) zero x y z first second = second
    array_through (suc d) (suc e) (suc g) x y z first second = array_through d e g x y z first second

    object_through : (a c : VType) (d : Name) → Sharp a (Object d) → fits t (Object d) c ≡ true → fits t a c ≡ true
    object_through a Top d s h = refl
    object_through a (Object e) d s h = at_object (λ x. fits t x (Object e) ≡ true) a d s refl (λ c w. class_through c d e w h)
    object_through a Int d s h = absurd (cc)
    object_through a Long d s h = absurd (cc)
    object_through a Null d s h = absurd (cc)
    object_through a UninitThis d s h = absurd (cc)
    object_through a (Uninit o) d s h = absurd (cc)
    object_through a (Array b) d s h = absurd (cc)
    object_through a Ctx d s h = absurd (cc)

    array_then : (a c : VType) (y : ArrayType) → Sharp a (Array y) → fits t (Array y) c ≡ true → fits t a c ≡ true
    array_then a Top y s h = refl
    array_then a (Object e) y s h = at_array (λ x. fits t x (Object e) ≡ true) a y s refl (λ x w. h)
    array_then a (Array z) y s h = at_array (λ x. fits t x (Array z) ≡ true) a y s refl (λ x w. array_through x.depth y.depth z.depth x.element y.element z.element w h)
    array_then a Int y s h = absurd (cc)
    array_then a Long y s h = absurd (cc)
    array_then a Null y s h = absurd (cc)
    array_then a UninitThis y s h = absurd (cc)
    array_then a (Uninit o) y s h = absurd (cc)
    array_then a Ctx y s h = absurd (cc)

    top_then : (a c : VType) → fits t Top c ≡ true → fits t a c ≡ true
    top_then a Top h = refl
    top_then a Int h = absurd (cc)
    top_then a Long h = absurd (cc)
    top_then a Null h = absurd (cc)
    top_then a UninitThis h = absurd (cc)
    top_then a (Uninit o) h = absurd (cc)
    top_then a (Object d) h = absurd (cc)
    top_then a (Array b) h = absurd (cc)
    top_then a Ctx h = absurd (cc)

    -- what fits fits
    pub fit_through : (a b c : VType) → Sharp a b → fits t b c ≡ true → fits t a c ≡ true
    fit_through a Top c s h = top_then a c h
    fit_through a Int c s h = subst (λ x. fits t x c ≡ true) (sym (sharp_int a s)) h
    fit_through a Long c s h = subst (λ x. fits t x c ≡ true) (sym (sharp_long a s)) h
    fit_through a Null c s h = subst (λ x. fits t x c ≡ true) (sym (sharp_null a s)) h
    fit_through a UninitThis c s h = subst (λ x. fits t x c ≡ true) (sym (sharp_this a s)) h
    fit_through a (Uninit n) c s h = subst (λ x. fits t x c ≡ true) (sym (sharp_new a n s)) h
    fit_through a Ctx c s h = subst (λ x. fits t x c ≡ true) (sym (sharp_context a s)) h
    fit_through a (Object d) c s h = object_through a c d s h
    fit_through a (Array y) c s h = array_then a c y s h

    or_this : (x : Bool) (b : Bool) → b ≡ true → (if x then true else b) ≡ true
    or_this true b e = refl
    or_this false b e = e

    written_kept : (a b : VType) (c : Name) → Sharp a b → fits t b (Object c) ≡ true → (if is_uninit_this a then true else fits t a (Object c)) ≡ true
    written_kept a b c s h = or_this (is_uninit_this a) (fits t a (Object c)) (fit_through a b (Object c) s h)

    pub meets_kept : (w : Want) (a b : VType) → Sharp a b → meets t w b ≡ true → meets t w a ≡ true
    meets_kept (Of k) a b s h = kind_kept k a b s h
    meets_kept (Fits c) a b s h = fit_through a b c s h
    meets_kept (Holds e) a b s h = holds_kept e a b s h
    meets_kept (OrThis c this) a UninitThis s h = subst (λ x. meets t (OrThis c this) x ≡ true) (sym (sharp_this a s)) refl
    meets_kept (OrThis c this) a Top s h = written_kept a Top c s h
    meets_kept (OrThis c this) a Int s h = written_kept a Int c s h
    meets_kept (OrThis c this) a Long s h = written_kept a Long c s h
    meets_kept (OrThis c this) a Null s h = written_kept a Null c s h
    meets_kept (OrThis c this) a (Uninit n) s h = written_kept a (Uninit n) c s h
    meets_kept (OrThis c this) a (Object d) s h = written_kept a (Object d) c s h
    meets_kept (OrThis c this) a (Array y) s h = written_kept a (Array y) c s h
    meets_kept (OrThis c this) a Ctx s h = written_kept a Ctx c s h

    -- ---- each type is as precise as itself

    class_itself : (c : Name) → class_fits t c c ≡ true
    class_itself c = or_both (t.is_interface c) (t.extends c c) (o.itself c)

    element_itself : (x : Element) → element_fits t x x ≡ true
    element_itself elements.Boolean = refl
    element_itself elements.Char = refl
    element_itself elements.Byte = refl
    element_itself elements.Short = refl
    element_itself elements.Int = refl
    element_itself elements.Long = refl
    element_itself (elements.Class c) = class_itself c

    array_itself : (d : ℕ) (x : Element) → array_fits nothing t d x d x ≡ true
    unfolding array_fits
    array_itself zero x = element_itself x
    array_itself (suc d) x = array_itself d x

    itself_number : (n : ℕ) → (n == n) ≡ true
    itself_number n = grind arith

    pub sharp_itself : (a : VType) → Sharp a a
    sharp_itself Top = refl
    sharp_itself Int = refl
    sharp_itself Long = refl
    sharp_itself Null = refl
    sharp_itself UninitThis = refl
    sharp_itself (Uninit n) = itself_number n
    sharp_itself (Object c) = class_itself c
    sharp_itself (Array x) = array_itself x.depth x.element
    sharp_itself Ctx = refl

    pub item_itself : (a : VType) → SharpItem a a
    item_itself a = and_true (precise t a a) (implies (is_top a) (is_top a)) (sharp_itself a) (implies_itself (is_top a))
