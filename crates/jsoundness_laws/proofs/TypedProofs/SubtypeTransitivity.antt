-- What fits, where a machine runs, a type that fits another as programs are checked, fits that one where a machine runs.
use Rattle.std.proofs.Common.{◌≡◌, ℕ, zero, suc, ◌⊎◌, inl, inr, Bool, true, false, ◌||◌, List, refl, ap}
use Rattle.std.specs.Prelude.{codes}
use Rattle.std.specs.Str.{bytes_eq}
use Rattle.jtypes.specs.declared.vtype.ArrayType.{ArrayType}
use Rattle.jtypes.specs.declared.vtype.Element.{Element}
use Rattle.jtypes.specs.declared.vtype.Element.TheVariants as elements
use Rattle.jtypes.specs.declared.vtype.Name.{Name}
use Rattle.jtypes.specs.declared.vtype.VType.{VType}
use Rattle.jtypes.specs.declared.vtype.VType.TheVariants as types
use Rattle.jtypes.specs.Assignability.{array_fits, class_fits, element_fits, fits, fits_where, is_above_arrays}
use Rattle.jtypes.specs.ProofNames.{is_above_array}
use Rattle.jtypes.specs.ClassTrees.{InterfacesExtendTheirs, Tree}
use Rattle.jsoundness_laws.specs.typed.RuntimeAssignability.{IsValueType}

-- what is asked of a tree
pub record InOrder (t : Tree) : Type 0 where
  pub itself : (c : Name) → t.extends c c ≡ true
  pub chain : (c d e : Name) → t.extends c d ≡ true → t.extends d e ≡ true → t.extends c e ≡ true
  pub object : (c d : Name) → d.0 ≡ codes "java/lang/Object" → t.extends c d ≡ true
  -- Object extends itself alone
  pub last : (c d : Name) → c.0 ≡ codes "java/lang/Object" → t.extends c d ≡ true → d.0 ≡ codes "java/lang/Object"
  pub interfaces : InterfacesExtendTheirs t
  pub two : (c : Name) → is_above_arrays c ≡ true → (c.0 ≡ codes "java/lang/Object") ⊎ (t.is_interface c ≡ true)

abbrev pub runs_above : Tree → Name → Bool
runs_above t c = is_above_arrays c || t.is_interface c

pub or_left : (a b : Bool) → a ≡ true → a || b ≡ true
or_left true b e = refl
or_left false b e = absurd (cc)

pub or_right : (a b : Bool) → b ≡ true → a || b ≡ true
or_right true b e = refl
or_right false b e = e

pub or_split : (a b : Bool) → a || b ≡ true → (a ≡ true) ⊎ (b ≡ true)
or_split true b e = inl refl
or_split false b e = inr e

pub is_object : (c : Name) → c.0 ≡ codes "java/lang/Object" → is_above_arrays c ≡ true
is_object c e = let same : bytes_eq c.0 (codes "java/lang/Object") ≡ true = ap (λ (n : List ℕ). bytes_eq n (codes "java/lang/Object")) e in rw same refl

abbrev At : Tree → VType → VType → Type 0
At t a c = fits_where (runs_above t) t a c ≡ true

module _ (t : Tree) (o : InOrder t) where
  abbrev Ends : Name → Type 0
  Ends c = (t.is_interface c ≡ true) ⊎ (c.0 ≡ codes "java/lang/Object")

  runs_end : (d : Name) → Ends d → runs_above t d ≡ true
  runs_end d (inl i) = or_right (is_above_arrays d) (t.is_interface d) i
  runs_end d (inr e) = or_left (is_above_arrays d) (t.is_interface d) (is_object d e)

  kind_of : (c : Name) → (is_above_arrays c ≡ true) ⊎ (t.is_interface c ≡ true) → (c.0 ≡ codes "java/lang/Object") ⊎ (t.is_interface c ≡ true)
  kind_of c (inl a) = o.two c a
  kind_of c (inr i) = inr i

  runs_below : (c d : Name) → (c.0 ≡ codes "java/lang/Object") ⊎ (t.is_interface c ≡ true) → t.extends c d ≡ true → runs_above t d ≡ true
  runs_below c d (inl e) x = runs_end d (inr (o.last c d e x))
  runs_below c d (inr i) x = runs_end d (o.interfaces c d i x)

  runs_by : (c d : Name) → runs_above t c ≡ true → (t.is_interface d ≡ true) ⊎ (t.extends c d ≡ true) → runs_above t d ≡ true
  runs_by c d a (inl i) = runs_end d (inl i)
  runs_by c d a (inr x) = runs_below c d (kind_of c (or_split (is_above_arrays c) (t.is_interface c) a)) x

  -- above what is above arrays stands nothing else
  above_after : (c d : Name) → runs_above t c ≡ true → class_fits t c d ≡ true → runs_above t d ≡ true
  above_after c d a f = runs_by c d a (or_split (t.is_interface d) (t.extends c d) f)

  class_end : (c e : Name) → Ends e → class_fits t c e ≡ true
  class_end c e (inl i) = or_left (t.is_interface e) (t.extends c e) i
  class_end c e (inr same) = or_right (t.is_interface e) (t.extends c e) (o.object c e same)

  class_on : (c d e : Name) → (t.is_interface d ≡ true) ⊎ (t.extends c d ≡ true) → t.extends d e ≡ true → class_fits t c e ≡ true
  class_on c d e (inl i) x = class_end c e (o.interfaces d e i x)
  class_on c d e (inr y) x = or_right (t.is_interface e) (t.extends c e) (o.chain c d e y x)

  class_by : (c d e : Name) → class_fits t c d ≡ true → (t.is_interface e ≡ true) ⊎ (t.extends d e ≡ true) → class_fits t c e ≡ true
  class_by c d e f (inl i) = class_end c e (inl i)
  class_by c d e f (inr x) = class_on c d e (or_split (t.is_interface d) (t.extends c d) f) x

  class_after : (c d e : Name) → class_fits t c d ≡ true → class_fits t d e ≡ true → class_fits t c e ≡ true
  class_after c d e f g = class_by c d e f (or_split (t.is_interface e) (t.extends d e) g)

  -- ---- arrays

  element_after : (x y z : Element) → element_fits t x y ≡ true → element_fits t y z ≡ true → element_fits t x z ≡ true
  element_after elements.Boolean elements.Boolean z f g = g
  element_after elements.Char elements.Char z f g = g
  element_after elements.Byte elements.Byte z f g = g
  element_after elements.Short elements.Short z f g = g
  element_after elements.Int elements.Int z f g = g
  element_after elements.Long elements.Long z f g = g
  element_after (elements.Class c) (elements.Class d) (elements.Class e) f g = class_after c d e f g
  element_after x y z f g = absurd (cc)

  element_above : (y z : Element) → is_above_array (runs_above t) y ≡ true → element_fits t y z ≡ true → is_above_array (runs_above t) z ≡ true
  element_above (elements.Class c) (elements.Class d) f g = above_after c d f g
  element_above y z f g = absurd (cc)

  -- ---- types

  top_fits : (a : VType) → At t a types.Top
  top_fits types.Top = refl
  top_fits types.Int = refl
  top_fits types.Long = refl
  top_fits types.Null = refl
  top_fits types.UninitThis = refl
  top_fits (types.Uninit n) = refl
  top_fits (types.Object c) = refl
  top_fits (types.Array x) = refl
  top_fits types.Ctx = refl

-- behind what fits where a machine runs, what fits where every array fits these, which are among those that it fits there
module _ (t : Tree) (o : InOrder t) (above : Name → Bool) (runs : (c : Name) → above c ≡ true → runs_above t c ≡ true) where
  -- ---- arrays

  above_runs : (y : Element) → is_above_array above y ≡ true → is_above_array (runs_above t) y ≡ true
  above_runs (elements.Class c) e = runs c e
  above_runs _ e = absurd (cc)

  array_after : (a b c : ℕ) (x y z : Element) → array_fits (runs_above t) t a x b y ≡ true → array_fits above t b y c z ≡ true
      → array_fits (runs_above t) t a x c z ≡ true
  unfolding array_fits
  array_after zero zero zero x y z f g = element_after t o x y z f g
  array_after zero zero (suc c) x y z f g = absurd (cc)
  array_after zero (suc b) c x y z f g = absurd (cc)
  array_after (suc a) zero zero x y z f g = element_above t o y z f g
  array_after (suc a) zero (suc c) x y z f g = absurd (cc)
  array_after (suc a) (suc b) zero x y z f g = above_runs z g
  array_after (suc a) (suc b) (suc c) x y z f g = array_after a b c x y z f g

  -- ---- types

  -- what Top fits is Top
  on_top : (a c : VType) → fits_where above t types.Top c ≡ true → At t a c
  on_top a types.Top g = top_fits t o a
  on_top a _ g = absurd (cc)

  int_after : (b c : VType) → At t types.Int b → fits_where above t b c ≡ true → At t types.Int c
  int_after types.Top c f g = on_top types.Int c g
  int_after types.Int types.Top f g = refl
  int_after types.Int types.Int f g = refl
  int_after types.Int c f g = absurd (cc)
  int_after _ c f g = absurd (cc)

  long_after : (b c : VType) → At t types.Long b → fits_where above t b c ≡ true → At t types.Long c
  long_after types.Top c f g = on_top types.Long c g
  long_after types.Long types.Top f g = refl
  long_after types.Long types.Long f g = refl
  long_after types.Long c f g = absurd (cc)
  long_after _ c f g = absurd (cc)

  ctx_after : (b c : VType) → At t types.Ctx b → fits_where above t b c ≡ true → At t types.Ctx c
  ctx_after types.Top c f g = on_top types.Ctx c g
  ctx_after types.Ctx types.Top f g = refl
  ctx_after types.Ctx types.Ctx f g = refl
  ctx_after types.Ctx c f g = absurd (cc)
  ctx_after _ c f g = absurd (cc)

  -- what an object or an array fits null fits
  null_by : (b c : VType) → At t types.Null b → fits_where above t b c ≡ true → At t types.Null c
  null_by types.Top c f g = on_top types.Null c g
  null_by types.Null types.Top f g = refl
  null_by types.Null types.Null f g = refl
  null_by types.Null (types.Object e) f g = refl
  null_by types.Null (types.Array e) f g = refl
  null_by types.Null c f g = absurd (cc)
  null_by (types.Object d) types.Top f g = refl
  null_by (types.Object d) (types.Object e) f g = refl
  null_by (types.Object d) c f g = absurd (cc)
  null_by (types.Array d) types.Top f g = refl
  null_by (types.Array d) (types.Object e) f g = refl
  null_by (types.Array d) (types.Array e) f g = refl
  null_by (types.Array d) c f g = absurd (cc)
  null_by _ c f g = absurd (cc)

  object_after : (c : Name) (b e : VType) → At t (types.Object c) b → fits_where above t b e ≡ true → At t (types.Object c) e
  object_after c types.Top e f g = on_top (types.Object c) e g
  object_after c (types.Object d) types.Top f g = refl
  object_after c (types.Object d) (types.Object e) f g = class_after t o c d e f g
  object_after c (types.Object d) e f g = absurd (cc)
  object_after c _ e f g = absurd (cc)

  array_types : (x : ArrayType) (b e : VType) → At t (types.Array x) b → fits_where above t b e ≡ true → At t (types.Array x) e
  array_types x types.Top e f g = on_top (types.Array x) e g
  array_types x (types.Object d) types.Top f g = refl
  array_types x (types.Object d) (types.Object e) f g = above_after t o d e f g
  array_types x (types.Object d) e f g = absurd (cc)
  array_types x (types.Array y) types.Top f g = refl
  array_types x (types.Array y) (types.Object e) f g = runs e g
  array_types x (types.Array y) (types.Array z) f g = array_after x.depth y.depth z.depth x.element y.element z.element f g
  array_types x (types.Array y) e f g = absurd (cc)
  array_types x _ e f g = absurd (cc)

  fits_by : (a b c : VType) → IsValueType a → At t a b → fits_where above t b c ≡ true → At t a c
  fits_by types.Int b c h f g = int_after b c f g
  fits_by types.Long b c h f g = long_after b c f g
  fits_by types.Null b c h f g = null_by b c f g
  fits_by (types.Object d) b c h f g = object_after d b c f g
  fits_by (types.Array x) b c h f g = array_types x b c f g
  fits_by types.Ctx b c h f g = ctx_after b c f g
  fits_by _ b c h f g = absurd h

module _ (t : Tree) (o : InOrder t) where
  -- The law, for the types that values have,
  pub fits_after : (a b c : VType) → IsValueType a → At t a b → fits t b c ≡ true → At t a c
  fits_after a b c h f g = fits_by t o is_above_arrays (λ c e. or_left (is_above_arrays c) (t.is_interface c) e) a b c h f g

  -- and where a machine runs alone
  pub fits_on : (a b c : VType) → IsValueType a → At t a b → At t b c → At t a c
  fits_on a b c h f g = fits_by t o (runs_above t) (λ c e. e) a b c h f g

  -- ---- each type fits itself

  class_itself : (c : Name) → class_fits t c c ≡ true
  class_itself c = or_right (t.is_interface c) (t.extends c c) (o.itself c)

  element_itself : (x : Element) → element_fits t x x ≡ true
  element_itself elements.Boolean = refl
  element_itself elements.Char = refl
  element_itself elements.Byte = refl
  element_itself elements.Short = refl
  element_itself elements.Int = refl
  element_itself elements.Long = refl
  element_itself (elements.Class c) = class_itself c

  array_itself : (d : ℕ) (x : Element) → array_fits (runs_above t) t d x d x ≡ true
  unfolding array_fits
  array_itself zero x = element_itself x
  array_itself (suc d) x = array_itself d x

  pub fits_itself : (a : VType) → IsValueType a → At t a a
  fits_itself types.Int h = refl
  fits_itself types.Long h = refl
  fits_itself types.Null h = refl
  fits_itself (types.Object c) h = class_itself c
  fits_itself (types.Array x) h = array_itself x.depth x.element
  fits_itself types.Ctx h = refl
  fits_itself _ h = absurd h
