-- What a class implements is an interface, so that an object that is one of a type, as casts ask, fits it.
use Rattle.std.proofs.Common.{◌≡◌, ℕ, zero, suc, ◌⊎◌, inl, inr, Bool, true, List, [], ◌∷◌, ◌++◌, length, refl, sym, subst}
use Rattle.std.specs.List.{AllByRecursion, flat_map, list_any}
use Rattle.std.specs.Str.{bytes_eq}
use Rattle.jtypes.specs.declared.vtype.Element.{Element}
use Rattle.jtypes.specs.declared.vtype.Element.TheVariants as elements
use Rattle.jtypes.specs.declared.vtype.Name.{Name}
use Rattle.jtypes.specs.declared.vtype.VType.{VType}
use Rattle.jtypes.specs.declared.vtype.VType.TheVariants as types
use Rattle.jtypes.specs.Assignability.{array_fits, class_fits, element_fits, is_above_arrays}
use Rattle.jtypes.specs.ProofNames.{is_above_array}
use Rattle.jresolution.specs.jprogram.ProgramClasses.{Program, face_names, find, holds, implements, is_interface, known, over, superinterfaces, up}
use Rattle.jresolution.specs.jprogram.OrderedPrograms.{StandsInOrder}
use Rattle.jresolution.proofs.JprogramProofs.ImplementedInterfaces.{faces_are}
use Rattle.jresolution.proofs.JprogramProofs.NameReachability.{name_is}
use Rattle.jsemantics.specs.jmachine.World.{World, fits, is_above, is_instance, own_tree, world}
use Rattle.jsoundness_laws.specs.typed.RuntimeAssignability.{ImplementsFaces, InstanceFits}
use Rattle.jsoundness_laws.proofs.TypedProofs.SubtypeTransitivity.{or_left, or_right, or_split}

-- ---- interfaces

any_split : {A : Type 0} (t : A → Bool) (xs ys : List A) → list_any t (xs ++ ys) ≡ true → (list_any t xs ≡ true) ⊎ (list_any t ys ≡ true)
any_split t [] ys e = inr e
any_split t (x ∷ xs) ys e = elim (or_split (t x) (list_any t (xs ++ ys)) e) [
  | inl h ↦ inl (or_left (t x) (list_any t xs) h)
  | inr h ↦ elim (any_split t xs ys h) [
    | inl g ↦ inl (or_right (t x) (list_any t xs) g)
    | inr g ↦ inr g
  ]
]

any_one : {A : Type 0} (t : A → Bool) (xs : List A) → list_any t xs ≡ true → (x : A) × (t x ≡ true)
any_one t [] e = absurd (cc)
any_one t (x ∷ xs) e = elim (or_split (t x) (list_any t xs) e) [
  | inl h ↦ (x, h)
  | inr h ↦ any_one t xs h
]

module _ (p : Program) (stands : StandsInOrder p) (i : List ℕ) where
  abbrev IsFace : List ℕ → Type 0
  IsFace f = holds is_interface (find p f) ≡ true

  abbrev AllFaces : List (List ℕ) → Type 0
  AllFaces names = AllByRecursion IsFace names

  abbrev Over : ℕ → Type 0
  Over n = (names : List (List ℕ)) → AllFaces names → list_any (bytes_eq i) (over p n names) ≡ true → IsFace i

  -- the name itself, or one of those over it
  among_one : (n : ℕ) → Over n → (x : List ℕ) → IsFace x → list_any (bytes_eq i) (x ∷ over p n (face_names p x)) ≡ true → IsFace i
  among_one n deep x face e = elim (or_split (bytes_eq i x) (list_any (bytes_eq i) (over p n (face_names p x))) e) [
    | inl same ↦ subst IsFace (sym (name_is i x same)) face
    | inr far ↦ deep (face_names p x) (faces_are p stands x) far
  ]

  along : (n : ℕ) → Over n → (names : List (List ℕ)) → AllFaces names → list_any (bytes_eq i) (flat_map (λ name. name ∷ over p n (face_names p name)) names) ≡ true → IsFace i
  along n deep [] all e = absurd (cc)
  along n deep (x ∷ xs) all e =
      elim (any_split (bytes_eq i) (x ∷ over p n (face_names p x)) (flat_map (λ name. name ∷ over p n (face_names p name)) xs) e) [
        | inl h ↦ among_one n deep x all.0 h
        | inr h ↦ along n deep xs all.1 h
      ]

  over_faces : (n : ℕ) → Over n
  unfolding over
  over_faces zero names all e = absurd (cc)
  over_faces (suc n) names all e = along n (over_faces n) names all e

  above_faces : (x : List ℕ) → list_any (bytes_eq i) (superinterfaces p x) ≡ true → IsFace i
  above_faces x e = over_faces (length (known p)) (face_names p x) (faces_are p stands x) e

  pub implemented : (c : List ℕ) → implements p c i ≡ true → IsFace i
  unfolding implements
  implemented c e = let x = any_one (λ x. list_any (bytes_eq i) (superinterfaces p x)) (up p c) e in above_faces x.0 x.1

pub implements_faces : ImplementsFaces
implements_faces p c d stands e = implemented p stands d c e

-- ---- casts

-- what is implemented is an interface
abbrev pub FacesOf : World → Type 0
FacesOf w = (c d : Name) → w.implements c d ≡ true → w.tree.is_interface d ≡ true

module _ (w : World) (faces : FacesOf w) where
  class_instance : (c d : Name) → class_fits (own_tree w) c d ≡ true → class_fits w.tree c d ≡ true
  class_instance c d e = elim (or_split (w.tree.extends c d) (w.implements c d) e) [
    | inl h ↦ or_right (w.tree.is_interface d) (w.tree.extends c d) h
    | inr h ↦ or_left (w.tree.is_interface d) (w.tree.extends c d) (faces c d h)
  ]

  element_instance : (x y : Element) → element_fits (own_tree w) x y ≡ true → element_fits w.tree x y ≡ true
  element_instance elements.Boolean elements.Boolean e = refl
  element_instance elements.Char elements.Char e = refl
  element_instance elements.Byte elements.Byte e = refl
  element_instance elements.Short elements.Short e = refl
  element_instance elements.Int elements.Int e = refl
  element_instance elements.Long elements.Long e = refl
  element_instance (elements.Class c) (elements.Class d) e = class_instance c d e
  element_instance _ _ e = absurd (cc)

  above_instance : (y : Element) → is_above_array is_above_arrays y ≡ true → is_above_array (is_above w) y ≡ true
  above_instance (elements.Class c) e = or_left (is_above_arrays c) (w.tree.is_interface c) e
  above_instance _ e = absurd (cc)

  array_instance : (a b : ℕ) (x y : Element) → array_fits is_above_arrays (own_tree w) a x b y ≡ true → array_fits (is_above w) w.tree a x b y ≡ true
  unfolding array_fits
  array_instance zero zero x y e = element_instance x y e
  array_instance zero (suc b) x y e = absurd (cc)
  array_instance (suc a) zero x y e = above_instance y e
  array_instance (suc a) (suc b) x y e = array_instance a b x y e

  pub instance_is : (a b : VType) → is_instance w a b ≡ true → fits w a b ≡ true
  instance_is types.Top types.Top e = refl
  instance_is types.Int types.Top e = refl
  instance_is types.Long types.Top e = refl
  instance_is types.Null types.Top e = refl
  instance_is types.UninitThis types.Top e = refl
  instance_is (types.Uninit o) types.Top e = refl
  instance_is (types.Object c) types.Top e = refl
  instance_is (types.Array x) types.Top e = refl
  instance_is types.Ctx types.Top e = refl
  instance_is types.Int types.Int e = refl
  instance_is types.Long types.Long e = refl
  instance_is types.Null types.Null e = refl
  instance_is types.UninitThis types.UninitThis e = refl
  instance_is (types.Uninit o) (types.Uninit n) e = e
  instance_is types.Ctx types.Ctx e = refl
  instance_is types.Null (types.Object d) e = refl
  instance_is types.Null (types.Array y) e = refl
  instance_is (types.Object c) (types.Object d) e = class_instance c d e
  instance_is (types.Array x) (types.Object d) e = or_left (is_above_arrays d) (w.tree.is_interface d) e
  instance_is (types.Array x) (types.Array y) e = array_instance x.depth y.depth x.element y.element e
  instance_is _ _ e = absurd (cc)

pub faces_of : (p : Program) → StandsInOrder p → FacesOf (world p)
unfolding world
faces_of p stands c d h = implemented p stands d.0 c.0 h

pub instance_fits : InstanceFits
instance_fits p a b stands e = instance_is (world p) (faces_of p stands) a b e
