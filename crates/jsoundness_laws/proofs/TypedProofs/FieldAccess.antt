-- Instructions with fields in typed frames.
use Rattle.std.proofs.Common.{◌≡◌, ℕ, zero, suc, ◌<◌, true, false, ◌||◌, List, [], ◌∷◌, length, map, Option, Some, None, inl, inr, refl, sym, ap, subst, arith, ◌∙◌}
use Rattle.std.specs.Prelude.{option_and_then, option_map, slice_get, slice_set, if◌then◌else◌}
use Rattle.std.proofs.lemmas.Bool.{lt-ltb}
use Rattle.jclass.specs.declared.class.ClassParts.{ClassParts}
use Rattle.jclass.specs.declared.class.MemberInfo.{MemberInfo}
use Rattle.jlib.specs.declared.classes.LibClass.{LibClass}
use Rattle.jlib.specs.declared.classes.LibClass.TheVariants as lib
use Rattle.jlib.specs.LibraryClasses as library
use Rattle.jvalues.specs.declared.jops.value.Value.{Value}
use Rattle.jvalues.specs.declared.jops.value.Value.TheVariants.{Ref}
use Rattle.jtypes.specs.declared.vtype.Name.{Name}
use Rattle.jtypes.specs.declared.vtype.VType.{VType}
use Rattle.jtypes.specs.declared.vtype.VType.TheVariants as types
use Rattle.jtypes.specs.Assignability.{is_above_arrays}
use Rattle.jresolution.specs.declared.jprogram.member.Member.TheVariants.{Field}
use Rattle.jresolution.specs.declared.jprogram.part.ClassRef.TheVariants as refs
use Rattle.jresolution.specs.declared.jprogram.part.CodePart.{CodePart}
use Rattle.jresolution.specs.jprogram.ProgramClasses.{Program, User, extends, find, holds, is_interface, name_at, ref_of, tree, named}
use Rattle.jresolution.specs.jprogram.MemberResolution.{info_of, is_static, owner_of, user_is, owner_in}
use Rattle.jresolution.specs.jprogram.ClassFileParts as parts
use Rattle.jresolution.specs.jprogram.ClassFileParts.{this_name}
use Rattle.jresolution.specs.jprogram.OrderedPrograms.{StandsInOrder}
use Rattle.jresolution.proofs.JprogramProofs.SuperclassOrder.{extends_chain}
use Rattle.jresolution.proofs.JprogramProofs.ClassNumbers.{own_number}
use Rattle.jresolution.proofs.JprogramProofs.NameReachability.{clash}
use Rattle.jresolution.specs.jlayout.FieldLayout as layouts
use Rattle.jresolution.specs.jlayout.FieldLayout.{field_type, layout, place_among, slot}
use Rattle.jresolution.specs.jlayout.InternedFields.{IsFieldOf, all_statics}
use Rattle.jresolution.proofs.JlayoutProofs.SlotContents as standings
use Rattle.jsemantics.specs.jmachine.FieldInstructions.{get_from, get_static, put_into, put_static, with_place}
use Rattle.jsemantics.specs.jmachine.Narrowing.{narrowed}
use Rattle.jsemantics.specs.jmachine.HeapObjects.{Object, Instance, Thrown, Text, Builder, Piece, Permission, Context, Thread, Bare, Array, class_of}
use Rattle.jsemantics.specs.jmachine.Store.{Store, object_at, with_object, with_statics}
use Rattle.jsemantics.specs.jmachine.World.{World, fits, world}
use Rattle.jsoundness_laws.specs.typed.StoreGrowth.{Becomes, Grows}
use Rattle.jsoundness_laws.specs.typed.TypedStores.{IsObject, IsStored}
use Rattle.jsoundness_laws.specs.typed.TypedUses.{static_types}
use Rattle.jsoundness_laws.specs.typed.TypedValues.{AreOf, IsA, known}
use Rattle.jresolution.proofs.JprogramProofs.UserSubclasses.{above_is_no_user, lib_no_user}
use Rattle.jsoundness_laws.proofs.TypedProofs.ObjectUpdates.{stored_changed}
use Rattle.jsoundness_laws.proofs.TypedProofs.SubtypeTransitivity.{or_split, runs_above}
use Rattle.jsoundness_laws.proofs.TypedProofs.StoreMonotonicity.{get_front, grows_changed, serves_kept}
use Rattle.jsoundness_laws.proofs.TypedProofs.ArrayItems.{narrowed_is}
use Rattle.jsoundness_laws.proofs.TypedProofs.ValueKinds.{whole_class}
use Rattle.jsoundness_laws.proofs.TypedProofs.Orders.{in_order}
use Rattle.jsoundness_laws.proofs.TypedProofs.ObjectAllocation.{are_kept, object_kept}

some_is : {A : Type 0} (a b : A) → Some a ≡ Some b → a ≡ b
some_is a b e = cc

-- ---- lists

get_map : {A B : Type 0} (f : A → B) (xs : List A) (n : ℕ) (x : A) → slice_get xs n ≡ Some x → slice_get (map f xs) n ≡ Some (f x)
get_map f [] n x e = absurd (cc)
get_map f (y ∷ xs) zero x e = ap (λ y. Some (f y)) (some_is y x e)
get_map f (y ∷ xs) (suc n) x e = get_map f xs n x e

within : {A : Type 0} (xs : List A) (n : ℕ) (x : A) → slice_get xs n ≡ Some x → n < length xs
within [] n x e = absurd (cc)
within (y ∷ xs) zero x e = omega arith
within (y ∷ xs) (suc n) x e = let less = within xs n x e in omega (arith, less)

-- a place that is there gets another value
placed : {K : Type 0} (values : List (Value K)) (v x : Value K) (n : ℕ) → slice_get values n ≡ Some x → with_place values v n ≡ Some (slice_set values n v)
placed values v x n e = ap (λ b. if b then Some (slice_set values n v) else None) (lt-ltb n (length values) (within values n x e))

module _ {K : Type 0} (w : World) (s : Store K) where
  abbrev pub Found : VType → List (Value K) → ℕ → Type 0
  Found t values n = (v : Value K) × (slice_get values n ≡ Some v) × IsA w s t v

  are_get : (ts : List VType) (vs : List (Value K)) (n : ℕ) (t : VType) → AreOf w s ts vs → slice_get ts n ≡ Some t → Found t vs n
  are_get [] vs n t h e = absurd (cc)
  are_get (a ∷ ts) [] n t h e = absurd h
  are_get (a ∷ ts) (v ∷ vs) zero t h e = (v, refl, subst (λ a. IsA w s a v) (some_is a t e) h.0)
  are_get (a ∷ ts) (v ∷ vs) (suc n) t h e = are_get ts vs n t h.1 e

  are_set : (ts : List VType) (vs : List (Value K)) (n : ℕ) (t : VType) (v : Value K) → AreOf w s ts vs → slice_get ts n ≡ Some t → IsA w s t v → AreOf w s ts (slice_set vs n v)
  are_set [] vs n t v h e x = absurd (cc)
  are_set (a ∷ ts) [] n t v h e x = absurd h
  are_set (a ∷ ts) (u ∷ vs) zero t v h e x = (subst (λ a. IsA w s a v) (sym (some_is a t e)) x, h.1)
  are_set (a ∷ ts) (u ∷ vs) (suc n) t v h e x = (h.0, are_set ts vs n t v h.1 e x)

-- ---- where a field stands

module _ (p : Program) (i j : ℕ) (part : CodePart) (m : MemberInfo) (stands : IsFieldOf p i j part m) where
  pub info_is : info_of p (Field i j) ≡ Some (part.class, m)
  info_is =
      ap (λ o. option_and_then (λ c. option_map (λ m. (c, m)) (slice_get c.fields j)) (option_map (λ (part : CodePart). part.class) o)) stands.stands
      ∙ ap (option_map (λ (m : MemberInfo). (part.class, m))) stands.declared

  pub static_is : is_static p (Field i j) ≡ layouts.is_static m
  unfolding is_static
  static_is = ap (user_is (λ (one : MemberInfo). parts.is_static one.flags)) info_is

  pub owner_is : owner_of p (Field i j) ≡ this_name part.class
  unfolding owner_of
  owner_is = ap owner_in info_is

  pub slot_is : slot p (Field i j) ≡ Some (place_among p i j part.class m)
  unfolding slot
  slot_is = ap (option_map (λ (one : ClassParts × MemberInfo). place_among p i j one.0 one.1)) info_is

  pub name_is : name_at p (refs.User i) ≡ this_name part.class
  name_is = ap (λ (o : Option CodePart). named (option_map (λ (part : CodePart). User i part.class) o)) stands.stands

-- ---- statics

module _ {K : Type 0} (p : Program) (s : Store K) (stored : IsStored (world p) s (static_types p)) (i j : ℕ) (part : CodePart) (m : MemberInfo) (stands : IsFieldOf p i j part m)
    (static : layouts.is_static m ≡ true) where
  abbrev at : ℕ
  at = place_among p i j part.class m

  type_at : slice_get (static_types p) at ≡ Some (field_type p part.class m)
  type_at =
      get_map (λ (x : CodePart × MemberInfo). field_type p x.0.class x.1) (all_statics p) at (part, m)
      (standings.static_stands p i j at part m (λ x y. (x, y)) stands static (slot_is p i j part m stands))

  static_there : Found (world p) s (field_type p part.class m) s.statics at
  static_there = are_get (world p) s (static_types p) s.statics at (field_type p part.class m) stored.statics_of type_at

  -- what is read
  pub static_read : (v : Value K) × (get_static (world p) s (Field i j) ≡ Some v) × IsA (world p) s (field_type p part.class m) v
  unfolding world
  static_read = let x = static_there in (x.0, ap (option_and_then (slice_get s.statics)) (slot_is p i j part m stands) ∙ x.1, x.2)

  abbrev later : List (Value K) → Store K
  later values = with_statics s values

  same_object : (values : List (Value K)) (n : ℕ) → object_at (later values) n ≡ object_at s n
  same_object values zero = refl
  same_object values (suc n) = refl

  statics_grow : (values : List (Value K)) → Grows (world p) s (later values)
  statics_grow values n x e = (x, same_object values n ∙ e, record { class = refl; whole = λ h. h; piece = refl })

  statics_stored : (values : List (Value K)) → AreOf (world p) (later values) (static_types p) values → IsStored (world p) (later values) (static_types p)
  statics_stored values h = record {
    objects = λ n x e. object_kept (world p) s (later values) (statics_grow values) x (stored.objects n x (sym (same_object values n) ∙ e));
    statics_of = h;
    constants = λ c inside. same_object values c.1 ∙ stored.constants c inside;
    out_is = same_object values 1 ∙ stored.out_is;
  }

  -- a store behind, in which another value was put
  pub record Put (found : Option (Store K)) : Type 0 where
    pub store : Store K
    pub is : found ≡ Some store
    pub grows : Grows (world p) s store
    pub typed : IsStored (world p) store (static_types p)

  pub static_put : (v : Value K) → IsA (world p) s (field_type p part.class m) v → Put (put_static (world p) s (Field i j) v)
  unfolding world
  static_put v x =
      let there = static_there in
      let y = narrowed ((world p).element (Field i j)) v in
      let values = slice_set s.statics at y in
      let is = narrowed_is (world p) s (field_type p part.class m) ((world p).element (Field i j)) v x in
      let kept = are_kept (world p) s (later values) (statics_grow values) (static_types p) s.statics stored.statics_of in
      record {
        store = later values;
        is = ap (λ o. option_map (with_statics s) (option_and_then (with_place s.statics y) o)) (slot_is p i j part m stands)
            ∙ ap (option_map (with_statics s)) (placed s.statics y there.0 at there.1);
        grows = statics_grow values;
        typed = statics_stored values (are_set (world p) (later values) (static_types p) s.statics at (field_type p part.class m) y kept type_at
            (serves_kept (world p) s (later values) (statics_grow values) _ y is));
      }

-- ---- fields of objects

module _ (p : Program) (good : StandsInOrder p) (i j : ℕ) (part : CodePart) (m : MemberInfo) (stands : IsFieldOf p i j part m) where
  abbrev declarer : List ℕ
  declarer = name_at p (refs.User i)

  -- no class of the library stands below a user's
  no_library : (l : LibClass) → extends p (library.name_of l) declarer ≡ true → ⊥
  no_library l e =
      above_is_no_user p good (library.name_of l) declarer e (lib_no_user p good l) i
      (subst (λ (n : List ℕ). option_map ref_of (find p n) ≡ Some (refs.User i)) (sym (name_is p i j part m stands)) (own_number p i part good stands.stands))

  -- the field's type stands in the layout of each class below
  type_below : (c : List ℕ) → extends p c declarer ≡ true → layouts.is_static m ≡ false → slice_get (layout p c) (place_among p i j part.class m) ≡ Some (field_type p part.class m)
  type_below c e static =
      let more = standings.layout_grows p good c declarer e in
      let own = standings.field_stands p i j (place_among p i j part.class m) part m good stands static (slot_is p i j part m stands) in
      let here = ap (λ (n : List ℕ). slice_get (layout p n) (place_among p i j part.class m)) (name_is p i j part m stands) ∙ own in
      ap (λ (ts : List VType). slice_get ts (place_among p i j part.class m)) more.1
      ∙ get_front (layout p declarer) more.0 (place_among p i j part.class m) (field_type p part.class m) here

module _ {K : Type 0} (p : Program) (good : StandsInOrder p) (s : Store K) (stored : IsStored (world p) s (static_types p)) (i j : ℕ) (part : CodePart) (m : MemberInfo)
    (stands : IsFieldOf p i j part m) (instance : layouts.is_static m ≡ false) where
  -- an object of a user's class that has the field
  pub record HasField (n : ℕ) : Type 0 where
    pub class : ℕ
    pub message : ℕ
    pub values : List (Value K)
    pub at : object_at s n ≡ Some (Instance class message values)
    pub below : extends p (name_at p (refs.User class)) (name_at p (refs.User i)) ≡ true

  by_name : (n : ℕ) (d : Name) → holds is_interface (find p d.0) ≡ false → extends p d.0 (name_at p (refs.User i)) ≡ true → (c : List ℕ)
      → holds is_interface (find p d.0) || extends p c d.0 ≡ true → extends p c (name_at p (refs.User i)) ≡ true
  by_name n d face above c e = elim (or_split (holds is_interface (find p d.0)) (extends p c d.0) e) [
    | inl h ↦ clash (holds is_interface (find p d.0)) h face
    | inr h ↦ extends_chain p good c d.0 (name_at p (refs.User i)) h above
  ]

  -- what an array fits is no class that stands below a user's
  no_array : (d : Name) → holds is_interface (find p d.0) ≡ false → extends p d.0 (name_at p (refs.User i)) ≡ true → runs_above (tree p) d ≡ true → ⊥
  no_array d face above e = elim (or_split (is_above_arrays d) (holds is_interface (find p d.0)) e) [
    | inl h ↦ elim ((in_order p good).two d h) [
      | inl top ↦ no_library p good i j part m stands lib.Object (subst (λ (n : List ℕ). extends p n (name_at p (refs.User i)) ≡ true) top above)
      | inr other ↦ clash (holds is_interface (find p d.0)) other face
    ]
    | inr h ↦ clash (holds is_interface (find p d.0)) h face
  ]

  abbrev Fits : Name → VType → Type 0
  Fits d t = fits (world p) t (types.Object d) ≡ true

  by_object : (n : ℕ) (d : Name) → holds is_interface (find p d.0) ≡ false → extends p d.0 (name_at p (refs.User i)) ≡ true → (x : Object K) → object_at s n ≡ Some x
      → Fits d (class_of (world p).named x) → HasField n
  unfolding world
  by_object n d face above (Instance class message values) there e = record {
    class = class;
    message = message;
    values = values;
    at = there;
    below = by_name n d face above (name_at p (refs.User class)) e;
  }
  by_object n d face above (Thrown c message) there e = absurd (no_library p good i j part m stands c (by_name n d face above (library.name_of c) e))
  by_object n d face above (Text units) there e = absurd (no_library p good i j part m stands lib.String (by_name n d face above (library.name_of lib.String) e))
  by_object n d face above (Builder units) there e = absurd (no_library p good i j part m stands lib.StringBuilder (by_name n d face above (library.name_of lib.StringBuilder) e))
  by_object n d face above (Piece units) there e = absurd (no_library p good i j part m stands lib.StringBuilder (by_name n d face above (library.name_of lib.StringBuilder) e))
  by_object n d face above (Permission c held) there e = absurd (no_library p good i j part m stands (lib.Permission c) (by_name n d face above (library.name_of (lib.Permission c)) e))
  by_object n d face above (Context kept) there e = absurd (no_library p good i j part m stands lib.AccessControlContext (by_name n d face above (library.name_of lib.AccessControlContext) e))
  by_object n d face above (Thread number) there e = absurd (no_library p good i j part m stands lib.Thread (by_name n d face above (library.name_of lib.Thread) e))
  by_object n d face above (Bare c) there e = absurd (no_library p good i j part m stands c (by_name n d face above (library.name_of c) e))
  by_object n d face above (Array a items) there e = absurd (no_array d face above e)

  -- a reference that isn't null names such an object, where its type fits a class that has the field
  pub object_there : (n : ℕ) (d : Name) → holds is_interface (find p d.0) ≡ false → extends p d.0 (name_at p (refs.User i)) ≡ true → (t : VType)
      → known (world p) s (Ref (suc n)) ≡ Some t → Fits d t → HasField (suc n)
  object_there n d face above t is e =
      let x = whole_class (world p) s (object_at s (suc n)) t is in
      by_object (suc n) d face above x.0 x.1 (subst (λ t. Fits d t) x.2 e)

  module _ (n : ℕ) (x : HasField (suc n)) where
    abbrev place : ℕ
    place = place_among p i j part.class m

    abbrev held : VType
    held = field_type p part.class m

    type_there : slice_get (layout p (name_at p (refs.User x.class))) place ≡ Some held
    type_there = type_below p good i j part m stands (name_at p (refs.User x.class)) x.below instance

    object_is : IsObject (world p) s (Instance x.class x.message x.values)
    object_is = stored.objects (suc n) (Instance x.class x.message x.values) x.at

    value_there : Found (world p) s held x.values place
    unfolding world
    value_there = are_get (world p) s (layout p (name_at p (refs.User x.class))) x.values place held object_is.1 type_there

    -- what is read
    pub field_read : (v : Value K) × (get_from (world p) (Field i j) (object_at s (suc n)) ≡ Some v) × IsA (world p) s held v
    unfolding world
    field_read = let y = value_there in (
      y.0,
      ap (get_from (world p) (Field i j)) x.at ∙ ap (option_and_then (slice_get x.values)) (slot_is p i j part m stands) ∙ y.1,
      y.2,
    )

    -- what is put leaves a typed store
    pub record PutInto (found : Option (Object K)) : Type 0 where
      pub object : Object K
      pub is : found ≡ Some object
      pub grows : Grows (world p) s (with_object s (suc n) object)
      pub typed : IsStored (world p) (with_object s (suc n) object) (static_types p)

    abbrev with_values : List (Value K) → Object K
    with_values values = Instance x.class x.message values

    abbrev after : List (Value K) → Store K
    after values = with_object s (suc n) (with_values values)

    becomes : (values : List (Value K)) → Becomes (world p) (with_values x.values) (with_values values)
    becomes values = record { class = refl; whole = λ h. h; piece = refl }

    grows_after : (values : List (Value K)) → Grows (world p) s (after values)
    grows_after values = grows_changed K (world p) s (suc n) (with_values x.values) (with_values values) x.at (becomes values)

    set_values : (y : Value K) → IsA (world p) s held y → IsObject (world p) (after (slice_set x.values place y)) (with_values (slice_set x.values place y))
    unfolding world
    set_values y h =
        let values = slice_set x.values place y in
        let kept = object_kept (world p) s (after values) (grows_after values) (with_values x.values) object_is in (
          kept.0,
          are_set (world p) (after values) (layout p (name_at p (refs.User x.class))) x.values place held y kept.1 type_there (serves_kept (world p) s (after values) (grows_after values) _ y h),
        )

    put_values : (y : Value K) → IsA (world p) s held y
        → IsStored (world p) (after (slice_set x.values place y)) (static_types p)
    put_values y h = let values = slice_set x.values place y in
        stored_changed (world p) s n (with_values x.values) (with_values values) (static_types p) stored x.at tt (becomes values) (set_values y h)

    pub field_put : (v : Value K) → IsA (world p) s held v → PutInto (put_into (world p) (Field i j) v (object_at s (suc n)))
    unfolding world
    field_put v h =
        let there = value_there in
        let y = narrowed ((world p).element (Field i j)) v in
        let values = slice_set x.values place y in record {
          object = with_values values;
          is = ap (put_into (world p) (Field i j) v) x.at
              ∙ ap (λ o. option_map (Instance x.class x.message) (option_and_then (with_place x.values y) o)) (slot_is p i j part m stands)
              ∙ ap (option_map (Instance x.class x.message)) (placed x.values y there.0 place there.1);
          grows = grows_after values;
          typed = put_values y (narrowed_is (world p) s held ((world p).element (Field i j)) v h);
        }
