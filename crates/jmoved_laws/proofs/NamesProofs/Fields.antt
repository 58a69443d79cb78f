-- A program and the moved one have the same fields: of objects, of classes, and what each holds.
use Rattle.std.proofs.Common.{◌≡◌, ℕ, suc, ◌+◌, Bool, true, false, List, [], ◌∷◌, ◌++◌, length, map, reverse, take, drop, Option, Some, None, refl, ap, sym, ◌∙◌, subst}
use Rattle.std.specs.Prelude.{option_and_then, option_map, slice_get, if◌then◌else◌}
use Rattle.std.specs.List.{AllByRecursion, filter, flat_map, list_any}
use Rattle.std.proofs.Math.Path.{fun_ext}
use Rattle.std.proofs.lemmas.List.{take-map}
use Rattle.jparts.specs.declared.jpool.descriptor.Descriptor.{Descriptor}
use Rattle.jparts.specs.declared.jpool.descriptor.Descriptor.TheVariants as descriptors
use Rattle.jparts.specs.declared.jpool.descriptor.FieldType.{FieldType}
use Rattle.jparts.specs.jpool.Descriptors.{descriptor_of}
use Rattle.jclass.specs.declared.class.ClassParts.{ClassParts}
use Rattle.jclass.specs.declared.class.MemberInfo.{MemberInfo}
use Rattle.jtypes.specs.declared.vtype.Element.TheVariants as elements
use Rattle.jtypes.specs.declared.vtype.VType.{VType}
use Rattle.jresolution.specs.jlayout.FieldLayout.{element, field_type, is_instance, is_static, layout, layout_above, own_types, place_among, slot, statics_before, statics_of, types_along}
use Rattle.jresolution.specs.ProofNames.{element_in, held_type as held}
use Rattle.jresolution.specs.declared.jprogram.member.Member.{Member}
use Rattle.jresolution.specs.declared.jprogram.member.Member.TheVariants.{Field, LibField, LibMethod, Method}
use Rattle.jresolution.specs.declared.jprogram.member.MethodId.{MethodId}
use Rattle.jresolution.specs.declared.jprogram.part.CodePart.{CodePart}
use Rattle.jresolution.specs.jprogram.ProgramClasses.{Class, Lib, Program, User, find, up}
use Rattle.jresolution.specs.jprogram.MemberResolution.{desc_of, desc_in}
use Rattle.jresolution.specs.jprogram.NameChecks.{entry_reserved, is_reserved, member_reserved, names_reserved, text_reserved}
use Rattle.jresolution.specs.jprogram.ClassFileParts.{member_desc, this_name}
use Rattle.jresolution.specs.juses.DescriptorTypes.{typed}
use Rattle.jresolution.specs.juses.DescriptorTypes as typing
use Rattle.jmove.specs.PoolAdditions.{context_type}
use Rattle.jmoveclass.specs.MovedMembers.{new_desc}
use Rattle.jmoveclass.specs.MovedClasses.{moved_class, moved_part}
use Rattle.jrewriting.specs.jrewrite.LinkageLaws.{IsLinked}
use Rattle.jrewriting.specs.jrewrite.RewrittenPrograms.{moved}
use Rattle.jrewriting.proofs.JrewriteProofs.DeclarationChecks.{second_false}
use Rattle.jrewriting.proofs.JrewriteProofs.FieldLookup.{fielded}
use Rattle.jrewriting.proofs.JrewriteProofs.ClassLookup.{IsMovedClass, SameFound, part_moved, this_same}
use Rattle.jrewriting.proofs.JrewriteProofs.MemberPhase.{any_at, fields_same}
use Rattle.jrewriting.proofs.JrewriteProofs.FinalOverrides.{AllMoving}
use Rattle.jrewriting.proofs.JrewriteProofs.PlainPrograms.{is_plain}
use Rattle.jrewriting.proofs.JrewriteProofs.HierarchyPhases.{IsPlain, plain_at, same, text_plain}
use Rattle.jrewriting.proofs.JrewriteProofs.SupertypeChains.{up_same}
use Rattle.jmoved_laws.proofs.NamesProofs.Classes.{kept_types}
use Rattle.jmoved_laws.proofs.NamesProofs.Types.{typed_same}
use Rattle.jmoved_laws.proofs.NamesProofs.Twins.{Declared, declared, moved_desc, none_pair, old_desc}

-- ---- lists

pub all_by : {A : Type 0} (P : A → Type 0) (xs : List A) → ((k : ℕ) (x : A) → slice_get xs k ≡ Some x → P x) → AllByRecursion P xs
all_by P [] h = tt
all_by P (x ∷ xs) h = (h 0 x refl, all_by P xs (λ k y at. h (suc k) y at))

map_if : {A B : Type 0} (f g : A → B) (x : A) (xs : List A) (b : Bool) → g x ≡ f x → map g xs ≡ map f xs → map g (if b then x ∷ xs else xs) ≡ map f (if b then x ∷ xs else xs)
map_if {A} {B} f g x xs true e h = ap (λ (y : B). y ∷ map g xs) e ∙ ap (λ (ys : List B). f x ∷ ys) h
map_if f g x xs false e h = h

pub map_filter : {A B : Type 0} (f g : A → B) (t : A → Bool) (xs : List A) → AllByRecursion (λ x. g x ≡ f x) xs → map g (filter t xs) ≡ map f (filter t xs)
map_filter f g t [] all = refl
map_filter f g t (x ∷ xs) all = map_if f g x (filter t xs) (t x) all.0 (map_filter f g t xs all.1)

-- ---- the fields of an object

-- the descriptor of a field names nothing kept
field_plain : (p : Program) → IsPlain p → (i : ℕ) (c d : ClassParts) → IsMovedClass p i c d → (k : ℕ) (m : MemberInfo) → slice_get c.fields k ≡ Some m → text_reserved (member_desc c m) ≡ false
field_plain p is i c d h k m at =
    let x = plain_at p is i h.part h.at in
    let kept : names_reserved c ≡ false = subst (λ (y : ClassParts). names_reserved y ≡ false) h.here x.kept in
    any_at (member_reserved c) c.fields k m (second_false (list_any (member_reserved c) c.methods) (list_any (member_reserved c) c.fields) (second_false (list_any (entry_reserved c.pool) c.pool) _ kept)) at

module _ (p : Program) (linked : IsLinked p) where
  abbrev pub plain : IsPlain p
  plain = is_plain p linked

  pub type_kept : (i : ℕ) (c d : ClassParts) → IsMovedClass p i c d → (k : ℕ) (m : MemberInfo) → slice_get c.fields k ≡ Some m → field_type (moved p) d m ≡ field_type p c m
  type_kept i c d h k m at =
      let f = fielded p linked i c d h in
      ap (λ (t : List ℕ). held (typed (moved p) t)) (f.texts m (k, at)).desc ∙ ap held (typed_same p plain (member_desc c m) (field_plain p plain i c d h k m at))

  own_same : (a b : Option Class) → SameFound p a b → own_types (moved p) b ≡ own_types p a
  own_same None None h = refl
  own_same (Some (Lib c)) (Some (Lib d)) h = refl
  own_same (Some (User i c)) (Some (User j d)) h =
      let f = fielded p linked i c d h.1 in
      ap (λ (fs : List MemberInfo). map (field_type (moved p) d) (filter is_instance fs)) f.fields
      ∙ map_filter (field_type p c) (field_type (moved p) d) is_instance c.fields (all_by (λ m. field_type (moved p) d m ≡ field_type p c m) c.fields (type_kept i c d h.1))
  own_same None (Some d) h = absurd h
  own_same (Some (User i c)) None h = absurd h
  own_same (Some (Lib c)) None h = absurd h
  own_same (Some (User i c)) (Some (Lib d)) h = absurd h
  own_same (Some (Lib c)) (Some (User j d)) h = absurd h

  -- of the class of any name
  at_name : (c : List ℕ) (b : Bool) → is_reserved c ≡ b → own_types (moved p) (find (moved p) c) ≡ own_types p (find p c)
  at_name c false e = own_same (find p c) (find (moved p) c) (same p plain c e)
  at_name c true e = kept_types p plain c e

  along_same : (names : List (List ℕ)) → types_along (moved p) names ≡ types_along p names
  along_same names = ap (λ (f : List ℕ → List VType). flat_map f (reverse names)) (fun_ext (λ c. at_name c (is_reserved c) refl))

  pub layout_same : (c : List ℕ) → is_reserved c ≡ false → layout (moved p) c ≡ layout p c
  unfolding layout
  layout_same c kept = along_same (up (moved p) c) ∙ ap (types_along p) (up_same p plain c kept).same

  above_same : (c : List ℕ) → is_reserved c ≡ false → layout_above (moved p) c ≡ layout_above p c
  unfolding layout_above
  above_same c kept = along_same (drop 1 (up (moved p) c)) ∙ ap (λ (xs : List (List ℕ)). types_along p (drop 1 xs)) (up_same p plain c kept).same

  -- ---- where fields stand

  flat_statics : (xs : List CodePart) → flat_map statics_of (map (moved_part p) xs) ≡ flat_map statics_of xs
  flat_statics [] = refl
  flat_statics (x ∷ xs) = ap (λ (fs : List MemberInfo). filter is_static fs ++ flat_map statics_of (map (moved_part p) xs)) (fields_same p x.domain x.class) ∙ ap (λ (ys : List MemberInfo). statics_of x ++ ys) (flat_statics xs)

  before_same : (i : ℕ) → statics_before (moved p) i ≡ statics_before p i
  unfolding statics_before moved
  before_same i = ap (λ (xs : List CodePart). length (flat_map statics_of xs)) (take-map (moved_part p) i p.parts) ∙ ap length (flat_statics (take i p.parts))

  place_same : (i j : ℕ) (part : CodePart) (m : MemberInfo) → slice_get p.parts i ≡ Some part → place_among (moved p) i j (moved_class p part.domain part.class) m ≡ place_among p i j part.class m
  place_same i j part m at =
      let c = part.class in
      let d = moved_class p part.domain c in
      let x = plain_at p plain i part at in
      let kept = text_plain c c.this_class x.kept x.named.this in
      let names = this_same p part.domain c x.named in
      ap (λ (fs : List MemberInfo). if is_static m then statics_before (moved p) i + length (filter is_static (take j fs)) else length (layout_above (moved p) (this_name d)) + length (filter is_instance (take j fs))) (fields_same p part.domain c)
      ∙ ap (λ (n : ℕ). if is_static m then n + length (filter is_static (take j c.fields)) else length (layout_above (moved p) (this_name d)) + length (filter is_instance (take j c.fields))) (before_same i)
      ∙ ap (λ (t : List ℕ). if is_static m then statics_before p i + length (filter is_static (take j c.fields)) else length (layout_above (moved p) t) + length (filter is_instance (take j c.fields))) names
      ∙ ap (λ (ts : List VType). if is_static m then statics_before p i + length (filter is_static (take j c.fields)) else length ts + length (filter is_instance (take j c.fields))) (above_same (this_name c) kept)

  abbrev place_by : Program → ℕ → ℕ → Option CodePart → Option ℕ
  place_by q i j o = option_map (λ (one : ClassParts × MemberInfo). place_among q i j one.0 one.1) (option_and_then (λ c. option_map (λ m. (c, m)) (slice_get c.fields j)) (option_map (λ part. part.class) o))

  slot_in : (i j : ℕ) (part : CodePart) (o : Option MemberInfo) → slice_get p.parts i ≡ Some part → option_map (λ (one : ClassParts × MemberInfo). place_among (moved p) i j one.0 one.1) (option_map (λ m. (moved_class p part.domain part.class, m)) o) ≡ option_map (λ (one : ClassParts × MemberInfo). place_among p i j one.0 one.1) (option_map (λ m. (part.class, m)) o)
  slot_in i j part None at = refl
  slot_in i j part (Some m) at = ap (λ (n : ℕ). Some n) (place_same i j part m at)

  slot_by : (i j : ℕ) (o : Option CodePart) → slice_get p.parts i ≡ o → place_by (moved p) i j (option_map (moved_part p) o) ≡ place_by p i j o
  slot_by i j None at = refl
  slot_by i j (Some part) at =
      ap (λ (fs : List MemberInfo). option_map (λ (one : ClassParts × MemberInfo). place_among (moved p) i j one.0 one.1) (option_map (λ m. (moved_class p part.domain part.class, m)) (slice_get fs j))) (fields_same p part.domain part.class)
      ∙ slot_in i j part (slice_get part.class.fields j) at

  slot_at : (i j : ℕ) → slot (moved p) (Field i j) ≡ slot p (Field i j)
  unfolding slot moved
  slot_at i j = ap (place_by (moved p) i j) (part_moved p p.parts i) ∙ slot_by i j (slice_get p.parts i) refl

  pub slot_same : (m : Member) → slot (moved p) m ≡ slot p m
  unfolding slot
  slot_same (Field i j) = slot_at i j
  slot_same (Method m) = refl
  slot_same (LibMethod x) = refl
  slot_same LibField = refl

  -- ---- what they hold

  abbrev desc_by : ℕ → Option CodePart → List ℕ
  desc_by j o = desc_in (option_and_then (λ c. option_map (λ m. (c, m)) (slice_get c.fields j)) (option_map (λ part. part.class) o))

  held_in : (i j : ℕ) (part : CodePart) (o : Option MemberInfo) → slice_get p.parts i ≡ Some part → slice_get part.class.fields j ≡ o → desc_in (option_map (λ m. (moved_class p part.domain part.class, m)) o) ≡ desc_in (option_map (λ m. (part.class, m)) o)
  held_in i j part None at there = refl
  held_in i j part (Some m) at there = ((fielded p linked i part.class (moved_class p part.domain part.class) (record { part = part; at = at; here = refl; there = refl })).texts m (j, there)).desc

  held_by : (i j : ℕ) (o : Option CodePart) → slice_get p.parts i ≡ o → desc_by j (option_map (moved_part p) o) ≡ desc_by j o
  held_by i j None at = refl
  held_by i j (Some part) at =
      ap (λ (fs : List MemberInfo). desc_in (option_map (λ m. (moved_class p part.domain part.class, m)) (slice_get fs j))) (fields_same p part.domain part.class)
      ∙ held_in i j part (slice_get part.class.fields j) at refl

  pub field_desc : (i j : ℕ) → desc_of (moved p) (Field i j) ≡ desc_of p (Field i j)
  unfolding desc_of moved
  field_desc i j = ap (desc_by j) (part_moved p p.parts i) ∙ held_by i j (slice_get p.parts i) refl

-- a method holds nothing
module _ (p : Program) (linked : IsLinked p) (all : AllMoving p) where
  none_of_text : (t : List ℕ) (ps : List FieldType) (ret : Option FieldType) → descriptor_of t ≡ Some (descriptors.Method ps ret) → element t ≡ None
  unfolding element
  none_of_text t ps ret e = ap element_in e

  none_declared : (m : MethodId) (k : Declared p m) → element (desc_of (moved p) (Method m)) ≡ element (desc_of p (Method m))
  none_declared m k =
      let f = k.moving.facts k.method (m.method, k.there) in
      ap element (moved_desc p (is_plain p linked) m k) ∙ none_of_text (new_desc k.part.class k.method) (f.ps ++ context_type ∷ []) f.ret f.new
      ∙ sym (ap element (old_desc p (is_plain p linked) m k) ∙ none_of_text (member_desc k.part.class k.method) f.ps f.ret f.old)

  abbrev method_desc : MethodId → Option CodePart → List ℕ
  method_desc m o = desc_in (option_and_then (λ c. option_map (λ x. (c, x)) (slice_get c.methods m.method)) (option_map (λ part. part.class) o))

  none_in : (m : MethodId) (part : CodePart) (o : Option MemberInfo) → slice_get p.parts m.class ≡ Some part → slice_get part.class.methods m.method ≡ o → element (desc_of (moved p) (Method m)) ≡ element (desc_of p (Method m))
  unfolding desc_of moved
  none_in m part (Some x) at there = none_declared m (declared p all m part x at there)
  none_in m part None at there =
      let c = part.class in
      let d = moved_class p part.domain c in
      let k = all m.class c d (record { part = part; at = at; here = refl; there = refl }) in
      ap element (ap (method_desc m) (part_moved p p.parts m.class ∙ ap (option_map (moved_part p)) at) ∙ ap (λ (o : Option MemberInfo). desc_in (option_map (λ x. (d, x)) o)) (none_pair c d c.methods d.methods m.method k.1 there))
      ∙ sym (ap element (ap (method_desc m) at ∙ ap (λ (o : Option MemberInfo). desc_in (option_map (λ x. (c, x)) o)) there))

  none_by : (m : MethodId) (o : Option CodePart) → slice_get p.parts m.class ≡ o → element (desc_of (moved p) (Method m)) ≡ element (desc_of p (Method m))
  unfolding desc_of moved
  none_by m (Some part) at = none_in m part (slice_get part.class.methods m.method) at refl
  none_by m None at = ap element (ap (method_desc m) (part_moved p p.parts m.class ∙ ap (option_map (moved_part p)) at) ∙ sym (ap (method_desc m) at))

  pub element_same : (m : Member) → element (desc_of (moved p) m) ≡ element (desc_of p m)
  unfolding desc_of
  element_same (Field i j) = ap element (field_desc p linked i j)
  element_same (Method m) = none_by m (slice_get p.parts m.class) refl
  element_same (LibMethod x) = refl
  element_same LibField = refl
