-- What linking says of a class that an instruction names: its objects hold nothing that has no value to begin with.
use Rattle.std.proofs.Common.{◌≡◌, ◌∙◌, inl, inr, ℕ, zero, suc, ◌+◌, ◌||◌, ◌&&◌, ◌==◌, ◌^◌, Bool, true, false, not, List, [], ◌∷◌, reverse, Option, Some, None, refl, sym}
use Rattle.std.proofs.Common.{ap, subst, arith}
use Rattle.std.specs.Prelude.{is_some, option_and_then, option_map, slice_get, nat_lt, if◌then◌else◌}
use Rattle.std.specs.List.{AllByRecursion, filter, flat_map}
use Rattle.std.specs.Option.{IsSome}
use Rattle.std.proofs.lemmas.Bool.{ne_eqb, or_parts}
use Rattle.std.proofs.lemmas.Option.{slice_get-map}
use Rattle.jground.specs.jbase.FirstFaults.{fault_if, or_else}
use Rattle.jparts.specs.declared.jpool.descriptor.Descriptor.{Descriptor}
use Rattle.jparts.specs.declared.jpool.descriptor.Descriptor.TheVariants as descriptors
use Rattle.jparts.specs.declared.jpool.descriptor.FieldType.{FieldType}
use Rattle.jparts.specs.declared.jpool.entry.Entry.{Entry}
use Rattle.jparts.specs.jpool.Descriptors.{descriptor_of, descriptor_text, field_of, is_class_sign, is_well_formed}
use Rattle.jparts.proofs.JpoolProofs.DescriptorTexts.{descriptor_again, descriptor_take, field_take}
use Rattle.jclass.specs.declared.class.ClassParts.{ClassParts}
use Rattle.jclass.specs.declared.class.MemberInfo.{MemberInfo}
use Rattle.jtypes.specs.declared.vtype.ArrayType.{ArrayType}
use Rattle.jtypes.specs.declared.vtype.Element.{Element}
use Rattle.jtypes.specs.declared.vtype.Element.TheVariants as elements
use Rattle.jtypes.specs.declared.vtype.Name.{Name}
use Rattle.jtypes.specs.declared.vtype.VType.{VType}
use Rattle.jtypes.specs.declared.vtype.VType.TheVariants as types
use Rattle.jtypes.specs.DescriptorElements.{in_brackets}
use Rattle.jresolution.specs.declared.jprogram.fault.LinkKind.TheVariants.{NoClass, NotAccessible}
use Rattle.jresolution.specs.declared.jprogram.part.ClassRef.TheVariants as refs
use Rattle.jresolution.specs.declared.jprogram.part.CodePart.{CodePart}
use Rattle.jresolution.specs.jprogram.ClassFileParts.{member_desc, or_empty, package_of, same_package, this_name}
use Rattle.jresolution.specs.jprogram.ProgramClasses.{Class, Lib, Program, User, find, name_at, ref_of, up}
use Rattle.jresolution.specs.jprogram.MemberResolution.{may_name}
use Rattle.jresolution.specs.jprogram.ProofNames.{is_public_at}
use Rattle.jresolution.specs.jprogram.SuperChecks.{is_missing}
use Rattle.jresolution.proofs.JprogramProofs.NameReachability.{name_equal}
use Rattle.jresolution.proofs.JprogramProofs.ClassHeights.{Stands, Users, Libs, Nowhere, all_append, all_of_map, stands}
use Rattle.jlinking.specs.jmembers.MemberDeclarations.{desc_left_out, desc_missing, text_left_out, text_missing, type_missing}
use Rattle.jresolution.specs.jprogram.UnsupportedTypes.{is_context, is_floating}
use Rattle.jresolution.specs.jlayout.FieldLayout.{field_type, is_instance, layout, own_types}
use Rattle.jresolution.specs.ProofNames
use Rattle.jresolution.specs.juses.DescriptorTypes.{Held, Typed, array_over, class_by, class_of, class_type, element_in, name, there, type_in, type_of, typed, typed_as}
use Rattle.jresolution.specs.ProofNames.{held}
use Rattle.jresolution.specs.juses.DescriptorTypes as says
use Rattle.jlinking.specs.jreferring.PoolEntryMeanings.{judge, judge_pool}
use Rattle.jlinking.specs.jreferring.ClassNameAccess.{class_test, type_test}
use Rattle.jlinking.specs.jreferring.ClassEntryUses.{class_use, operand_test}
use Rattle.jlinking.specs.jreferring.CodeUnits as units
use Rattle.jlinking.specs.jreferring.CodeUnits.{operand_at}
use Rattle.jlinking.specs.ProofNames.{class_in}
use Rattle.jtyping.specs.jrule.StackEffects.{is_ref}
use Rattle.jlinking.specs.jlink.ProgramFiles.{AreFiles}
use Rattle.jlinking.specs.jlink.NamedFields.{is_plain}
use Rattle.jlinking.specs.jlink.LinkedPrograms.{Links}
use Rattle.jlinking.proofs.JlinkProofs.FieldResolution.{named_plain}
use Rattle.jlinking.proofs.JlinkProofs.FittingClassFiles.{field_desc}
use Rattle.jlinking.proofs.JlinkProofs.PresentValues.{has_some, map_is}
use Rattle.jlinking.proofs.JlinkProofs.DescriptorTypes.{class_is, type_there}
use Rattle.jsoundness_laws.specs.typed.TypedUses.{IsLaidOut}
use Rattle.jsoundness_laws.specs.typed.TypedValues.{HasDimensions}
use Rattle.jsoundness_laws.proofs.TypedProofs.Dimensions.{class_type_named}
use Rattle.jsoundness_laws.proofs.ProgramProofs.Codes.{field_kept, field_known}
use Rattle.jsoundness_laws.proofs.ProgramProofs.Entries.{IsClassEntry}

-- ---- types that are there

none_both : (a b : Bool) → a ≡ false → b ≡ true → or_else (fault_if a NoClass) (fault_if (not b) NotAccessible) ≡ None
none_both true b one two = absurd cc
none_both false true one two = refl
none_both false false one two = absurd cc

either_true : (a b : Bool) → b ≡ true → (a || b) ≡ true
either_true true b e = refl
either_true false b e = e

-- a class may name itself
own_test : (p : Program) (t : FieldType) → type_missing p t ≡ false → type_test p t.class t ≡ None
unfolding type_test class_test may_name
own_test p t e = by (is_class_sign t.base) e
  where
    by : (b : Bool) → (b && is_missing p t.class) ≡ false
        → (if b then or_else (fault_if (is_missing p t.class) NoClass) (fault_if (not (is_public_at p t.class || same_package t.class t.class)) NotAccessible) else None) ≡ None
    by false e = refl
    by true e =
        none_both (is_missing p t.class) (is_public_at p t.class || same_package t.class t.class) e
        (either_true (is_public_at p t.class) (same_package t.class t.class) (name_equal (package_of t.class)))

of_field : (text : List ℕ) → IsSome (field_of text) → (t : FieldType) × (descriptor_of text ≡ Some (descriptors.Field t))
unfolding is_well_formed descriptor_text
of_field text h =
    let t = has_some (field_of text) h in
    let took = field_take text t.0 t.1 in
    (t.0, ap descriptor_of took.1 ∙ descriptor_again (descriptors.Field t.0) took.0)

-- ---- what objects hold

abbrev IsPlain : VType → Type 0
IsPlain t = is_plain t ≡ true

all_filter : {A : Type 0} (P : A → Type 0) (test : A → Bool) (xs : List A) → ((k : ℕ) (x : A) → slice_get xs k ≡ Some x → P x) → AllByRecursion P (filter test xs)
all_filter P test [] h = tt
all_filter P test (x ∷ xs) h = by (all_filter P test xs (λ k y at. h (suc k) y at)) (test x)
  where
    by : AllByRecursion P (filter test xs) → (b : Bool) → AllByRecursion P (if b then x ∷ filter test xs else filter test xs)
    by rest true = (h 0 x refl, rest)
    by rest false = rest

all_flat : {A B : Type 0} (P : B → Type 0) (f : A → List B) (xs : List A) → ((x : A) → AllByRecursion P (f x)) → AllByRecursion P (flat_map f xs)
all_flat P f [] h = tt
all_flat P f (x ∷ xs) h = all_append P (f x) (flat_map f xs) (h x) (all_flat P f xs h)

module _ (p : Program) (links : Links p) (files : AreFiles p) where
  field_plain : (i : ℕ) (part : CodePart) (k : ℕ) (m : MemberInfo) → slice_get p.parts i ≡ Some part → slice_get part.class.fields k ≡ Some m → IsPlain (field_type p part.class m)
  unfolding text_left_out text_missing typed is_well_formed
  field_plain i part k m stand at =
      let d = of_field (member_desc part.class m) (field_desc part.class m (files i part stand) (k, at)) in
      let left : desc_left_out (Some (descriptors.Field d.0)) ≡ false = sym (ap desc_left_out d.1) ∙ field_kept p links i part k m stand at in
      let both = or_parts (is_floating d.0) (is_context d.0) left in
      let missing : type_missing p d.0 ≡ false = sym (ap (desc_missing p) d.1) ∙ field_known p links i part k m stand at in
      let good = (descriptor_take (member_desc part.class m) (descriptors.Field d.0) d.1).0 in
      let y = has_some (type_in p d.0) (type_there p d.0.class d.0 good both.0 (own_test p d.0 missing)) in
      let is : typed_as p (descriptor_of (member_desc part.class m)) ≡ Held y.0 = ap (typed_as p) d.1 ∙ ap held y.1 in
      ap (λ (t : Typed). is_plain (ProofNames.held_type t)) is ∙ named_plain p d.0 y.0 both.1 y.1

  own_plain : (x : List ℕ) → AllByRecursion IsPlain (own_types p (find p x))
  own_plain x = by (stands p x)
    where
      by : Stands p x → AllByRecursion IsPlain (own_types p (find p x))
      by (Users i part at own is) = subst (λ (o : Option Class). AllByRecursion IsPlain (own_types p o)) (sym is)
          (all_of_map IsPlain (field_type p part.class) (filter is_instance part.class.fields)
          (all_filter (λ m. IsPlain (field_type p part.class m)) is_instance part.class.fields (λ k m there. field_plain i part k m at there)))
      by (Libs l named is) = subst (λ (o : Option Class). AllByRecursion IsPlain (own_types p o)) (sym is) tt
      by (Nowhere none) = subst (λ (o : Option Class). AllByRecursion IsPlain (own_types p o)) (sym none) tt

  layout_plain : (x : List ℕ) → AllByRecursion IsPlain (layout p x)
  unfolding layout
  layout_plain x = all_flat IsPlain (λ c. own_types p (find p c)) (reverse (up p x)) own_plain

  pub laid : (c : Class) → IsLaidOut p (ref_of c)
  laid (User i c) = layout_plain (name_at p (refs.User i))
  laid (Lib l) = tt

-- ---- the class of an entry

some_is : {A : Type 0} (a b : A) → Some a ≡ Some b → a ≡ b
some_is a b e = cc

-- the class that is named is there
pub record IsThere (p : Program) (c : Name) : Type 0 where
  pub class : Class
  pub found : find p c.0 ≡ Some class

object_by : (b : Bool) (n c : Name) → (if b then types.Ctx else types.Object n) ≡ types.Object c → n ≡ c
object_by true n c e = absurd cc
object_by false n c e = cc

named_there : (p : Program) (text : List ℕ) (c : Name) → option_map class_of (there p text) ≡ Some (types.Object c) → IsThere p c
named_there p text c e = by (find p text) refl e
  where
    by : (o : Option Class) → find p text ≡ o → option_map class_of (if is_some o then Some (name text) else None) ≡ Some (types.Object c) → IsThere p c
    by None at h = absurd cc
    by (Some x) at h =
        let same : name text ≡ c = object_by (says.is_context (elements.Class (name text))) (name text) c (some_is (class_of (name text)) (types.Object c) h) in
        record { class = x; found = ap (λ (n : Name). find p n.0) (sym same) ∙ at }

array_by : (b c : Bool) (d : ℕ) (x : Element) → b ≡ false → (if b && c then types.Ctx else in_brackets (suc d) x) ≡ types.Array (record { depth = suc d; element = x })
array_by true c d x h = absurd cc
array_by false c d x h = refl

array_of : (d : ℕ) (x : Element) → type_of (suc d) x ≡ types.Array (record { depth = suc d; element = x })
array_of d x = array_by (suc d == 0) (says.is_context x) d x (ne_eqb (suc d) 0 (λ h. omega arith))

array_apart : (p : Program) (t : FieldType) (d : ℕ) (c : Name) → nat_lt 0 d ≡ true → option_map (type_of d) (element_in p t) ≡ Some (types.Object c) → ⊥
array_apart p t zero c deep e = cc
array_apart p t (suc d) c deep e =
    let x = map_is (type_of (suc d)) (element_in p t) (types.Object c) e in
    let is : types.Array (record { depth = suc d; element = x.0 }) ≡ types.Object c = sym (array_of d x.0) ∙ x.2 in
    cc

pub object_there : (p : Program) (text : List ℕ) (c : Name) → class_type p text ≡ Some (types.Object c) → IsThere p c
unfolding class_type type_in
object_there p text c e = by (descriptor_of text) e
  where
    by_depth : (t : FieldType) (b : Bool) → nat_lt 0 t.depth ≡ b → (if b then type_in p t else option_map class_of (there p text)) ≡ Some (types.Object c) → IsThere p c
    by_depth t true deep h = absurd (array_apart p t t.depth c deep h)
    by_depth t false deep h = named_there p text c h

    by : (d : Option Descriptor) → class_by p text d ≡ Some (types.Object c) → IsThere p c
    by None h = named_there p text c h
    by (Some (descriptors.Method params ret)) h = named_there p text c h
    by (Some (descriptors.Field t)) h = by_depth t (nat_lt 0 t.depth) refl h

module _ (p : Program) (c : ClassParts) (n : ℕ) (t : VType) (r : IsClassEntry p c.pool (slice_get c.pool n) t) where
  use_at : units.class_at (judge_pool p c) n ≡ Some (class_use p (this_name c) r.text)
  unfolding judge
  use_at =
      ap class_in (slice_get-map (judge p (this_name c) c.pool) c.pool n) ∙ ap (λ (e : Option Entry). class_in (option_map (judge p (this_name c) c.pool) e)) r.is
      ∙ ap (λ (o : Option (List ℕ)). Some (class_use p (this_name c) (or_empty o))) r.at

  -- a type to which a reference is cast
  pub cast_is : operand_at (judge_pool p c) n ≡ None → (is_ref t ≡ true) × HasDimensions t
  cast_is none =
      let test : operand_test (class_use p (this_name c) r.text) ≡ None = sym (ap (option_and_then operand_test) use_at) ∙ none in
      let reference : is_ref t ≡ true = elim (class_is p (this_name c) r.text test) [
        | inl h ↦ ap is_ref (some_is t (types.Object (name r.text)) (sym r.says ∙ h))
        | inr a ↦ ap is_ref (some_is t (types.Array (record { depth = suc a.depth; element = a.element })) (sym r.says ∙ a.is))
      ] in
      (reference, (class_type_named p r.text t r.says).1)

-- an array of what is named
pub array_is : (t u : VType) → array_over t ≡ Some u → (a : ArrayType) × (u ≡ types.Array a) × HasDimensions (types.Array a)
unfolding array_over
array_is (types.Object c) u e = (record { depth = 1; element = elements.Class c }, cc, λ h. cc)
array_is (types.Array a) u e = by (nat_lt (a.depth + 1) (2 ^ 32)) e
  where
    by : (b : Bool) → (if b then Some (types.Array (record { depth = a.depth + 1; element = a.element })) else None) ≡ Some u
        → (x : ArrayType) × (u ≡ types.Array x) × HasDimensions (types.Array x)
    by true h = (record { depth = a.depth + 1; element = a.element }, cc, λ z. omega (arith, z))
    by false h = absurd cc
array_is types.Top u e = absurd cc
array_is types.Int u e = absurd cc
array_is types.Long u e = absurd cc
array_is types.Null u e = absurd cc
array_is types.UninitThis u e = absurd cc
array_is (types.Uninit o) u e = absurd cc
array_is types.Ctx u e = absurd cc
