-- No static of a program that links holds a security context.
use Rattle.std.proofs.Common.{◌≡◌, ℕ, ◌+◌, ◌^◌, Bool, true, false, ◌&&◌, ◌||◌, not, List, [], ◌∷◌, length, map, take, Option, Some, None, refl, sym, ap, ◌∙◌}
use Rattle.std.specs.Prelude.{is_some, option_map, slice_get, nat_lt, ◌==◌, if◌then◌else◌}
use Rattle.std.specs.List.{AllByRecursion, filter, flat_map}
use Rattle.std.specs.Option.{IsSome}
use Rattle.std.specs.Str.{byte, bytes_eq}
use Rattle.std.proofs.lemmas.Bool.{or_parts}
use Rattle.jground.proofs.JbaseProofs.Firsts.{none_fails, none_of}
use Rattle.jground.proofs.JformatProofs.ReadingSteps.{first_true, second_true}
use Rattle.jparts.specs.declared.jpool.descriptor.Descriptor.{Descriptor}
use Rattle.jparts.specs.declared.jpool.descriptor.FieldType.{FieldType}
use Rattle.jparts.specs.jpool.Descriptors.{descriptor_of, descriptor_text, field, field_of, is_base, is_class_sign, is_type, is_well_formed}
use Rattle.jparts.specs.jpool.ClassNames.{is_class_name}
use Rattle.jparts.proofs.JpoolProofs.DescriptorTexts.{descriptor_again, field_take}
use Rattle.jclass.specs.declared.class.ClassParts.{ClassParts}
use Rattle.jclass.specs.declared.class.MemberInfo.{MemberInfo}
use Rattle.jtypes.specs.declared.vtype.Element.{Element}
use Rattle.jtypes.specs.declared.vtype.Element.TheVariants as elements
use Rattle.jtypes.specs.declared.vtype.Name.{Name}
use Rattle.jtypes.specs.declared.vtype.VType.TheVariants as types
use Rattle.jtypes.specs.DescriptorElements.{element_of, in_brackets}
use Rattle.jresolution.specs.declared.jprogram.fault.LinkKind.TheVariants.{LeftOut, NoClass}
use Rattle.jresolution.specs.declared.jprogram.part.CodePart.{CodePart}
use Rattle.jresolution.specs.jprogram.ProgramClasses.{Program, find}
use Rattle.jresolution.specs.jprogram.ClassFileParts.{member_desc}
use Rattle.jresolution.specs.jprogram.SuperChecks.{is_missing}
use Rattle.jresolution.specs.juses.DescriptorTypes.{element_in, name, there, type_in, type_of, typed, typed_as}
use Rattle.jresolution.specs.juses.DescriptorTypes as says
use Rattle.jresolution.specs.ProofNames
use Rattle.jresolution.specs.jlayout.FieldLayout.{field_type, is_static, statics_of}
use Rattle.jresolution.specs.jlayout.InternedFields.{all_statics}
use Rattle.jlinking.specs.jmembers.MemberDeclarations.{again_test, at_member, desc_left_out, desc_missing, field_left_out, field_left_out_test, field_test, fields_fault, methods_fault, text_left_out, text_missing, type_missing, types_test}
use Rattle.jlinking.specs.ProofNames.{class_fault}
use Rattle.jresolution.specs.jprogram.UnsupportedTypes.{context, is_context, is_floating}
use Rattle.jlinking.specs.jlink.ProgramFiles.{AreFiles}
use Rattle.jlinking.specs.jlink.NamedFields.{is_plain}
use Rattle.jlinking.specs.jlink.LinkedPrograms.{Links}
use Rattle.jlinking.proofs.JlinkProofs.FittingClassFiles.{field_desc}
use Rattle.jlinking.proofs.JlinkProofs.PresentValues.{has_some}
use Rattle.jlinking.proofs.JlinkProofs.ResolvedReferences.{third_none}
use Rattle.jlinking.proofs.JlinkProofs.DescriptorTypes.{no_fault}
use Rattle.jsoundness_laws.specs.typed.TypedUses.{static_types}
use Rattle.jsoundness_laws.proofs.TypedProofs.Dimensions.{all_append}
use Rattle.jsoundness_laws.proofs.ProgressProofs.LinkedMethods.{all_of, class_none, second_none, at_none}
use Rattle.jlinking.proofs.JlinkProofs.FieldResolution.{alone_plain}

-- ---- lists

all_filtered : {A : Type 0} (P : A → Type 0) (test : A → Bool) (xs : List A) → AllByRecursion P xs → AllByRecursion P (filter test xs)
all_filtered P test [] h = tt
all_filtered P test (x ∷ xs) h = by (test x) (all_filtered P test xs h.1)
  where
    by : (b : Bool) → AllByRecursion P (filter test xs) → AllByRecursion P (if b then x ∷ filter test xs else filter test xs)
    by true more = (h.0, more)
    by false more = more

all_mapped : {A B : Type 0} (P : B → Type 0) (f : A → B) (xs : List A) → AllByRecursion (λ x. P (f x)) xs → AllByRecursion P (map f xs)
all_mapped P f [] h = tt
all_mapped P f (x ∷ xs) h = (h.0, all_mapped P f xs h.1)

all_joined : {A B : Type 0} (P : B → Type 0) (f : A → List B) (xs : List A) → AllByRecursion (λ x. AllByRecursion P (f x)) xs → AllByRecursion P (flat_map f xs)
all_joined P f [] h = tt
all_joined P f (x ∷ xs) h = all_append P (f x) (flat_map f xs) h.0 (all_joined P f xs h.1)

-- ---- types

IsClear : Option Element → Type 0
IsClear o = (x : Element) × (o ≡ Some x) × (says.is_context x ≡ false)

abbrev letters : Bool → Bool → Bool → Bool → Bool → Bool → Bool → Name → Option Element
letters z c b s i j l n =
    if z then Some elements.Boolean else (if c then Some elements.Char else (if b then Some elements.Byte else (
    if s then Some elements.Short else (if i then Some elements.Int else (if j then Some elements.Long else (
    if l then Some (elements.Class n) else None))))))

base_by : (z c b s i j d f l : Bool) (n : Name) → (b || c || d || f || i || j || s || z) ≡ true → (f || d) ≡ false → IsClear (letters z c b s i j l n)
unfolding IsClear
base_by true c b s i j d f l n base float = (elements.Boolean, refl, refl)
base_by false true b s i j d f l n base float = (elements.Char, refl, refl)
base_by false false true s i j d f l n base float = (elements.Byte, refl, refl)
base_by false false false true i j d f l n base float = (elements.Short, refl, refl)
base_by false false false false true j d f l n base float = (elements.Int, refl, refl)
base_by false false false false false true d f l n base float = (elements.Long, refl, refl)
base_by false false false false false false false false l n base float = absurd (cc)
base_by false false false false false false true false l n base float = absurd (cc)
base_by false false false false false false false true l n base float = absurd (cc)
base_by false false false false false false true true l n base float = absurd (cc)

base_clear : (b : ℕ) (n : Name) → is_base b ≡ true → (b == byte "F" || b == byte "D") ≡ false → IsClear (element_of b n)
base_clear b n base float =
    base_by (b == byte "Z") (b == byte "C") (b == byte "B") (b == byte "S") (b == byte "I") (b == byte "J") (b == byte "D") (b == byte "F") (b == byte "L") n base float

class_clear : (p : Program) (c : List ℕ) (found : Bool) → not found ≡ false → bytes_eq c context ≡ false
    → IsClear (option_map elements.Class (if found then Some (name c) else None))
unfolding IsClear
class_clear p c true there clear = (elements.Class (name c), refl, clear)
class_clear p c false there clear = absurd (cc)

element_by : (p : Program) (t : FieldType) (sign : Bool) → (if sign then is_class_name t.class else is_base t.base && length t.class == 0) ≡ true → is_floating t ≡ false
    → is_context t ≡ false
    → sign && is_missing p t.class ≡ false → IsClear (if sign then option_map elements.Class (there p t.class) else element_of t.base (name t.class))
element_by p t true good float clear there = class_clear p t.class (is_some (find p t.class)) there clear
element_by p t false good float clear there = base_clear t.base (name t.class) (first_true (is_base t.base) (length t.class == 0) good) float

element_clear : (p : Program) (t : FieldType) → is_type t ≡ true → is_floating t ≡ false → is_context t ≡ false → type_missing p t ≡ false → IsClear (element_in p t)
element_clear p t good float clear there =
    element_by p t (is_class_sign t.base) (second_true (nat_lt t.depth (2 ^ 32)) (if is_class_sign t.base then is_class_name t.class else is_base t.base && length t.class == 0) good) float clear there

type_plain : (depth : ℕ) (x : Element) → says.is_context x ≡ false → is_plain (type_of depth x) ≡ true
type_plain depth x clear = by (depth == 0) (says.is_context x) clear
  where
    by : (b c : Bool) → c ≡ false → is_plain (if b && c then types.Ctx else in_brackets depth x) ≡ true
    by true true e = absurd (cc)
    by true false e = alone_plain depth x
    by false c e = alone_plain depth x

said_plain : (p : Program) (t : FieldType) → IsClear (element_in p t) → is_plain (ProofNames.held_type (typed_as p (Some (field t)))) ≡ true
unfolding IsClear type_in
said_plain p t x = ap (λ (o : Option Element). is_plain (ProofNames.held_type (ProofNames.held (option_map (type_of t.depth) o)))) x.1 ∙ type_plain t.depth x.0 x.2

-- ---- fields

of_field : (text : List ℕ) → IsSome (field_of text) → (t : FieldType) × (is_type t ≡ true) × (descriptor_of text ≡ Some (field t))
unfolding is_well_formed descriptor_text
of_field text h =
    let t = has_some (field_of text) h in
    let took = field_take text t.0 t.1 in
    (t.0, took.0, ap descriptor_of took.1 ∙ descriptor_again (field t.0) took.0)

-- a field is tested
tested : (p : Program) (i : ℕ) (c : ClassParts) (k : ℕ) (m : MemberInfo) → class_fault p i c ≡ None → slice_get c.fields k ≡ Some m → field_test p c (take k c.fields) m ≡ None
unfolding fields_fault
tested p i c k m none at =
    at_none i (length c.methods + k) (field_test p c (take k c.fields) m)
    (none_fails (λ (k : ℕ) (m : MemberInfo). at_member i (length c.methods + k) (field_test p c (take k c.fields) m)) c.fields k m (none_of (methods_fault p i c) (fields_fault p i c) none).1 at)

desc_plain : (p : Program) (desc : List ℕ) → IsSome (field_of desc) → text_left_out desc ≡ false → text_missing p desc ≡ false → is_plain (ProofNames.held_type (typed p desc)) ≡ true
unfolding typed text_left_out text_missing
desc_plain p desc is left there =
    let d = of_field desc is in
    let out : is_floating d.0 || is_context d.0 ≡ false = sym (ap desc_left_out d.2) ∙ left in
    let both = or_parts (is_floating d.0) (is_context d.0) out in
    let found : type_missing p d.0 ≡ false = sym (ap (desc_missing p) d.2) ∙ there in
    ap (λ (o : Option Descriptor). is_plain (ProofNames.held_type (typed_as p o))) d.2 ∙ said_plain p d.0 (element_clear p d.0 d.1 both.0 both.1 found)

module _ (p : Program) (links : Links p) (files : AreFiles p) where
  field_plain : (i : ℕ) (part : CodePart) → slice_get p.parts i ≡ Some part → (k : ℕ) (m : MemberInfo) → slice_get part.class.fields k ≡ Some m
      → is_plain (field_type p part.class m) ≡ true
  unfolding field_left_out_test types_test
  field_plain i part at k m declared =
      let c = part.class in
      let tests = tested p i c k m (class_none p i part links at) declared in
      let left = second_none (again_test c (take k c.fields) m) (field_left_out_test c m) (types_test p c m) tests in
      let types_ = third_none (again_test c (take k c.fields) m) (field_left_out_test c m) (types_test p c m) tests in
      desc_plain p (member_desc c m) (field_desc c m (files i part at) (k, declared))
      (or_parts (field_left_out c m) (text_left_out (member_desc c m)) (no_fault (field_left_out c m || text_left_out (member_desc c m)) LeftOut left)).1
      (no_fault (text_missing p (member_desc c m)) NoClass types_)

  abbrev IsPlainStatic : CodePart × MemberInfo → Type 0
  IsPlainStatic x = is_plain (field_type p x.0.class x.1) ≡ true

  part_plain : (i : ℕ) (part : CodePart) → slice_get p.parts i ≡ Some part → AllByRecursion IsPlainStatic (map (λ (m : MemberInfo). (part, m)) (statics_of part))
  part_plain i part at =
      all_mapped IsPlainStatic (λ (m : MemberInfo). (part, m)) (statics_of part)
      (all_filtered (λ m. IsPlainStatic (part, m)) is_static part.class.fields (all_of (λ m. IsPlainStatic (part, m)) part.class.fields (field_plain i part at)))

  pub statics_plain : AllByRecursion (λ t. is_plain t ≡ true) (static_types p)
  statics_plain =
      all_mapped (λ t. is_plain t ≡ true) (λ (x : CodePart × MemberInfo). field_type p x.0.class x.1) (all_statics p)
      (all_joined IsPlainStatic (λ (part : CodePart). map (λ (m : MemberInfo). (part, m)) (statics_of part)) p.parts
      (all_of (λ part. AllByRecursion IsPlainStatic (map (λ (m : MemberInfo). (part, m)) (statics_of part))) p.parts part_plain))
