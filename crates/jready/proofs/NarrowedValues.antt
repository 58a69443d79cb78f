-- What is left of values in fields, by their descriptors.
use Rattle.std.proofs.Common.{◌≡◌, ℕ, Bool, true, false, List, [], ◌∷◌, Option, Some, None, refl, sym, ap, subst, ◌∙◌, arith, inl, inr}
use Rattle.std.specs.Prelude.{◌==◌, codes, if◌then◌else◌}
use Rattle.std.specs.Str.{byte, bytes_eq}
use Rattle.std.proofs.lemmas.Bool.{cases_Bool}
use Rattle.std.proofs.lemmas.Slice.Eq.{bytes_eq-Decides}
use Rattle.jparts.specs.declared.jpool.descriptor.Descriptor.{Descriptor}
use Rattle.jparts.specs.declared.jpool.descriptor.Descriptor.TheVariants as descriptors
use Rattle.jparts.specs.declared.jpool.descriptor.FieldType.{FieldType}
use Rattle.jparts.specs.jpool.Descriptors.{descriptor_of, descriptor_text, is_well_formed, type_text}
use Rattle.jparts.proofs.JpoolProofs.DescriptorTexts.{descriptor_again, descriptor_take}
use Rattle.jtypes.specs.declared.vtype.Element.{Element}
use Rattle.jtypes.specs.declared.vtype.Element.TheVariants as elements
use Rattle.jtypes.specs.declared.vtype.Name.{Name}
use Rattle.jtypes.specs.DescriptorElements.{element_of}
use Rattle.jvalues.specs.declared.jops.value.Value.{Value}
use Rattle.jvalues.specs.declared.jops.value.Value.TheVariants.{Int, Long, Ref, Ctx}
use Rattle.jresolution.specs.juses.DescriptorTypes.{name}
use Rattle.jresolution.specs.jlayout.FieldLayout.{element}
use Rattle.jresolution.specs.ProofNames.{element_in}
use Rattle.jsemantics.specs.jmachine.Narrowing.{narrowed}

-- ---- names for what definitions say in place

abbrev element_by : FieldType → Option Element
element_by t = if t.depth == 0 then element_of t.base (name t.class) else None

none_keeps : {K : Type 0} (v : Value K) → narrowed None v ≡ v
none_keeps (Int x) = refl
none_keeps (Long x) = refl
none_keeps (Ref n) = refl
none_keeps (Ctx k) = refl

int_keeps : {K : Type 0} (v : Value K) → narrowed (Some elements.Int) v ≡ v
int_keeps (Int x) = refl
int_keeps (Long x) = refl
int_keeps (Ref n) = refl
int_keeps (Ctx k) = refl

long_keeps : {K : Type 0} (v : Value K) → narrowed (Some elements.Long) v ≡ v
long_keeps (Int x) = refl
long_keeps (Long x) = refl
long_keeps (Ref n) = refl
long_keeps (Ctx k) = refl

class_keeps : {K : Type 0} (c : Name) (v : Value K) → narrowed (Some (elements.Class c)) v ≡ v
class_keeps c (Int x) = refl
class_keeps c (Long x) = refl
class_keeps c (Ref n) = refl
class_keeps c (Ctx k) = refl

others : {K : Type 0} (i j l : Bool) (c : Name) (v : Value K)
    → narrowed (if i then Some elements.Int else (if j then Some elements.Long else (if l then Some (elements.Class c) else None))) v ≡ v
others true j l c v = int_keeps v
others false true l c v = long_keeps v
others false false true c v = class_keeps c v
others false false false c v = none_keeps v

-- no letter of a narrow type
letter_keeps : {K : Type 0} (base : ℕ) (c : Name) → (base == byte "Z") ≡ false → (base == byte "C") ≡ false → (base == byte "B") ≡ false
    → (base == byte "S") ≡ false → (v : Value K) → narrowed (element_of base c) v ≡ v
letter_keeps base c z ch b s v = rw (z, ch, b, s) (others (base == byte "I") (base == byte "J") (base == byte "L") c v)

-- ---- by descriptors

letter_differs : (base x : ℕ) (desc : List ℕ) → desc ≡ base ∷ [] → bytes_eq desc (x ∷ []) ≡ false → (base == x) ≡ false
letter_differs base x desc is other = elim (cases_Bool (base == x)) [
  | inl hit ↦
      let same : base ≡ x = grind arith in
      let equal : bytes_eq desc (x ∷ []) ≡ true = (bytes_eq-Decides desc (x ∷ [])).1 (is ∙ ap (λ (n : ℕ). n ∷ []) same) in
      absurd cc (sym other ∙ equal)
  | inr miss ↦ miss
]

alone : (t : FieldType) → (t.depth == 0) ≡ true → (t.base == byte "L") ≡ false → type_text t ≡ t.base ∷ []
alone t none other =
    let here : t.depth ≡ 0 = grind arith in
    rw (here, other) refl

class_is : {K : Type 0} (base : ℕ) (c : Name) → base ≡ byte "L" → (v : Value K) → narrowed (element_of base c) v ≡ v
class_is {K} base c is v = subst (λ (n : ℕ). narrowed (element_of n c) v ≡ v) (sym is) (class_keeps c v)

type_keeps : {K : Type 0} (t : FieldType) (desc : List ℕ) → desc ≡ type_text t → bytes_eq desc (codes "Z") ≡ false → bytes_eq desc (codes "C") ≡ false
    → bytes_eq desc (codes "B") ≡ false → bytes_eq desc (codes "S") ≡ false
    → (v : Value K) → narrowed (element_by t) v ≡ v
type_keeps t desc is z c b s v = elim (cases_Bool (t.depth == 0)) [
  | inl none ↦ elim (cases_Bool (t.base == byte "L")) [
    | inl class ↦
        let same : t.base ≡ byte "L" = grind arith in
        rw none (class_is t.base (name t.class) same v)
    | inr other ↦
        let one : desc ≡ t.base ∷ [] = is ∙ alone t none other in
        rw none (letter_keeps t.base (name t.class) (letter_differs t.base (byte "Z") desc one z) (letter_differs t.base (byte "C") desc one c)
        (letter_differs t.base (byte "B") desc one b) (letter_differs t.base (byte "S") desc one s) v)
  ]
  | inr more ↦ rw more (none_keeps v)
]

field_text : (desc : List ℕ) (t : FieldType) → descriptor_of desc ≡ Some (descriptors.Field t) → desc ≡ type_text t
unfolding descriptor_text
field_text desc t is = (descriptor_take desc (descriptors.Field t) is).1

desc_keeps : {K : Type 0} (desc : List ℕ) (o : Option Descriptor) → descriptor_of desc ≡ o → bytes_eq desc (codes "Z") ≡ false
    → bytes_eq desc (codes "C") ≡ false → bytes_eq desc (codes "B") ≡ false → bytes_eq desc (codes "S") ≡ false
    → (v : Value K) → narrowed (element_in o) v ≡ v
desc_keeps desc None is z c b s v = none_keeps v
desc_keeps desc (Some (descriptors.Method params ret)) is z c b s v = none_keeps v
desc_keeps desc (Some (descriptors.Field t)) is z c b s v = type_keeps t desc (field_text desc t is) z c b s v

-- all of a value is left in a field of any other descriptor
pub whole : {K : Type 0} (desc : List ℕ) → bytes_eq desc (codes "Z") ≡ false → bytes_eq desc (codes "C") ≡ false → bytes_eq desc (codes "B") ≡ false
    → bytes_eq desc (codes "S") ≡ false → (v : Value K) → narrowed (element desc) v ≡ v
unfolding element
whole desc z c b s v = desc_keeps desc (descriptor_of desc) refl z c b s v

-- ---- of the narrow types

abbrev letter : ℕ → FieldType
letter b = record { depth = 0; base = b; class = [] }

boolean_text : descriptor_of (codes "Z") ≡ Some (descriptors.Field (letter (byte "Z")))
unfolding descriptor_text is_well_formed
boolean_text = descriptor_again (descriptors.Field (letter (byte "Z"))) refl

byte_text : descriptor_of (codes "B") ≡ Some (descriptors.Field (letter (byte "B")))
unfolding descriptor_text is_well_formed
byte_text = descriptor_again (descriptors.Field (letter (byte "B"))) refl

char_text : descriptor_of (codes "C") ≡ Some (descriptors.Field (letter (byte "C")))
unfolding descriptor_text is_well_formed
char_text = descriptor_again (descriptors.Field (letter (byte "C"))) refl

short_text : descriptor_of (codes "S") ≡ Some (descriptors.Field (letter (byte "S")))
unfolding descriptor_text is_well_formed
short_text = descriptor_again (descriptors.Field (letter (byte "S"))) refl

boolean_holds : element (codes "Z") ≡ Some elements.Boolean
unfolding element
boolean_holds = ap element_in boolean_text

byte_holds : element (codes "B") ≡ Some elements.Byte
unfolding element
byte_holds = ap element_in byte_text

char_holds : element (codes "C") ≡ Some elements.Char
unfolding element
char_holds = ap element_in char_text

short_holds : element (codes "S") ≡ Some elements.Short
unfolding element
short_holds = ap element_in short_text

holds_by : (desc text : List ℕ) (e : Option Element) (v : Value ℕ) → element text ≡ e → bytes_eq desc text ≡ true → narrowed (element desc) v ≡ narrowed e v
holds_by desc text e v is same = ap (λ (d : List ℕ). narrowed (element d) v) ((bytes_eq-Decides desc text).0 same)
    ∙ ap (λ (e : Option Element). narrowed e v) is

pub boolean_left : (desc : List ℕ) → bytes_eq desc (codes "Z") ≡ true → (v : Value ℕ) → narrowed (element desc) v ≡ narrowed (Some elements.Boolean) v
boolean_left desc same v = holds_by desc (codes "Z") (Some elements.Boolean) v boolean_holds same

pub byte_left : (desc : List ℕ) → bytes_eq desc (codes "B") ≡ true → (v : Value ℕ) → narrowed (element desc) v ≡ narrowed (Some elements.Byte) v
byte_left desc same v = holds_by desc (codes "B") (Some elements.Byte) v byte_holds same

pub char_left : (desc : List ℕ) → bytes_eq desc (codes "C") ≡ true → (v : Value ℕ) → narrowed (element desc) v ≡ narrowed (Some elements.Char) v
char_left desc same v = holds_by desc (codes "C") (Some elements.Char) v char_holds same

pub short_left : (desc : List ℕ) → bytes_eq desc (codes "S") ≡ true → (v : Value ℕ) → narrowed (element desc) v ≡ narrowed (Some elements.Short) v
short_left desc same v = holds_by desc (codes "S") (Some elements.Short) v short_holds same
