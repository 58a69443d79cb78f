-- The types that descriptors and class entries say are there, where their classes may be named and no float or double stands in them.
use Rattle.std.proofs.Common.{◌≡◌, ℕ, zero, suc, ◌+◌, ◌<◌, ◌≤◌, ◌^◌, ◌⊎◌, Bool, true, false, ◌&&◌, ◌||◌, not, List, [], ◌∷◌, length, replicate, reverse, Option, Some, None, refl, sym, ap, ◌∙◌, arith, inl, inr}
use Rattle.std.specs.Prelude.{codes, is_some, option_map, nat_lt, ◌==◌, if◌then◌else◌}
use Rattle.std.specs.List.{AllByRecursion, list_all, list_any}
use Rattle.std.specs.Option.{IsSome}
use Rattle.std.specs.Str.{byte, bytes_eq}
use Rattle.std.proofs.lemmas.Bool.{lt-ltb, ne_eqb, or_parts}
use Rattle.std.proofs.lemmas.List.{length-append, length-replicate}
use Rattle.jground.specs.jbase.ListMaps.{each_some}
use Rattle.jground.specs.jbase.FirstFaults.{fault_if, first_some}
use Rattle.jground.proofs.JbaseProofs.Firsts.{none_of}
use Rattle.jground.proofs.JformatProofs.ReadingSteps.{first_true, second_true}
use Rattle.jparts.specs.declared.jpool.descriptor.Descriptor.{Descriptor}
use Rattle.jparts.specs.declared.jpool.descriptor.Descriptor.TheVariants as descriptors
use Rattle.jparts.specs.declared.jpool.descriptor.FieldType.{FieldType}
use Rattle.jparts.specs.jpool.Descriptors.{class_text, descriptor_of, descriptor_text, is_base, is_class_sign, is_return, is_type, is_well_formed, type_text}
use Rattle.jparts.specs.jpool.ClassNames.{is_class_name}
use Rattle.jparts.proofs.JpoolProofs.DescriptorTexts.{descriptor_take}
use Rattle.jtypes.specs.declared.vtype.Element.{Element}
use Rattle.jtypes.specs.declared.vtype.Element.TheVariants as elements
use Rattle.jtypes.specs.declared.vtype.Name.{Name}
use Rattle.jtypes.specs.declared.vtype.VType.{VType}
use Rattle.jtypes.specs.declared.vtype.VType.TheVariants as types
use Rattle.jtypes.specs.DescriptorElements.{element_of, in_brackets}
use Rattle.jresolution.specs.declared.jprogram.fault.LinkKind.{LinkKind}
use Rattle.jresolution.specs.declared.jprogram.fault.LinkKind.TheVariants.{LeftOut, NoClass, NotAccessible}
use Rattle.jresolution.specs.jprogram.ProgramClasses.{Program, find}
use Rattle.jresolution.specs.jprogram.MemberResolution.{may_name}
use Rattle.jresolution.specs.jprogram.SuperChecks.{is_missing}
use Rattle.jresolution.specs.juses.DescriptorTypes.{Called, Held, Typed, array_over, called, class_by, class_of, class_type, element_in, name, return_in, there, type_in, type_of, typed, typed_as}
use Rattle.jresolution.specs.ProofNames.{held}
use Rattle.jresolution.specs.juses.DescriptorTypes as says
use Rattle.jlinking.specs.jreferring.ClassNameAccess as names
use Rattle.jlinking.specs.jreferring.ClassNameAccess.{array_or, class_test, desc_test, is_array, return_test, type_named, type_test}
use Rattle.jlinking.specs.jreferring.ClassEntryUses.{class_use, is_barred_array, is_barred_operand, operand_test, type_use}
use Rattle.jresolution.specs.jprogram.UnsupportedTypes.{is_context, is_floating}
use Rattle.jlinking.specs.jlink.SoundDescriptors.{IsFieldText, IsMethodText, gives_float, is_sound_field, is_sound_method}
use Rattle.jlinking.proofs.JlinkProofs.PresentValues.{each_has, has_some, map_has}

-- ---- tests

pub no_fault : (b : Bool) (kind : LinkKind) → fault_if b kind ≡ None → b ≡ false
no_fault true kind e = absurd cc
no_fault false kind e = refl

pub not_true : (b : Bool) → not b ≡ true → b ≡ false
not_true true e = absurd cc
not_true false e = refl

-- ---- classes

there_when : (b : Bool) (n : Name) → fault_if (not b) NoClass ≡ None → (if b then Some n else None) ≡ Some n
there_when true n e = refl
there_when false n e = absurd cc

-- a class that may be named is there
class_there : (p : Program) (from text : List ℕ) → class_test p from text ≡ None → there p text ≡ Some (name text)
unfolding class_test
class_there p from text e = there_when (is_some (find p text)) (name text) ((none_of (fault_if (is_missing p text) NoClass) (fault_if (not (may_name p from text)) NotAccessible) e).0)

-- ---- types

abbrev letters : Bool → Bool → Bool → Bool → Bool → Bool → Bool → Name → Option Element
letters z c b s i j l n =
    if z then Some elements.Boolean else (if c then Some elements.Char else (if b then Some elements.Byte else (
    if s then Some elements.Short else (if i then Some elements.Int else (if j then Some elements.Long else (
    if l then Some (elements.Class n) else None))))))

base_by : (z c b s i j d f l : Bool) (n : Name) → (b || c || d || f || i || j || s || z) ≡ true → (f || d) ≡ false → IsSome (letters z c b s i j l n)
base_by true c b s i j d f l n base float = refl
base_by false true b s i j d f l n base float = refl
base_by false false true s i j d f l n base float = refl
base_by false false false true i j d f l n base float = refl
base_by false false false false true j d f l n base float = refl
base_by false false false false false true d f l n base float = refl
base_by false false false false false false false false l n base float = absurd cc
base_by false false false false false false true false l n base float = absurd cc
base_by false false false false false false false true l n base float = absurd cc
base_by false false false false false false true true l n base float = absurd cc

base_there : (b : ℕ) (n : Name) → is_base b ≡ true → (b == byte "F" || b == byte "D") ≡ false → IsSome (element_of b n)
base_there b n base float = base_by (b == byte "Z") (b == byte "C") (b == byte "B") (b == byte "S") (b == byte "I") (b == byte "J") (b == byte "D") (b == byte "F") (b == byte "L") n base float

element_by : (p : Program) (from : List ℕ) (t : FieldType) (sign : Bool) → (if sign then is_class_name t.class else is_base t.base && length t.class == 0) ≡ true → is_floating t ≡ false
    → (if sign then class_test p from t.class else None) ≡ None → IsSome (if sign then option_map elements.Class (there p t.class) else element_of t.base (name t.class))
element_by p from t true good float e = rw (class_there p from t.class e) refl
element_by p from t false good float e = base_there t.base (name t.class) (first_true (is_base t.base) (length t.class == 0) good) float

element_there : (p : Program) (from : List ℕ) (t : FieldType) → is_type t ≡ true → is_floating t ≡ false → type_test p from t ≡ None → IsSome (element_in p t)
unfolding type_test
element_there p from t good float e =
    element_by p from t (is_class_sign t.base) (second_true (nat_lt t.depth (2 ^ 32)) (if is_class_sign t.base then is_class_name t.class else is_base t.base && length t.class == 0) good) float e

pub type_there : (p : Program) (from : List ℕ) (t : FieldType) → is_type t ≡ true → is_floating t ≡ false → type_test p from t ≡ None → IsSome (type_in p t)
unfolding type_in
type_there p from t good float e = map_has (type_of t.depth) (element_in p t) (element_there p from t good float e)

-- ---- descriptors

params_there : (p : Program) (from : List ℕ) (ts : List FieldType) → list_all is_type ts ≡ true → list_any is_floating ts ≡ false → first_some (type_test p from) ts ≡ None → AllByRecursion (λ t. IsSome (type_in p t)) ts
unfolding first_some
params_there p from [] good float e = tt
params_there p from (t ∷ ts) good float e =
    let f = or_parts (is_floating t) (list_any is_floating ts) float in
    let n = none_of (type_test p from t) (first_some (type_test p from) ts) e in
    let one : IsSome (type_in p t) = type_there p from t (first_true (is_type t) (list_all is_type ts) good) f.0 n.0 in
    (one, params_there p from ts (second_true (is_type t) (list_all is_type ts) good) f.1 n.1)

return_there : (p : Program) (from : List ℕ) (ret : Option FieldType) → is_return ret ≡ true → gives_float ret ≡ false → return_test p from ret ≡ None → IsSome (return_in p ret)
return_there p from None good float e = refl
return_there p from (Some t) good float e = map_has Some (type_in p t) (type_there p from t good float e)

abbrev IsHeld : Typed → Type 0
IsHeld x = (t : VType) × (x ≡ Held t)

abbrev IsCalled : Typed → Type 0
IsCalled x = (params : List VType) × (ret : Option VType) × (x ≡ Called params ret)

held_is : (o : Option VType) → IsSome o → IsHeld (held o)
held_is None h = absurd cc
held_is (Some t) h = (t, refl)

called_is : (params : Option (List VType)) (ret : Option (Option VType)) → IsSome params → IsSome ret → IsCalled (called params ret)
called_is None ret one two = absurd cc
called_is (Some params) None one two = absurd cc
called_is (Some params) (Some ret) one two = (reverse params, ret, refl)

field_held : (p : Program) (from text : List ℕ) (d : Option Descriptor) → descriptor_of text ≡ d → is_sound_field d ≡ true → desc_test p from d ≡ None → IsHeld (typed_as p d)
unfolding is_well_formed
field_held p from text None is sound e = absurd cc
field_held p from text (Some (descriptors.Method params ret)) is sound e = absurd cc
field_held p from text (Some (descriptors.Field t)) is sound e =
    held_is (type_in p t) (type_there p from t ((descriptor_take text (descriptors.Field t) is).0) (not_true (is_floating t) sound) e)

-- what the descriptor of a field says
pub field_says : (p : Program) (from desc : List ℕ) → IsFieldText desc → desc_test p from (descriptor_of desc) ≡ None → (t : VType) × (typed p desc ≡ Held t)
unfolding typed
field_says p from desc sound e = field_held p from desc (descriptor_of desc) refl sound e

method_called : (p : Program) (from text : List ℕ) (d : Option Descriptor) → descriptor_of text ≡ d → is_sound_method d ≡ true → desc_test p from d ≡ None → IsCalled (typed_as p d)
unfolding is_well_formed
method_called p from text None is sound e = absurd cc
method_called p from text (Some (descriptors.Field t)) is sound e = absurd cc
method_called p from text (Some (descriptors.Method params ret)) is sound e =
    let good = first_true (list_all is_type params && is_return ret) _ ((descriptor_take text (descriptors.Method params ret) is).0) in
    let float = or_parts (list_any is_floating params) (gives_float ret) (not_true (list_any is_floating params || gives_float ret) sound) in
    let named = none_of (first_some (type_test p from) params) (return_test p from ret) e in
    called_is (each_some (type_in p) params) (return_in p ret)
    (each_has (type_in p) params (params_there p from params (first_true (list_all is_type params) (is_return ret) good) float.0 named.0))
    (return_there p from ret (second_true (list_all is_type params) (is_return ret) good) float.1 named.1)

-- what the descriptor of a method says
pub method_says : (p : Program) (from desc : List ℕ) → IsMethodText desc → desc_test p from (descriptor_of desc) ≡ None → (params : List VType) × (ret : Option VType) × (typed p desc ≡ Called params ret)
unfolding typed
method_says p from desc sound e = method_called p from desc (descriptor_of desc) refl sound e

-- ---- class entries

-- the type of a class entry's text is an array's
pub record IsArrayText (p : Program) (text : List ℕ) : Type 0 where
  pub depth : ℕ
  pub element : Element
  pub is : class_type p text ≡ Some (types.Array (record { depth = suc depth; element = element }))
  pub short : suc depth ≤ length text
  pub array : is_array (type_named text) ≡ true

record IsArrayBy (p : Program) (text : List ℕ) (d : Option Descriptor) : Type 0 where
  depth : ℕ
  element : Element
  is : class_by p text d ≡ Some (types.Array (record { depth = suc depth; element = element }))
  short : suc depth ≤ length text
  array : is_array (array_or text d) ≡ true

not_context : (n : Name) (b : Bool) → b ≡ false → (if 0 == 0 && b then types.Ctx else in_brackets 0 (elements.Class n)) ≡ types.Object n
not_context n true e = absurd cc
not_context n false e = refl

object_is : (p : Program) (from text : List ℕ) → operand_test (type_use p from (names.class_type text)) ≡ None → option_map class_of (there p text) ≡ Some (types.Object (name text))
unfolding type_test is_barred_operand
object_is p from text e =
    let n = none_of (type_test p from (names.class_type text)) (fault_if (is_barred_operand (names.class_type text)) LeftOut) e in
    let barred = no_fault (is_barred_operand (names.class_type text)) LeftOut n.1 in
    let context = (or_parts (is_context (names.class_type text)) (is_barred_array (names.class_type text)) barred).0 in
    let found : there p text ≡ Some (name text) = class_there p from text n.0 in
    ap (option_map class_of) found ∙ ap Some (not_context (name text) (bytes_eq text (codes "sps/Ctx")) context)

depth_short : (text : List ℕ) (t : FieldType) → text ≡ type_text t → t.depth ≤ length text
depth_short text t is =
    let len : length text ≡ t.depth + suc (length (class_text t.base t.class)) = ap length is ∙ length-append (replicate t.depth (byte "[")) (t.base ∷ class_text t.base t.class) ∙ ap (λ (n : ℕ). n + suc (length (class_text t.base t.class))) (length-replicate t.depth (byte "[")) in
    omega (arith, len)

array_by : (b c : Bool) (e : ℕ) (x : Element) → b ≡ false → (if b && c then types.Ctx else in_brackets (suc e) x) ≡ types.Array (record { depth = suc e; element = x })
array_by true c e x h = absurd cc
array_by false c e x h = refl

array_of : (e : ℕ) (x : Element) → type_of (suc e) x ≡ types.Array (record { depth = suc e; element = x })
array_of e x = array_by (suc e == 0) (says.is_context x) e x (ne_eqb (suc e) 0 (λ h. omega arith))

array_at : (p : Program) (text : List ℕ) (t : FieldType) (d : ℕ) → t.depth ≡ d → nat_lt 0 d ≡ true → d ≤ length text → IsSome (element_in p t) → (e : ℕ) × (x : Element) × (type_in p t ≡ Some (types.Array (record { depth = suc e; element = x }))) × (suc e ≤ length text)
unfolding type_in
array_at p text t zero at deep short has = absurd cc
array_at p text t (suc e) at deep short has =
    let x = has_some (element_in p t) has in
    (e, x.0, ap (λ (n : ℕ). option_map (type_of n) (element_in p t)) at ∙ ap (option_map (type_of (suc e))) x.1 ∙ ap Some (array_of e x.0), short)

array_is : (p : Program) (from text : List ℕ) (t : FieldType) → descriptor_of text ≡ Some (descriptors.Field t) → is_array t ≡ true → operand_test (type_use p from t) ≡ None → IsArrayBy p text (Some (descriptors.Field t))
unfolding is_barred_operand is_barred_array is_well_formed descriptor_text
array_is p from text t is array e =
    let n = none_of (type_test p from t) (fault_if (is_barred_operand t) LeftOut) e in
    let barred = no_fault (is_barred_operand t) LeftOut n.1 in
    let inside : (is_array t && (is_context t || is_floating t)) ≡ false = (or_parts (is_context t) (is_barred_array t) barred).1 in
    let neither : (is_context t || is_floating t) ≡ false = ap (λ (b : Bool). b && (is_context t || is_floating t)) (sym array) ∙ inside in
    let float = (or_parts (is_context t) (is_floating t) neither).1 in
    let took = descriptor_take text (descriptors.Field t) is in
    let a = array_at p text t t.depth refl array (depth_short text t took.1) (element_there p from t took.0 float n.0) in
    record {
      depth = a.0;
      element = a.1;
      is = ap (λ (b : Bool). if b then type_in p t else option_map class_of (there p text)) array ∙ a.2;
      short = a.3;
      array = ap (λ (b : Bool). is_array (if b then t else names.class_type text)) array ∙ array;
    }

abbrev IsEither : Program → List ℕ → Option Descriptor → Type 0
IsEither p text d = (class_by p text d ≡ Some (types.Object (name text))) ⊎ IsArrayBy p text d

field_when : (p : Program) (from text : List ℕ) (t : FieldType) (b : Bool) → is_array t ≡ b → descriptor_of text ≡ Some (descriptors.Field t) → operand_test (type_use p from (if b then t else names.class_type text)) ≡ None
    → ((if b then type_in p t else option_map class_of (there p text)) ≡ Some (types.Object (name text))) ⊎ IsArrayBy p text (Some (descriptors.Field t))
field_when p from text t true array is e = inr (array_is p from text t is array e)
field_when p from text t false array is e = inl (object_is p from text e)

class_when : (p : Program) (from text : List ℕ) (d : Option Descriptor) → descriptor_of text ≡ d → operand_test (type_use p from (array_or text d)) ≡ None → IsEither p text d
class_when p from text None is e = inl (object_is p from text e)
class_when p from text (Some (descriptors.Method params ret)) is e = inl (object_is p from text e)
class_when p from text (Some (descriptors.Field t)) is e = field_when p from text t (is_array t) refl is e

as_text : (p : Program) (text : List ℕ) → IsEither p text (descriptor_of text) → (class_type p text ≡ Some (types.Object (name text))) ⊎ IsArrayText p text
unfolding class_type type_named
as_text p text (inl h) = inl h
as_text p text (inr a) = inr (record { depth = a.depth; element = a.element; is = a.is; short = a.short; array = a.array })

-- the type of a class entry's text, where an instruction may name it
pub class_is : (p : Program) (from text : List ℕ) → operand_test (class_use p from text) ≡ None → (class_type p text ≡ Some (types.Object (name text))) ⊎ IsArrayText p text
unfolding type_named
class_is p from text e = as_text p text (class_when p from text (descriptor_of text) refl e)

-- one dimension more can be counted
pub over_array : (d : ℕ) (x : Element) → suc d ≤ 65535 → IsSome (array_over (types.Array (record { depth = suc d; element = x })))
unfolding array_over
over_array d x short =
    let few : suc d + 1 < 2 ^ 32 = omega (arith, short) in
    let within : nat_lt (suc d + 1) (2 ^ 32) ≡ true = lt-ltb (suc d + 1) (2 ^ 32) few in
    rw within refl

pub over_object : (n : Name) → IsSome (array_over (types.Object n))
unfolding array_over
over_object n = refl
