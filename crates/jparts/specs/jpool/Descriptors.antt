-- Field and method descriptors (JVMS 4.3.2, 4.3.3): how they are written, and how a text is read as one.
use Rattle.std.specs.Prelude.{◌≡◌, ℕ, zero, suc, ◌+◌, ◌^◌, Bool, true, false, ◌&&◌, ◌||◌, List, [], ◌∷◌, ◌++◌, length, take, drop, replicate, Option, Some, None, Result, Ok, Err, is_some, option_map, option_and_then, nat_lt, nat_le, ◌==◌, if◌then◌else◌}
use Rattle.std.specs.List.{list_all, flat_map, position, prefix_len}
use Rattle.std.specs.Str.{byte}
use Rattle.jparts.specs.declared.jpool.descriptor.FieldType.{FieldType}
use Rattle.jparts.specs.declared.jpool.descriptor.Descriptor.{Descriptor}
use Rattle.jparts.specs.declared.jpool.descriptor.Descriptor.TheVariants as descriptors
use Rattle.jparts.specs.declared.jpool.descriptor.DescError.{DescError}
use Rattle.jparts.specs.declared.jpool.descriptor.DescError.TheVariants as errors
use Rattle.jparts.specs.jpool.ClassNames.{is_class_name}

-- ---- the signs

abbrev pub is_bracket : ℕ → Bool
is_bracket b = b == byte "["

abbrev pub is_semicolon : ℕ → Bool
is_semicolon b = b == byte ";"

-- 'L', which stands in front of a class name
abbrev pub is_class_sign : ℕ → Bool
is_class_sign b = b == byte "L"

abbrev pub is_opening : ℕ → Bool
is_opening b = b == byte "("

-- 'J' and 'D', the types of two slots
abbrev pub is_wide : ℕ → Bool
is_wide b = b == byte "J" || b == byte "D"

-- one of 'B', 'C', 'D', 'F', 'I', 'J', 'S' and 'Z'
abbrev pub is_base : ℕ → Bool
is_base b = b == byte "B" || b == byte "C" || b == byte "D" || b == byte "F" || b == byte "I" || b == byte "J" || b == byte "S" || b == byte "Z"

-- ---- how they are written

abbrev pub class_text : ℕ → List ℕ → List ℕ
class_text base class = if is_class_sign base then class ++ byte ";" ∷ [] else []

abbrev pub type_text : FieldType → List ℕ
type_text t = replicate t.depth (byte "[") ++ t.base ∷ class_text t.base t.class

abbrev pub is_type : FieldType → Bool
is_type t = nat_lt t.depth (2 ^ 32) && (if is_class_sign t.base then is_class_name t.class else is_base t.base && length t.class == 0)

abbrev pub slots : FieldType → ℕ
slots t = if t.depth == 0 && is_wide t.base then 2 else 1

unfoldable pub slots_of : List FieldType → ℕ
slots_of [] = 0
slots_of (t ∷ ts) = slots t + slots_of ts

abbrev pub return_text : Option FieldType → List ℕ
return_text = elim [ None ↦ byte "V" ∷ [] | Some t ↦ type_text t ]

abbrev pub is_return : Option FieldType → Bool
is_return None = true
is_return (Some t) = is_type t

abbrev pub method_text : List FieldType → Option FieldType → List ℕ
method_text params ret = byte "(" ∷ flat_map type_text params ++ byte ")" ∷ return_text ret

-- at most 255 slots of parameters
abbrev pub is_method : List FieldType → Option FieldType → Bool
is_method params ret = list_all is_type params && is_return ret && nat_le (slots_of params) 255

unfoldable pub descriptor_text : Descriptor → List ℕ
descriptor_text = elim [ descriptors.Field t ↦ type_text t | descriptors.Method params ret ↦ method_text params ret ]

unfoldable pub is_well_formed : Descriptor → Bool
is_well_formed (descriptors.Field t) = is_type t
is_well_formed (descriptors.Method params ret) = is_method params ret

-- ---- how they are read

-- The call gives the value, unless memory runs out.
abbrev pub Reads : {X Y : Type 0} → (X → Y) → Result X DescError → Option Y → Type 0
Reads view (Ok x) value = value ≡ Some (view x)
Reads view (Err errors.Bad) value = value ≡ None
Reads view (Err errors.Memory) value = Unit {0}

-- a class name, and what is behind its semicolon
abbrev pub named : List ℕ → List ℕ → Option ((ℕ × List ℕ) × List ℕ)
named name rest = if is_class_name name then Some ((byte "L", name), rest) else None

unfoldable pub class_at : List ℕ → Option ((ℕ × List ℕ) × List ℕ)
class_at text = option_and_then (λ i. named (take i text) (drop (i + 1) text)) (position is_semicolon text)

-- a base type's letter, or 'L' with its class name
unfoldable pub base_at : List ℕ → Option ((ℕ × List ℕ) × List ℕ)
base_at = elim [ [] ↦ None | b ∷ rest ↦ if is_class_sign b then class_at rest else if is_base b then Some ((b, []), rest) else None ]

abbrev pub typed : ℕ → (ℕ × List ℕ) × List ℕ → Option (FieldType × List ℕ)
typed depth x = if nat_lt depth (2 ^ 32) then Some (record { depth = depth; base = x.0.0; class = x.0.1 }, x.1) else None

-- as many brackets as there are, and a base
unfoldable pub type_at : List ℕ → Option (FieldType × List ℕ)
type_at text = option_and_then (typed (prefix_len is_bracket text)) (base_at (drop (prefix_len is_bracket text) text))

-- what is behind a closing parenthesis
unfoldable pub closing_at : List ℕ → Option (List ℕ)
closing_at = elim [ [] ↦ None | b ∷ rest ↦ if b == byte ")" then Some rest else None ]

abbrev pub closed_or : Option (List ℕ) → Option (List FieldType × List ℕ) → Option (List FieldType × List ℕ)
closed_or x more = elim x [ Some rest ↦ Some ([], rest) | None ↦ more ]

-- types up to a closing parenthesis, fewer than n
unfoldable pub params_at : ℕ → List ℕ → Option (List FieldType × List ℕ)
params_at zero text = None
params_at (suc n) text = closed_or (closing_at text) (option_and_then (λ x. option_map (λ y. (x.0 ∷ y.0, y.1)) (params_at n x.1)) (type_at text))

-- the slots of the types up to a closing parenthesis
abbrev pub slots_at : ℕ → List ℕ → Option (ℕ × List ℕ)
slots_at n text = option_map (λ x. (slots_of x.0, x.1)) (params_at n text)

unfoldable pub return_at : List ℕ → Option (Option FieldType × List ℕ)
return_at = elim [ [] ↦ None | b ∷ rest ↦ if b == byte "V" then Some (None, rest) else option_map (λ x. (Some x.0, x.1)) (type_at (b ∷ rest)) ]

-- a value and nothing behind it
abbrev pub ended : {A : Type 0} → A × List ℕ → Option A
ended x = if length x.1 == 0 then Some x.0 else None

unfoldable pub field_of : List ℕ → Option FieldType
field_of text = option_and_then ended (type_at text)

abbrev pub few_slots : List FieldType × Option FieldType → Option (List FieldType × Option FieldType)
few_slots m = if nat_le (slots_of m.0) 255 then Some m else None

abbrev pub returned : List FieldType × List ℕ → Option (List FieldType × Option FieldType)
returned x = option_and_then few_slots (option_map (λ ret. (x.0, ret)) (option_and_then ended (return_at x.1)))

-- the parameters' types and the type of what is returned
unfoldable pub method_of : List ℕ → Option (List FieldType × Option FieldType)
method_of = elim [ [] ↦ None | b ∷ rest ↦ if is_opening b then option_and_then returned (params_at (length rest) rest) else None ]

abbrev pub method : List FieldType × Option FieldType → Descriptor
method m = descriptors.Method m.0 m.1

abbrev pub field : FieldType → Descriptor
field t = descriptors.Field t

unfoldable pub descriptor_of : List ℕ → Option Descriptor
descriptor_of = elim [ [] ↦ None | b ∷ bs ↦ if is_opening b then option_map method (method_of (b ∷ bs)) else option_map field (field_of (b ∷ bs)) ]

unfoldable pub is_field_descriptor : List ℕ → Bool
is_field_descriptor text = is_some (field_of text)

unfoldable pub is_array_descriptor : List ℕ → Bool
is_array_descriptor text = elim (field_of text) [ None ↦ false | Some t ↦ nat_lt 0 t.depth ]

unfoldable pub is_method_descriptor : List ℕ → Bool
is_method_descriptor text = is_some (method_of text)

-- the slots of a method descriptor's parameters
unfoldable pub method_slots : List ℕ → Option ℕ
method_slots text = option_map (λ m. slots_of m.0) (method_of text)
