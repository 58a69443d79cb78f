-- What indices, flags and descriptors of a class file must be.
use Rattle.std.specs.Prelude.{ℕ, Bool, false, ◌||◌, List, Option, Some, None, ◌==◌, nat_le, codes, slice_get, if◌then◌else◌}
use Rattle.std.specs.Str.{bytes_eq}
use Rattle.std.specs.Int.RustNames.{bit_and}
use Rattle.jground.specs.jformat.Format.{Format, such, unless}
use Rattle.jparts.specs.declared.jpool.entry.Entry.{Entry}
use Rattle.jparts.specs.declared.jpool.entry.Entry.TheVariants.{Integer, Float, Long, Double, Str}
use Rattle.jparts.specs.jpool.ClassNames.{is_class_name}
use Rattle.jparts.specs.jpool.Descriptors.{is_field_descriptor, method_slots}
use Rattle.jparts.specs.jpool.ConstantPools.{utf8_at, is_class, class_name_at}
use Rattle.jclass.specs.declared.access.Access.{Access}
use Rattle.jclass.specs.declared.fault.ClassFault.{ClassFault}
use Rattle.jclass.specs.declared.fault.ClassFault.TheVariants.{Index, Descriptor}
use Rattle.jclass.specs.IndexFormats.{u2}

-- ---- indices

abbrev pub is_plain_class : Option (List ℕ) → Bool
is_plain_class = elim [ None ↦ false | Some text ↦ is_class_name text ]

-- a class that is no array
unfoldable pub names_class : List Entry → ℕ → Bool
names_class pool i = is_plain_class (class_name_at pool i)

-- the same, or none
unfoldable pub names_super : List Entry → ℕ → Bool
names_super pool i = i == 0 || names_class pool i

-- any class, or all exceptions
unfoldable pub names_caught : List Entry → ℕ → Bool
names_caught pool i = i == 0 || is_class pool i

-- a text is there and is this one
abbrev pub is_text : Option (List ℕ) → List ℕ → Bool
is_text x wanted = elim x [ Some text ↦ bytes_eq text wanted | None ↦ false ]

unfoldable pub is_constant_value : List Entry → ℕ → Bool
is_constant_value pool i = is_text (utf8_at pool i) (codes "ConstantValue")

unfoldable pub is_code : List Entry → ℕ → Bool
is_code pool i = is_text (utf8_at pool i) (codes "Code")

unfoldable pub is_maps : List Entry → ℕ → Bool
is_maps pool i = is_text (utf8_at pool i) (codes "StackMapTable")

-- ---- flags

abbrev pub has_flag : ℕ → Access → Bool
has_flag flag a = bit_and a.0 flag == flag

unfoldable pub is_static : Access → Bool
is_static a = has_flag 8 a

-- abstract or native
unfoldable pub has_no_code : Access → Bool
has_no_code a = has_flag 1024 a || has_flag 256 a

-- ---- descriptors

abbrev pub descriptor_fault : (List ℕ → Bool) → Option (List ℕ) → Option ClassFault
descriptor_fault good = elim [ None ↦ Some Index | Some text ↦ unless (good text) Descriptor ]

-- the index of a field's descriptor
unfoldable pub field_descriptor : List Entry → Format ClassFault ℕ
field_descriptor pool = such (λ i. descriptor_fault is_field_descriptor (utf8_at pool i)) u2

abbrev pub within : ℕ → Option ℕ → Bool
within limit = elim [ None ↦ false | Some n ↦ nat_le n limit ]

-- 255 slots of parameters, of which an instance method's `this` takes one
abbrev pub most_slots : Access → ℕ
most_slots a = if is_static a then 255 else 254

-- the index of a method's descriptor
unfoldable pub method_descriptor : List Entry → Access → Format ClassFault ℕ
method_descriptor pool a = such (λ i. descriptor_fault (λ text. within (most_slots a) (method_slots text)) (utf8_at pool i)) u2

-- ---- constant values (JVMS 4.7.2)

abbrev pub is_int : List ℕ → Bool
is_int text = bytes_eq text (codes "I") || bytes_eq text (codes "S") || bytes_eq text (codes "C") || bytes_eq text (codes "B")
    || bytes_eq text (codes "Z")

-- whether a field of a type may have this entry as its constant
abbrev pub suits : List ℕ → Option Entry → Bool
suits type (Some (Integer n)) = is_int type
suits type (Some (Long n)) = bytes_eq type (codes "J")
suits type (Some (Float n)) = bytes_eq type (codes "F")
suits type (Some (Double n)) = bytes_eq type (codes "D")
suits type (Some (Str text)) = bytes_eq type (codes "Ljava/lang/String;")
suits type _ = false

-- whether the entry at an index suits the field whose descriptor stands at another
unfoldable pub suits_field : List Entry → ℕ → ℕ → Bool
suits_field pool desc i = elim (utf8_at pool desc) [ None ↦ false | Some type ↦ suits type (slice_get pool i) ]
