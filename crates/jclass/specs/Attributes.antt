-- The attributes of classes and fields (JVMS 4.7): ConstantValue is looked into where the field is static.
use Rattle.std.specs.Prelude.{ℕ, Bool, true, false, ◌&&◌, ◌⊎◌, List, Option, Some, None, if◌then◌else◌}
use Rattle.std.proofs.Common.{inl, inr}
use Rattle.jground.specs.jformat.Format.{Format, ◌·◌, ◌▹◌, as_case, such, unless}
use Rattle.jground.specs.jformat.BodyFormats.{Body, whole, block}
use Rattle.jparts.specs.declared.jpool.entry.Entry.{Entry}
use Rattle.jparts.specs.jpool.ConstantPools.{is_utf8}
use Rattle.jclass.specs.declared.access.Access.{Access}
use Rattle.jclass.specs.declared.class.Attribute.{Attribute}
use Rattle.jclass.specs.declared.class.Attribute.TheVariants.{ConstantValue, Raw}
use Rattle.jclass.specs.declared.fault.ClassFault.{ClassFault}
use Rattle.jclass.specs.declared.fault.ClassFault.TheVariants.{Truncated, Trailing, Index}
use Rattle.jclass.specs.IndexFormats.{u2, u4, run, index, by_test}
use Rattle.jclass.specs.FlagRules.{is_static, is_constant_value, suits_field}
use Rattle.jground.specs.jformat.UnionFormats.{two_of}

-- ---- names

-- the index of a text
abbrev pub text_index : List Entry → Format ClassFault ℕ
text_index pool = index (is_utf8 pool)

abbrev pub name_fault : Bool → Bool → ClassFault → Option ClassFault
name_fault is_text is_again again = if is_text then unless (if is_again then false else true) again else Some Index

-- the index of an attribute's name; a name that may stand once is a fault where it stood already
abbrev pub name_once : List Entry → (ℕ → Bool) → ClassFault → Bool → Format ClassFault ℕ
name_once pool here again seen = such (λ i. name_fault (is_utf8 pool i) (seen && here i) again) u2

-- behind its name, an attribute that is looked into where a test holds
abbrev pub content : {A : Type 0} → Bool → Body ClassFault A → Format ClassFault (A ⊎ List ℕ)
content here body = by_test here (block u4 Truncated body) run

-- ---- of a class

unfoldable pub class_attribute : List Entry → Format ClassFault Attribute
class_attribute pool = as_case (two_of Raw) (elim [ Raw name bytes ↦ Some (name, bytes) | _ ↦ None ]) (text_index pool · run)

-- ---- of a field

-- the index of a constant
abbrev pub constant : List Entry → ℕ → Body ClassFault ℕ
constant pool desc = whole Trailing (index (suits_field pool desc))

abbrev pub constant_from : ℕ × (ℕ ⊎ List ℕ) → Attribute
constant_from p = elim p.1 [ inl value ↦ ConstantValue p.0 value | inr bytes ↦ Raw p.0 bytes ]

abbrev pub constant_parts : Attribute → Option (ℕ × (ℕ ⊎ List ℕ))
constant_parts = elim [ ConstantValue name value ↦ Some (name, inl value) | Raw name bytes ↦ Some (name, inr bytes) | _ ↦ None ]

abbrev pub is_constant : List Entry → Access → ℕ → Bool
is_constant pool a i = is_static a && is_constant_value pool i

-- an attribute of a field with this descriptor; `seen` where a constant value stood before it
unfoldable pub field_attribute : List Entry → Access → ℕ → Bool → Format ClassFault Attribute
field_attribute pool a desc seen = as_case constant_from constant_parts
    (name_once pool (is_constant pool a) Index seen ▹ λ i. content (is_constant pool a i) (constant pool desc))

abbrev pub saw_constant : Bool → Attribute → Bool
saw_constant seen = elim [ ConstantValue name value ↦ true | _ ↦ seen ]
