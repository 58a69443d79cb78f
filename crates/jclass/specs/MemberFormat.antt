-- Fields and methods (JVMS 4.5, 4.6).
use Rattle.std.specs.Prelude.{ℕ, Bool, false, ◌⊎◌, List, map, length, Option, Some, None, Ok, ◌==◌, if◌then◌else◌}
use Rattle.std.specs.List.{filter}
use Rattle.std.proofs.Common.{inl, inr}
use Rattle.jground.specs.jbase.MemoryFailures.{◌>>=◌}
use Rattle.jground.specs.jformat.Format.{Answer, Format, ◌·◌, ◌▹◌, via, as_case, part_fits, unless, part_spell}
use Rattle.jground.specs.jformat.BodyFormats.{counted, counted_at}
use Rattle.jground.specs.jformat.RepeatedReads.{ahead}
use Rattle.jground.specs.jformat.StatefulFormats.{counted_from}
use Rattle.jparts.specs.declared.jpool.entry.Entry.{Entry}
use Rattle.jclass.specs.declared.access.Access.{Access}
use Rattle.jclass.specs.declared.class.Attribute.{Attribute}
use Rattle.jclass.specs.declared.class.Attribute.TheVariants.{ConstantValue, Code, Raw}
use Rattle.jclass.specs.declared.class.CodeBody.{CodeBody}
use Rattle.jclass.specs.declared.class.MemberInfo.{MemberInfo}
use Rattle.jclass.specs.declared.fault.ClassFault.{ClassFault}
use Rattle.jclass.specs.declared.fault.ClassFault.TheVariants as kinds
use Rattle.jclass.specs.IndexFormats.{u2, access}
use Rattle.jclass.specs.FlagRules.{field_descriptor, method_descriptor, has_no_code, is_code}
use Rattle.jclass.specs.ClassFileShape
use Rattle.jclass.specs.Attributes.{text_index, content, field_attribute, saw_constant}
use Rattle.jclass.specs.CodeFormat.{a_body, code_content, code_body}

abbrev pub member_from : Access × (ℕ × (ℕ × List Attribute)) → MemberInfo
member_from p = record { flags = p.0; name = p.1.0; desc = p.1.1.0; attributes = p.1.1.1 }

abbrev pub member_parts : MemberInfo → Access × (ℕ × (ℕ × List Attribute))
member_parts m = (m.flags, (m.name, (m.desc, m.attributes)))

-- ---- fields

unfoldable pub field : List Entry → Format ClassFault MemberInfo
field pool = via member_from member_parts
    (access ▹ λ a. text_index pool · (field_descriptor pool ▹ λ desc. counted_from u2 (field_attribute pool a desc) saw_constant false))

-- ---- methods

abbrev pub code_from : ℕ × (CodeBody ⊎ List ℕ) → Attribute
code_from p = elim p.1 [ inl c ↦ Code p.0 c.max_stack c.max_locals c.ops c.handlers c.attributes | inr bytes ↦ Raw p.0 bytes ]

abbrev pub code_parts : Attribute → Option (ℕ × (CodeBody ⊎ List ℕ))
code_parts (Code name stack locals ops handlers attributes) = Some (name, inl (a_body stack locals ops handlers attributes))
code_parts (Raw name bytes) = Some (name, inr bytes)
code_parts _ = None

-- what stands in a Code attribute behind its name, if it is one
abbrev pub body_of : Attribute → Option CodeBody
body_of = elim [ Code name stack locals ops handlers attributes ↦ Some (a_body stack locals ops handlers attributes) | _ ↦ None ]

abbrev pub code_spell : List Entry → Attribute → List ℕ
code_spell pool a = part_spell (code_content pool) (body_of a)

abbrev pub code_fits : List Entry → Attribute → Bool
code_fits pool a = part_fits (code_content pool) (body_of a)

-- an attribute of a method
unfoldable pub method_attribute : List Entry → Format ClassFault Attribute
method_attribute pool = as_case code_from code_parts (text_index pool ▹ λ i. content (is_code pool i) (code_body pool))

-- a method, but for the number of its codes
unfoldable pub method_parts : List Entry → Format ClassFault MemberInfo
method_parts pool = via member_from member_parts (access ▹ λ a. text_index pool · method_descriptor pool a · counted u2 (method_attribute pool))

-- the flags, and the names of the attributes, of what has the shape of a member
abbrev pub name_at : List ℕ → Answer ClassFault ℕ
name_at bytes = ClassFileShape.attribute.read bytes >>= λ x. Ok (x.0.0, x.1)

abbrev pub names_at : List ℕ → Answer ClassFault (Access × List ℕ)
names_at bytes = (access · u2 · u2).read bytes >>= λ x. counted_at u2.read name_at x.1 >>= λ y. Ok ((x.0.0, y.0), y.1)

abbrev pub attribute_name : Attribute → ℕ
attribute_name = elim [ ConstantValue name value ↦ name | Code name stack locals ops handlers attributes ↦ name | Raw name bytes ↦ name ]

abbrev pub codes_fault : List Entry → Access × List ℕ → Option ClassFault
codes_fault pool p = unless (length (filter (is_code pool) p.1) == (if has_no_code p.0 then 0 else 1)) kinds.Code

-- a method: the number of its codes is looked at before all else of it
unfoldable pub method : List Entry → Format ClassFault MemberInfo
method pool = ahead names_at (λ m. (m.flags, map attribute_name m.attributes)) (codes_fault pool) (method_parts pool)
