-- Names by which proofs and the contracts of inner functions call what the definitions say in place. What `javasec` and `dispatch` promise
-- reaches none of them.
use Rattle.std.specs.Prelude.{Option, ℕ, List, Some, None, ◌||◌, ◌==◌, if◌then◌else◌, nat_lt, map, Bool, false}
use Rattle.jparts.specs.declared.jpool.entry.Entry.{Entry}
use Rattle.jground.specs.jformat.Format.{Format, literal}
use Rattle.jclass.specs.declared.class.Attribute.{Attribute}
use Rattle.jclass.specs.declared.class.Attribute.TheVariants.{Raw}
use Rattle.jclass.specs.declared.fault.ClassFault.{ClassFault}
use Rattle.jclass.specs.declared.access.Access.{Access}
use Rattle.jclass.specs.FlagRules.{has_no_code, suits}
use Rattle.jclass.specs.declared.class.MemberInfo.{MemberInfo}
use Rattle.jclass.specs.MemberFormat.{attribute_name}
use Rattle.jclass.specs.IndexFormats.{u4}
use Rattle.jclass.specs.declared.fault.ClassFault.TheVariants.{Magic}
use Rattle.jclass.specs.declared.fault.ClassFault.TheVariants as kinds

-- ---- of Attributes

abbrev pub raw_parts : Attribute → Option (ℕ × List ℕ)
raw_parts = elim [ Raw name bytes ↦ Some (name, bytes) | _ ↦ None ]

-- ---- of CodeFormat

abbrev pub length_fault : ℕ → Option ClassFault
length_fault n = if n == 0 || nat_lt 0xffff n then Some kinds.Code else None

-- ---- of MemberFormat

-- one code, or none for a method that is abstract or native
abbrev pub codes_wanted : Access → ℕ
codes_wanted a = if has_no_code a then 0 else 1

abbrev pub names_of : MemberInfo → Access × List ℕ
names_of m = (m.flags, map attribute_name m.attributes)

-- ---- of FlagRules

abbrev pub suits_type : Option (List ℕ) → Option Entry → Bool
suits_type x one = elim x [ None ↦ false | Some type ↦ suits type one ]

-- ---- of ClassFileShape

abbrev pub magic : Format ClassFault (Unit {0})
magic = literal u4 Magic 0xcafebabe
