-- What the parts of a class file say by its pool (JVMS 4.1, 4.5, 4.6). A text that isn't there is empty, so each part says something.
use Rattle.std.specs.Prelude.{ℕ, Bool, true, false, ◌&&◌, List, [], ◌∷◌, Option, Some, None, map, is_some, ◌==◌, if◌then◌else◌}
use Rattle.std.specs.List.{list_any}
use Rattle.std.specs.Str.{bytes_eq}
use Rattle.jground.specs.jbase.FirstFaults.{first_some}
use Rattle.jparts.specs.declared.jpool.entry.Entry.{Entry}
use Rattle.jparts.specs.jpool.ClassNames.{is_slash}
use Rattle.jparts.specs.jpool.ConstantPools.{class_name_at, utf8_at}
use Rattle.jclass.specs.declared.access.Access.{Access}
use Rattle.jclass.specs.declared.class.ClassParts.{ClassParts}
use Rattle.jclass.specs.declared.class.CodeBody.{CodeBody}
use Rattle.jclass.specs.declared.class.MemberInfo.{MemberInfo}
use Rattle.jclass.specs.MemberFormat.{body_of}
use Rattle.jclass.specs.FlagRules.{has_flag}
use Rattle.jresolution.specs.declared.jprogram.reach.Reach.{Reach}
use Rattle.jresolution.specs.declared.jprogram.reach.Reach.TheVariants as reach

-- ---- texts

abbrev pub or_empty : Option (List ℕ) → List ℕ
or_empty = elim [ None ↦ [] | Some text ↦ text ]

-- the text at an index of a pool
abbrev pub text : List Entry → ℕ → List ℕ
text pool i = or_empty (utf8_at pool i)

-- the name of the class at an index
abbrev pub class_text : List Entry → ℕ → List ℕ
class_text pool i = or_empty (class_name_at pool i)

-- ---- a class

abbrev pub this_name : ClassParts → List ℕ
this_name c = class_text c.pool c.this_class

-- the name of the class that it extends, none at index 0
abbrev pub super_name : ClassParts → Option (List ℕ)
super_name c = if c.super_class == 0 then None else Some (class_text c.pool c.super_class)

-- the names of the interfaces that it lists, in their order
abbrev pub interface_names : ClassParts → List (List ℕ)
interface_names c = map (class_text c.pool) c.interfaces

-- ---- a member

abbrev pub member_name : ClassParts → MemberInfo → List ℕ
member_name c m = text c.pool m.name

abbrev pub member_desc : ClassParts → MemberInfo → List ℕ
member_desc c m = text c.pool m.desc

-- it has this name and descriptor
abbrev pub is_called : ClassParts → List ℕ → List ℕ → MemberInfo → Bool
is_called c name desc m = bytes_eq (member_name c m) name && bytes_eq (member_desc c m) desc

-- its code: what its first Code attribute holds
unfoldable pub code_of : MemberInfo → Option CodeBody
code_of m = first_some body_of m.attributes

abbrev pub has_code : MemberInfo → Bool
has_code m = is_some (code_of m)

-- ---- flags (JVMS 4.1, 4.5, 4.6)

abbrev pub is_public : Access → Bool
is_public a = has_flag 0x0001 a

abbrev pub is_static : Access → Bool
is_static a = has_flag 0x0008 a

abbrev pub is_final : Access → Bool
is_final a = has_flag 0x0010 a

abbrev pub is_interface : Access → Bool
is_interface a = has_flag 0x0200 a

abbrev pub is_abstract : Access → Bool
is_abstract a = has_flag 0x0400 a

-- of private, public and protected the first that is set; package where none is
unfoldable pub reach_of : Access → Reach
reach_of a =
    if has_flag 0x0002 a then reach.Private else
    (if has_flag 0x0001 a then reach.Public else
    (if has_flag 0x0004 a then reach.Protected else reach.Package))

abbrev pub is_public_reach : Reach → Bool
is_public_reach = elim [ reach.Public ↦ true | _ ↦ false ]

-- ---- packages (JVMS 5.3)

-- the package of a class's name: the bytes behind which a `/` stands
unfoldable pub package_of : List ℕ → List ℕ
package_of [] = []
package_of (b ∷ rest) = if list_any is_slash rest then b ∷ package_of rest else []

-- two classes stand in one package
abbrev pub same_package : List ℕ → List ℕ → Bool
same_package a b = bytes_eq (package_of a) (package_of b)
