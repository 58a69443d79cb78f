-- The first phase of linking: names that may not be used, and names that stand twice.
use Rattle.std.specs.Prelude.{ℕ, Bool, false, ◌||◌, List, map, take, Option, Some, None, is_some, nat_lt, codes, option_and_then}
use Rattle.std.specs.List.{list_any}
use Rattle.std.specs.Str.{bytes_eq}
use Rattle.jground.specs.jbase.FirstFaults.{fault_if, first_along, or_else}
use Rattle.jparts.specs.declared.jpool.descriptor.Descriptor.{Descriptor}
use Rattle.jparts.specs.declared.jpool.descriptor.Descriptor.TheVariants as descriptors
use Rattle.jparts.specs.declared.jpool.descriptor.FieldType.{FieldType}
use Rattle.jparts.specs.declared.jpool.entry.Entry.{Entry}
use Rattle.jparts.specs.declared.jpool.entry.Entry.TheVariants as entries
use Rattle.jparts.specs.jpool.Descriptors.{descriptor_of}
use Rattle.jclass.specs.declared.class.ClassParts.{ClassParts}
use Rattle.jclass.specs.declared.class.MemberInfo.{MemberInfo}
use Rattle.jlib.specs.declared.side.Side.TheVariants.{Source, Passing}
use Rattle.jlib.specs.LibraryClasses as library
use Rattle.jresolution.specs.declared.jprogram.fault.LinkKind.{LinkKind}
use Rattle.jresolution.specs.declared.jprogram.fault.LinkKind.TheVariants.{ReservedName, Twice}
use Rattle.jresolution.specs.declared.jprogram.fault.LinkFault.{LinkFault}
use Rattle.jresolution.specs.declared.jprogram.naming.TextMarks.{TextMarks}
use Rattle.jresolution.specs.declared.jprogram.part.CodePart.{CodePart}
use Rattle.jresolution.specs.jprogram.ClassFileParts.{member_desc, or_empty, text, this_name}
use Rattle.jresolution.specs.jprogram.ProgramClasses.{Program, place_of}
use Rattle.jparts.specs.jpool.PoolEntries.{utf8_parts}

-- ---- faults at their places

abbrev pub in_class : ℕ → Option LinkKind → Option LinkFault
in_class i = elim [ None ↦ None | Some kind ↦ Some (record { class = i; member = None; kind = kind }) ]

-- ---- reserved names

-- the package that the passing library keeps for itself
abbrev pub is_reserved : List ℕ → Bool
is_reserved name = bytes_eq (take 4 name) (codes "sps/")

abbrev pub type_reserved : FieldType → Bool
type_reserved t = is_reserved t.class

-- a descriptor names such a class
abbrev pub desc_reserved : Option Descriptor → Bool
desc_reserved None = false
desc_reserved (Some (descriptors.Field t)) = type_reserved t
desc_reserved (Some (descriptors.Method params ret)) = list_any type_reserved params || (elim ret [ None ↦ false | Some t ↦ type_reserved t ])

unfoldable pub text_reserved : List ℕ → Bool
text_reserved desc = desc_reserved (descriptor_of desc)

-- a class by its name, an array's by its element
abbrev pub class_reserved : List ℕ → Bool
class_reserved name = is_reserved name || text_reserved name

-- what is looked at of a pool: the names of classes, and the descriptors of names and types
abbrev pub entry_reserved : List Entry → Entry → Bool
entry_reserved pool = elim [ entries.Class i ↦ class_reserved (text pool i) | entries.NameAndType i j ↦ text_reserved (text pool j) | _ ↦ false ]

abbrev pub member_reserved : ClassParts → MemberInfo → Bool
member_reserved c m = text_reserved (member_desc c m)

abbrev pub names_reserved : ClassParts → Bool
names_reserved c = list_any (entry_reserved c.pool) c.pool || (list_any (member_reserved c) c.methods || list_any (member_reserved c) c.fields)

unfoldable pub reserved_test : Program → ClassParts → Option LinkKind
reserved_test p c = fault_if (elim p.side [ Source ↦ names_reserved c | Passing ↦ false ]) ReservedName

-- what is known of a text: whether it names such a class as a class's name, and as a descriptor
abbrev pub marks_of : List ℕ → TextMarks
marks_of t = record { class = class_reserved t; desc = text_reserved t }

abbrev pub marks_in : Entry → TextMarks
marks_in e = marks_of (or_empty (option_and_then utf8_parts (Some e)))

abbrev pub text_marks : List Entry → List TextMarks
text_marks entries = map marks_in entries

-- ---- names that stand twice

-- the first class of this name stands before a place
abbrev pub stands_before : List CodePart → ℕ → List ℕ → Bool
stands_before ps i name = elim (place_of ps name) [ None ↦ false | Some first ↦ nat_lt first i ]

-- the name is the library's, or that of a class before it
unfoldable pub taken_test : Program → ℕ → ClassParts → Option LinkKind
taken_test p i c = fault_if (is_some (library.class_named p.side (this_name c)) || stands_before p.parts i (this_name c)) Twice

-- ---- the phase

abbrev pub naming_test : Program → ℕ → CodePart → Option LinkKind
naming_test p i part = or_else (reserved_test p part.class) (taken_test p i part.class)

unfoldable pub naming_fault : Program → Option LinkFault
naming_fault p = first_along (λ i part. in_class i (naming_test p i part)) 0 p.parts
