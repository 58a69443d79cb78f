-- What is asked of a class that is to be moved, so that what it becomes is a class file.
use Rattle.std.specs.Prelude.{◌≡◌, ℕ, ◌≤◌, List, length, slice_get, Option, Some, None, IsTrue}
use Rattle.std.specs.List.{list_all}
use Rattle.jparts.specs.declared.jpool.descriptor.Descriptor.TheVariants as descriptors
use Rattle.jparts.specs.declared.jpool.descriptor.FieldType.{FieldType}
use Rattle.jparts.specs.declared.jpool.entry.Entry.{Entry}
use Rattle.jparts.specs.jpool.Descriptors.{descriptor_of, slots_of}
use Rattle.jparts.specs.jpool.ConstantPools.{utf8_at}
use Rattle.jclass.specs.declared.class.Attribute.{Attribute}
use Rattle.jclass.specs.declared.class.ClassParts.{ClassParts}
use Rattle.jclass.specs.declared.class.CodeBody.{CodeBody}
use Rattle.jclass.specs.declared.class.MemberInfo.{MemberInfo}
use Rattle.jclass.specs.Class.{class_file, class_parts}
use Rattle.jclass.specs.PoolChecks.{head}
use Rattle.jclass.specs.MemberFormat.{body_of, method}
use Rattle.jclass.specs.FileContents.{IsIn}
use Rattle.jmove.specs.declared.method.Expand.TheVariants.{Call}
use Rattle.jmove.specs.declared.naming.Reference.{Reference}
use Rattle.jmove.specs.PoolAdditions.{reference_at}
use Rattle.jrewriting.specs.jmove_laws.FramePlaces.{StandAt}
use Rattle.jresolution.specs.jprogram.ProgramClasses.{Program}
use Rattle.jresolution.specs.jprogram.MemberResolution.{referred}
use Rattle.jresolution.specs.jprogram.ClassFileParts.{member_desc}
use Rattle.jmoveclass.specs.EntryLocals.{bare_beginning}
use Rattle.jmoveclass.specs.CallExpansion.{calling}
use Rattle.jmoveclass.specs.ClassLimits.{class_limit}
use Rattle.jmoveclass.specs.MovedMembers.{frames_of}
use Rattle.jmoveclass.specs.MovedClasses.{moved_class}
use Rattle.jmoveclass.specs.MovableClasses.{CanMoveAll}

-- The parameters of the method that a reference names have at most 254 slots, so that one more is left (JVMS 4.3.3).
abbrev pub HasRoom : List Entry → ℕ → Type 0
HasRoom pool i = (r : Reference) (text : List ℕ) (ps : List FieldType) (ret : Option FieldType)
    → reference_at pool i ≡ Some r → utf8_at pool r.descriptor ≡ Some text → descriptor_of text ≡ Some (descriptors.Method ps ret) → slots_of ps ≤ 254

-- each call that is handed a context has room for it
abbrev pub HaveRoom : Program → ClassParts → Type 0
HaveRoom p c = (n : ℕ) → calling n (referred p c.pool (slice_get c.pool n)) ≡ Call n → HasRoom c.pool n

-- each frame of a method stands at an instruction
abbrev pub FramesStand : ClassParts → Type 0
FramesStand c = (m : MemberInfo) (a : Attribute) (b : CodeBody) → IsIn m c.methods → IsIn a m.attributes → body_of a ≡ Some b
    → StandAt b.ops (frames_of (bare_beginning c m) b)

-- A class file that breaks no limit. Linking leaves room for a context in each descriptor, and no method that is called breaks a limit; its
-- codes can be moved, and their frames stand at instructions, where its methods are well typed.
pub record CanBeFile (p : Program) (domain : ℕ) (c : ClassParts) : Type 0 where
  pub good : IsTrue (class_file.fits c)
  pub short : (m : MemberInfo) → IsIn m c.methods → length (member_desc c m) ≤ 65526
  pub room : HaveRoom p c
  pub can : CanMoveAll p c
  pub stand : FramesStand c
  pub small : domain ≤ 0x7fff
  pub none : class_limit p domain c ≡ None

-- The front of the moved class, up to the end of its pool, meets what is asked of class files: each entry has a spelling, texts are in
-- modified UTF-8, names and descriptors are such, and what entries name is there.
abbrev pub HeadStays : Type 0
HeadStays = (p : Program) (domain : ℕ) (c : ClassParts) → CanBeFile p domain c → IsTrue (head.fits (class_parts (moved_class p domain c)).0)

-- Each of its methods meets what is asked of methods: code has a spelling, names what it must name, and leads to instructions, handlers and
-- frames included (JVMS 4.6, 4.7.3, 4.7.4).
abbrev pub MethodsStay : Type 0
MethodsStay = (p : Program) (domain : ℕ) (c : ClassParts) → CanBeFile p domain c
    → IsTrue (list_all (method (moved_class p domain c).pool).fits (moved_class p domain c).methods)

-- The moved class is a class file.
abbrev pub FileStays : Type 0
FileStays = (p : Program) (domain : ℕ) (c : ClassParts) → CanBeFile p domain c → IsTrue (class_file.fits (moved_class p domain c))
