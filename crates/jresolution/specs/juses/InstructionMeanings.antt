-- What an instruction means by the pool of its class (JVMS 4.4, 5.1, 6.5), classes and types by name.
use Rattle.std.specs.Prelude.{ℕ, ℤ, Bool, List, map, take, drop, Option, Some, None, option_map, option_and_then, slice_get, if◌then◌else◌}
use Rattle.std.specs.Str.{bytes_eq}
use Rattle.jparts.specs.declared.jpool.entry.Entry.{Entry}
use Rattle.jparts.specs.declared.jpool.entry.Entry.TheVariants as entries
use Rattle.jparts.specs.jpool.ConstantPools.{name_and_type_at, utf8_at}
use Rattle.jparts.specs.declared.jcode.names.CallOp.{CallOp}
use Rattle.jparts.specs.declared.jcode.names.CallOp.TheVariants as calls
use Rattle.jparts.specs.declared.jcode.names.CastOp.{CastOp}
use Rattle.jparts.specs.declared.jcode.names.FieldOp.{FieldOp}
use Rattle.jparts.specs.declared.jcode.op_form.PoolForm.{PoolForm}
use Rattle.jparts.specs.declared.jcode.op_form.PoolForm.TheVariants as forms
use Rattle.jtypes.specs.declared.vtype.Name.{Name}
use Rattle.jtypes.specs.declared.vtype.VType.{VType}
use Rattle.jtypes.specs.declared.vtype.VType.TheVariants as types
use Rattle.jresolution.specs.declared.jprogram.member.Member.{Member}
use Rattle.jresolution.specs.jprogram.ClassFileParts.{class_text, text}
use Rattle.jresolution.specs.jprogram.ProgramClasses.{Program}
use Rattle.jresolution.specs.jprogram.MemberResolution.{init, resolve_field, resolve_method}
use Rattle.jresolution.specs.declared.juses.meaning.Constant.{Constant}
use Rattle.jresolution.specs.declared.juses.meaning.Constant.TheVariants as numbered
use Rattle.jresolution.specs.declared.juses.meaning.InvokeKind.{InvokeKind}
use Rattle.jresolution.specs.declared.juses.meaning.InvokeKind.TheVariants as how
use Rattle.jresolution.specs.declared.juses.meaning.FieldUse.{FieldUse}
use Rattle.jresolution.specs.declared.juses.meaning.CallUse.{CallUse}
use Rattle.jresolution.specs.declared.juses.meaning.Span.{Span}
use Rattle.jresolution.specs.declared.juses.meaning.Use.{Use}
use Rattle.jresolution.specs.declared.juses.meaning.Use.TheVariants as uses
use Rattle.jresolution.specs.declared.juses.types.TypeRef.{TypeRef}
use Rattle.jresolution.specs.juses.InternedTypes.{class_named, named}
use Rattle.jresolution.specs.juses.DescriptorTypes.{Typed, Held, Called, array_over, class_type, name, typed}

-- ---- meanings

pub data Pushed : Type 0 where
  Int Long : ℤ → Pushed
  -- a string of this text
  Text : List ℕ → Pushed

pub record FieldMeaning : Type 0 where
  -- the class by which it is named
  pub owner : Name
  pub held : VType
  pub member : Member

pub record CallMeaning : Type 0 where
  -- the class by which it is named
  pub owner : Name
  -- the newest first, as operands stand
  pub params : List VType
  pub ret : Option VType
  pub member : Member

pub data Meaning : Type 0 where
  Push : Pushed → Meaning
  Field : FieldOp → FieldMeaning → Meaning
  Call : InvokeKind → CallMeaning → Meaning
  -- makes an object
  Make : Name → Meaning
  -- makes an array of this type
  MakeArray : VType → Meaning
  -- tests that a reference is of a type
  Cast : CastOp → VType → Meaning

-- ---- references (JVMS 4.4.2, 5.4.3)

-- what a reference says: the name of the class by which it names its member, that name, and its descriptor
pub record Reference : Type 0 where
  pub owner : List ℕ
  pub name : List ℕ
  pub desc : List ℕ

abbrev pub reference : List Entry → ℕ → ℕ × ℕ → Reference
reference pool class both = record { owner = class_text pool class; name = text pool both.0; desc = text pool both.1 }

abbrev pub field_as : Name → Option Member → Typed → Option FieldMeaning
field_as owner (Some m) (Held t) = Some (record { owner = owner; held = t; member = m })
field_as owner m t = None

-- a field: what its reference stands for, and the type that the reference says
unfoldable pub field_meant : Program → Reference → Option FieldMeaning
field_meant p r = field_as (name r.owner) (resolve_field p r.owner r.name r.desc) (typed p r.desc)

abbrev pub call_as : Name → Option Member → Typed → Option CallMeaning
call_as owner (Some m) (Called params ret) = Some (record { owner = owner; params = params; ret = ret; member = m })
call_as owner m t = None

-- a method: what its reference stands for, and the types that the reference says
unfoldable pub call_meant : Program → Reference → Option CallMeaning
call_meant p r = call_as (name r.owner) (resolve_method p r.owner r.name r.desc) (typed p r.desc)

-- ---- what an entry stands for

pub data EntryMeaning : Type 0 where
  AConstant : Pushed → EntryMeaning
  AClass : VType → EntryMeaning
  AField : FieldMeaning → EntryMeaning
  -- an `<init>`, or another method
  AMethod : Bool → CallMeaning → EntryMeaning

abbrev pub field_entry : Program → Reference → Option EntryMeaning
field_entry p r = option_map AField (field_meant p r)

abbrev pub method_entry : Program → Reference → Option EntryMeaning
method_entry p r = option_map (AMethod (bytes_eq r.name init)) (call_meant p r)

-- what an entry of a pool stands for in a program; none where that isn't there, and of the kinds that are left out
unfoldable pub entry_meant : Program → List Entry → Option Entry → Option EntryMeaning
entry_meant p pool (Some (entries.Integer n)) = Some (AConstant (Int n))
entry_meant p pool (Some (entries.Long n)) = Some (AConstant (Long n))
entry_meant p pool (Some (entries.Str i)) = Some (AConstant (Text (text pool i)))
entry_meant p pool (Some (entries.Class i)) = option_map AClass (option_and_then (class_type p) (utf8_at pool i))
entry_meant p pool (Some (entries.Field class both)) = option_and_then (λ b. field_entry p (reference pool class b)) (name_and_type_at pool both)
entry_meant p pool (Some (entries.Method class both)) = option_and_then (λ b. method_entry p (reference pool class b)) (name_and_type_at pool both)
entry_meant p pool (Some (entries.InterfaceMethod class both)) =
    option_and_then (λ b. method_entry p (reference pool class b)) (name_and_type_at pool both)
entry_meant p pool _ = None

-- ---- what an instruction makes of it

-- a special call of an `<init>` is a case of its own
abbrev pub how_of : CallOp → Bool → InvokeKind
how_of x is_init = elim x [ calls.Virtual ↦ how.Virtual | calls.Special ↦ if is_init then how.Init else how.Special | calls.Static ↦ how.Static ]

abbrev pub used : PoolForm → EntryMeaning → Option Meaning
used (forms.Constant i) (AConstant (Int n)) = Some (Push (Int n))
used (forms.Constant i) (AConstant (Text t)) = Some (Push (Text t))
used (forms.LongConstant i) (AConstant (Long n)) = Some (Push (Long n))
used (forms.Field op i) (AField f) = Some (Field op f)
used (forms.Call op i) (AMethod is_init c) = Some (Call (how_of op is_init) c)
used (forms.CallInterface i slots) (AMethod is_init c) = Some (Call how.Interface c)
used (forms.New i) (AClass (types.Object c)) = Some (Make c)
used (forms.Cast op i) (AClass t) = Some (Cast op t)
used f e = None

abbrev pub index_of : PoolForm → ℕ
index_of (forms.Constant i) = i
index_of (forms.LongConstant i) = i
index_of (forms.Field op i) = i
index_of (forms.Call op i) = i
index_of (forms.CallInterface i slots) = i
index_of (forms.New i) = i
index_of (forms.Cast op i) = i

-- what an instruction by an entry of the pool means
unfoldable pub meant : Program → List Entry → PoolForm → Option Meaning
meant p pool f = option_and_then (used f) (entry_meant p pool (slice_get pool (index_of f)))

-- what the instruction means that makes an array of the class at an index
unfoldable pub array_meant : Program → List Entry → ℕ → Option Meaning
array_meant p pool i = option_and_then (elim [ AClass t ↦ option_map MakeArray (array_over t) | _ ↦ None ]) (entry_meant p pool (slice_get pool i))

-- the member of a field or of a call
abbrev pub member_meant : Meaning → Option Member
member_meant (Field op f) = Some f.member
member_meant (Call by c) = Some c.member
member_meant m = None

-- the type of the class at an index
unfoldable pub class_at : Program → List Entry → ℕ → Option VType
class_at p pool i = option_and_then (elim [ AClass t ↦ Some t | _ ↦ None ]) (entry_meant p pool (slice_get pool i))

-- ---- by number

abbrev pub pushed_named : List Entry → Constant → Pushed
pushed_named pool (numbered.Int n) = Int n
pushed_named pool (numbered.Long n) = Long n
pushed_named pool (numbered.Text i) = Text (text pool i)

abbrev pub field_named : Program → FieldUse → FieldMeaning
field_named p f = record { owner = class_named p f.owner; held = named p f.held; member = f.member }

-- the types that stand at a span of a list
abbrev pub spanned : List TypeRef → Span → List TypeRef
spanned types s = take s.count (drop s.first types)

abbrev pub call_named : Program → List TypeRef → CallUse → CallMeaning
call_named p types c =
    record { owner = class_named p c.owner; params = map (named p) (spanned types c.params); ret = option_map (named p) c.ret; member = c.member }

-- the meaning of what is said by number: by a program, the pool of its class, and the list in which the types of parameters stand
abbrev pub meaning_of : Program → List Entry → List TypeRef → Use → Meaning
meaning_of p pool types (uses.Push c) = Push (pushed_named pool c)
meaning_of p pool types (uses.Field op f) = Field op (field_named p f)
meaning_of p pool types (uses.Call by c) = Call by (call_named p types c)
meaning_of p pool types (uses.Make c) = Make (class_named p c)
meaning_of p pool types (uses.MakeArray t) = MakeArray (named p t)
meaning_of p pool types (uses.Cast op t) = Cast op (named p t)
