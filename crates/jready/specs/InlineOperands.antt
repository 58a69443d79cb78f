-- What an instruction by number holds beside the index of its entry, by what its entry stands for.
use Rattle.std.specs.Prelude.{◌≡◌, ℕ, ◌+◌, ◌<◌, List, length, map, Some, slice_get}
use Rattle.jparts.specs.declared.jpool.entry.Entry.{Entry}
use Rattle.jparts.specs.declared.jcode.op_form.PoolForm.TheVariants as forms
use Rattle.jparts.specs.declared.jcode.names.FieldOp.{FieldOp}
use Rattle.jmemory.specs.declared.jheap.cell.CellType.{CellType}
use Rattle.jmemory.specs.declared.jheap.cell.CellType.TheVariants as cells
use Rattle.jlib.specs.declared.calls.LibCall.{LibCall}
use Rattle.jtypes.specs.declared.vtype.Element.TheVariants as elements
use Rattle.jtypes.specs.declared.vtype.VType.{VType}
use Rattle.jtypes.specs.declared.vtype.VType.TheVariants as types
use Rattle.jvalues.specs.declared.jops.value.Value.{Value}
use Rattle.jclass.specs.declared.class.ClassParts.{ClassParts}
use Rattle.jclass.specs.declared.class.MemberInfo.{MemberInfo}
use Rattle.jresolution.specs.declared.jprogram.member.Member.TheVariants as members
use Rattle.jresolution.specs.declared.jprogram.member.MethodId.{MethodId}
use Rattle.jresolution.specs.declared.jprogram.part.ClassRef.TheVariants as refs
use Rattle.jresolution.specs.jprogram.ProgramClasses.{Program}
use Rattle.jresolution.specs.jprogram.MemberResolution.{desc_of, info_of}
use Rattle.jresolution.specs.declared.juses.meaning.InvokeKind.{InvokeKind}
use Rattle.jresolution.specs.declared.juses.meaning.Span.{Span}
use Rattle.jresolution.specs.declared.juses.types.ArrayRef.{ArrayRef}
use Rattle.jresolution.specs.declared.juses.types.TypeRef.{TypeRef}
use Rattle.jresolution.specs.juses.InstructionMeanings.{CallMeaning, FieldMeaning, Call, Cast, Field, Make, MakeArray, array_meant, meant, spanned}
use Rattle.jresolution.specs.juses.PoolTables.{pool_at}
use Rattle.jresolution.specs.juses.InternedTypes.{array_named, class_named, named}
use Rattle.jresolution.specs.jlayout.FieldLayout as layout
use Rattle.jsemantics.specs.jmachine.Narrowing.{narrowed}
use Rattle.jready.specs.declared.instr.Instr.{Instr}
use Rattle.jready.specs.declared.instr.Instr.TheVariants as instr
use Rattle.jready.specs.declared.instr.Narrow.{Narrow}
use Rattle.jready.specs.declared.instr.Narrow.TheVariants as narrows
use Rattle.jready.specs.declared.instr.ObjectInstr.{ObjectInstr}
use Rattle.jready.specs.declared.instr.ObjectInstr.TheVariants as object
use Rattle.jready.specs.declared.tables.Tables.{Tables}
use Rattle.jready.specs.DecodedInstructions.{call_form}
use Rattle.jready.specs.MethodNumbers.{count_at, methods_before}

-- ---- fields

-- how a cell holds values of a type
abbrev pub cell_of : VType → CellType
cell_of types.Int = cells.Int
cell_of types.Long = cells.Long
cell_of types.Ctx = cells.Ctx
cell_of t = cells.Ref

-- what is left of a value
abbrev pub narrow : {K : Type 0} → Narrow → Value K → Value K
narrow narrows.Boolean v = narrowed (Some elements.Boolean) v
narrow narrows.Byte v = narrowed (Some elements.Byte) v
narrow narrows.Char v = narrowed (Some elements.Char) v
narrow narrows.Short v = narrowed (Some elements.Short) v
narrow narrows.Whole v = v

-- A user's field that is there, where it stands, and what it holds.
pub record HoldsField (p : Program) (f : FieldMeaning) (cell : CellType) (n : Narrow) (s owner : ℕ) : Type 0 where
  pub class : ℕ
  pub field : ℕ
  pub member : f.member ≡ members.Field class field
  pub placed : layout.slot p f.member ≡ Some s
  -- the class by which it is named is the user's of this place, where there is one
  pub owned : owner < length p.parts → f.owner ≡ class_named p (refs.User owner)
  pub celled : cell_of f.held ≡ cell
  pub keeps : (v : Value ℕ) → narrowed (layout.element (desc_of p f.member)) v ≡ narrow n v
  pub parts : ClassParts
  pub info : MemberInfo
  pub there : info_of p f.member ≡ Some (parts, info)
  -- the type by which it is named is its own
  pub held : f.held ≡ layout.field_type p parts info

-- ---- methods

-- A user's method that is there, by its number.
pub record IsNumbered (p : Program) (k : ℕ) (m : MethodId) : Type 0 where
  pub class : m.class < length p.parts
  pub method : m.method < count_at p m.class
  pub number : k ≡ methods_before p m.class + m.method

pub record CallsUser (p : Program) (types : List TypeRef) (c : CallMeaning) (params : Span) (k : ℕ) : Type 0 where
  pub taken : c.params ≡ map (named p) (spanned types params)
  pub method : MethodId
  pub member : c.member ≡ members.Method method
  pub number : IsNumbered p k method

pub record CallsLibrary (p : Program) (types : List TypeRef) (c : CallMeaning) (params : Span) (call : LibCall) : Type 0 where
  pub taken : c.params ≡ map (named p) (spanned types params)
  pub member : c.member ≡ members.LibMethod call

-- ---- arrays

pub record MakesArray (p : Program) (t : Tables) (v : VType) (k : ℕ) : Type 0 where
  pub array : ArrayRef
  pub there : slice_get t.arrays k ≡ Some array
  pub type : v ≡ types.Array (array_named p array)

-- ---- what entries mean

-- The entry at an index means a user's field that is there.
pub record FieldHeld (p : Program) (pool : List Entry) (op : FieldOp) (i : ℕ) (cell : CellType) (n : Narrow) (s owner : ℕ) : Type 0 where
  pub field : FieldMeaning
  pub means : meant p pool (forms.Field op i) ≡ Some (Field op field)
  pub holds : HoldsField p field cell n s owner

-- It means the library's field.
pub record OutHeld (p : Program) (pool : List Entry) (op : FieldOp) (i : ℕ) : Type 0 where
  pub field : FieldMeaning
  pub means : meant p pool (forms.Field op i) ≡ Some (Field op field)
  pub member : field.member ≡ members.LibField

-- It means a user's method that is there.
pub record UserCalled (p : Program) (pool : List Entry) (types : List TypeRef) (way : InvokeKind) (i : ℕ) (params : Span) (k : ℕ) : Type 0 where
  pub call : CallMeaning
  pub means : meant p pool (call_form way i) ≡ Some (Call way call)
  pub calls : CallsUser p types call params k

-- It means a method of the library.
pub record LibraryCalled (p : Program) (pool : List Entry) (types : List TypeRef) (way : InvokeKind) (i : ℕ) (params : Span)
    (lib : LibCall) : Type 0 where
  pub call : CallMeaning
  pub means : meant p pool (call_form way i) ≡ Some (Call way call)
  pub calls : CallsLibrary p types call params lib

-- Arrays of the class at an index are of the type of a number.
pub record ArrayMade (p : Program) (pool : List Entry) (t : Tables) (i k : ℕ) : Type 0 where
  pub type : VType
  pub means : array_meant p pool i ≡ Some (MakeArray type)
  pub makes : MakesArray p t type k

-- ---- all

module _ (p : Program) (known : List TypeRef) (t : Tables) (class : ℕ) where
  abbrev pub ExactObject : ObjectInstr → Type 0
  ExactObject (object.New i c) = meant p (pool_at p class) (forms.New i) ≡ Some (Make (class_named p (refs.User c)))
  ExactObject (object.NewLibrary i c) = meant p (pool_at p class) (forms.New i) ≡ Some (Make (class_named p (refs.Lib c)))
  ExactObject (object.NewArray i k) = ArrayMade p (pool_at p class) t i k
  ExactObject (object.CastClass op i c) = meant p (pool_at p class) (forms.Cast op i) ≡ Some (Cast op (types.Object (class_named p (refs.User c))))
  ExactObject (object.Cast op i) = Unit {0}
  ExactObject (object.Out op i) = OutHeld p (pool_at p class) op i

  -- What it holds is what its entry stands for.
  abbrev pub Exact : Instr → Type 0
  Exact (instr.Object f) = ExactObject f
  Exact (instr.Field op cell n i s owner) = FieldHeld p (pool_at p class) op i cell n s owner
  Exact (instr.Call way i params k) = UserCalled p (pool_at p class) known way i params k
  Exact (instr.Library way i params call) = LibraryCalled p (pool_at p class) known way i params call
  Exact i = Unit {0}
