-- What linking says of a field that an instruction names.
use Rattle.std.proofs.Common.{◌≡◌, ◌∙◌, inl, inr, ℕ, ℤ, zero, suc, length, ◌||◌, ◌&&◌, Bool, true, false, not, List, [], ◌∷◌, Option, Some, None, refl, sym, ap, subst}
use Rattle.std.specs.Prelude.{is_some, option_and_then, option_map, slice_get, ◌==◌, if◌then◌else◌}
use Rattle.std.specs.List.{AllByRecursion, flat_map, list_any, position}
use Rattle.std.specs.Str.{byte, bytes_eq}
use Rattle.std.proofs.lemmas.Bool.{or_parts}
use Rattle.std.proofs.lemmas.Option.{slice_get-map}
use Rattle.jground.specs.jbase.FirstFaults.{fault_if, first_some, or_else}
use Rattle.jground.proofs.JbaseProofs.Firsts.{none_of}
use Rattle.jparts.specs.declared.jpool.descriptor.Descriptor.{Descriptor}
use Rattle.jparts.specs.declared.jpool.descriptor.Descriptor.TheVariants as descriptors
use Rattle.jparts.specs.declared.jpool.descriptor.FieldType.{FieldType}
use Rattle.jparts.specs.declared.jpool.entry.Entry.{Entry}
use Rattle.jparts.specs.declared.jpool.entry.Entry.TheVariants as entries
use Rattle.jparts.specs.jpool.Descriptors.{descriptor_of}
use Rattle.jparts.specs.jpool.ConstantPools.{name_and_type_at, utf8_at}
use Rattle.jparts.specs.declared.jcode.op_form.ArrayForm.{ArrayForm}
use Rattle.jparts.specs.declared.jcode.op_form.ArrayForm.TheVariants as arrays
use Rattle.jparts.specs.declared.jcode.op_form.Flow.{Flow}
use Rattle.jparts.specs.declared.jcode.op_form.Flow.TheVariants as flows
use Rattle.jparts.specs.declared.jcode.op_form.OpForm.{OpForm}
use Rattle.jparts.specs.declared.jcode.op_form.OpForm.TheVariants as forms
use Rattle.jparts.specs.declared.jcode.op_form.PoolForm.{PoolForm}
use Rattle.jparts.specs.declared.jcode.op_form.PoolForm.TheVariants as pool
use Rattle.jparts.specs.declared.jcode.names.FieldOp.{FieldOp}
use Rattle.jparts.specs.declared.jcode.op.Placed.{Placed}
use Rattle.jparts.specs.declared.jcode.op.Switch.{Switch as SwitchOp}
use Rattle.jparts.specs.jcode.InstructionForms.{form}
use Rattle.jclass.specs.declared.class.ClassParts.{ClassParts}
use Rattle.jclass.specs.declared.class.CodeBody.{CodeBody}
use Rattle.jclass.specs.declared.class.MemberInfo.{MemberInfo}
use Rattle.jclass.specs.FileContents.{IsIn}
use Rattle.jtypes.specs.declared.vtype.Element.{Element}
use Rattle.jtypes.specs.declared.vtype.Element.TheVariants as elements
use Rattle.jtypes.specs.declared.vtype.Name.{Name}
use Rattle.jtypes.specs.declared.vtype.VType.{VType}
use Rattle.jtypes.specs.declared.vtype.VType.TheVariants as types
use Rattle.jtypes.specs.DescriptorElements.{element_of, in_brackets}
use Rattle.jlib.specs.declared.calls.LibCall.{LibCall}
use Rattle.jlib.specs.declared.classes.LibClass.TheVariants as lib
use Rattle.jlib.specs.LibraryMembers as library_calls
use Rattle.jlib.specs.LibraryClasses as library
use Rattle.jresolution.specs.jprogram.UnsupportedTypes.{context}
use Rattle.jresolution.specs.declared.jprogram.fault.LinkKind.TheVariants.{BadUse, LeftOut}
use Rattle.jresolution.specs.declared.jprogram.member.Member.{Member}
use Rattle.jresolution.specs.declared.jprogram.member.Member.TheVariants.{Field, LibField}
use Rattle.jresolution.specs.declared.jprogram.member.MethodId.{MethodId}
use Rattle.jresolution.specs.declared.jprogram.part.ClassRef.TheVariants as refs
use Rattle.jresolution.specs.declared.jprogram.part.CodePart.{CodePart}
use Rattle.jresolution.specs.jprogram.ClassFileParts as parts
use Rattle.jresolution.specs.jprogram.ClassFileParts.{is_called, this_name}
use Rattle.jresolution.specs.jprogram.ProgramClasses.{Lib, Program, User, extends, face_names, find, holds, is_interface, known, name_at, object, over, superinterfaces, up, named as named_class}
use Rattle.jresolution.specs.jprogram.MemberResolution.{field_at, field_in, init, is_static, lib_field, looked_up, part_of, resolve_field, user_is}
use Rattle.jresolution.specs.jprogram.OrderedPrograms.{StandsInOrder}
use Rattle.jresolution.proofs.JprogramProofs.SuperclassOrder.{interfaces_extend, object_find}
use Rattle.jresolution.proofs.JprogramProofs.ImplementedInterfaces.{faces_are}
use Rattle.jresolution.proofs.JprogramProofs.NameReachability.{name_equal, or_right}
use Rattle.jresolution.proofs.JprogramProofs.ClassHeights.{Stands, Users, Libs, Nowhere, all_append, stands}
use Rattle.jresolution.specs.juses.IndexedInstructions.{Instruction, Jump, Switch, Test, Used, If, IfInt, IfRef, Always, body_in, by_form, cases, code_at, default, flow, instruction, instruction_at, instruction_in, jump, switch, target}
use Rattle.jresolution.specs.ProofNames.{array, array_made, class_meant, held, made}
use Rattle.jresolution.specs.juses.InstructionMeanings as meanings
use Rattle.jresolution.specs.juses.InstructionMeanings.{AClass, AConstant, AField, AMethod, EntryMeaning, FieldMeaning, Meaning, array_meant, entry_meant, field_as, field_entry, field_meant, meant, method_entry, reference, used}
use Rattle.jresolution.specs.juses.DescriptorTypes as says
use Rattle.jresolution.specs.juses.DescriptorTypes.{Called, Held, Typed, Untyped, array_over, called, class_type, element_in, name, there, type_in, type_of, typed, typed_as}
use Rattle.jlinking.specs.declared.jreferring.judged.MemberFacts.{MemberFacts}
use Rattle.jlinking.specs.declared.jreferring.judged.MemberUse.{MemberUse}
use Rattle.jlinking.specs.declared.jreferring.judged.Sort.TheVariants as sort
use Rattle.jlinking.specs.jreferring.PoolEntryMeanings as judging
use Rattle.jlinking.specs.jreferring.PoolEntryMeanings.{judge, judge_pool}
use Rattle.jlinking.specs.jreferring.ClassNameAccess.{is_array, type_named}
use Rattle.jlinking.specs.jreferring.ReferenceUses as tests
use Rattle.jlinking.specs.jreferring.ReferenceUses.{access_test, differs, facts_of, field_member_test, is_enter, misplaces_context, puts, takes_static}
use Rattle.jlinking.specs.jreferring.CodeUnits.{form_test, member_at, or_no_member}
use Rattle.jlinking.specs.ProofNames.{member_in}
use Rattle.jlinking.specs.jlink.NamedFields.{IsNamedField, is_plain}
use Rattle.jlinking.specs.jlink.LinkedPrograms.{Links}
use Rattle.jlinking.specs.jlink.ClassOrder.{in_order}
use Rattle.jlinking.proofs.JlinkProofs.CodeMeanings.{IsCoded, at_code, coded}
use Rattle.jlinking.proofs.JlinkProofs.MemberDescriptors.{field_placed}
use Rattle.jlinking.proofs.JlinkProofs.PresentValues.{first_in, map_is, then_is}
use Rattle.jlinking.proofs.JlinkProofs.MethodSelection.{first_called}
use Rattle.jlinking.proofs.JlinkProofs.ResolvedReferences.{class_none, code_none, op_form_none, op_none, third_none}
use Rattle.jlinking.proofs.JlinkProofs.DescriptorTypes.{no_fault}

-- ---- the entry

-- what a reference says of a field
record IsField (owner : List ℕ) (o : Option Member) (t : Typed) (f : FieldMeaning) : Type 0 where
  found : o ≡ Some f.member
  says : t ≡ Held f.held
  owned : f.owner ≡ name owner

field_is : (owner : List ℕ) (o : Option Member) (t : Typed) (f : FieldMeaning) → field_as (name owner) o t ≡ Some f → IsField owner o t f
field_is owner None t f e = absurd cc
field_is owner (Some m) Untyped f e = absurd cc
field_is owner (Some m) (Called params ret) f e = absurd cc
field_is owner (Some m) (Held t) f e =
    let made_of : FieldMeaning = record { owner = name owner; held = t; member = m } in
    let same : made_of ≡ f = cc in
    subst (IsField owner (Some m) (Held t)) same (record { found = refl; says = refl; owned = refl })

-- an entry that stands for a field is one
record IsFieldEntry (p : Program) (es : List Entry) (e : Option Entry) (f : FieldMeaning) : Type 0 where
  class : ℕ
  both : ℕ
  is : e ≡ Some (entries.Field class both)
  named : ℕ × ℕ
  at : name_and_type_at es both ≡ Some named
  means : field_meant p (reference es class named) ≡ Some f

mapped_apart : {A : Type 0} (make : A → EntryMeaning) (f : FieldMeaning) → ((a : A) → make a ≡ AField f → ⊥) → (o : Option A) → option_map make o ≡ Some (AField f) → ⊥
mapped_apart make f never o e = let r = map_is make o (AField f) e in never r.0 r.2

class_apart : (p : Program) (t : Option (List ℕ)) (f : FieldMeaning) → class_meant p t ≡ Some (AField f) → ⊥
class_apart p t f e = mapped_apart AClass f (λ a h. cc) (option_and_then (class_type p) t) e

method_apart : (p : Program) (es : List Entry) (class : ℕ) (o : Option (ℕ × ℕ)) (f : FieldMeaning) → option_and_then (λ b. method_entry p (reference es class b)) o ≡ Some (AField f) → ⊥
method_apart p es class o f e =
    let b = then_is (λ b. method_entry p (reference es class b)) o (AField f) e in
    mapped_apart (AMethod (bytes_eq (reference es class b.0).name init)) f (λ a h. cc) (meanings.call_meant p (reference es class b.0)) b.2

entry_is : (p : Program) (es : List Entry) (e : Option Entry) (f : FieldMeaning) → entry_meant p es e ≡ Some (AField f) → IsFieldEntry p es e f
unfolding entry_meant
entry_is p es None f h = absurd cc
entry_is p es (Some entries.Unused) f h = absurd cc
entry_is p es (Some (entries.Utf8 a)) f h = absurd cc
entry_is p es (Some (entries.Integer a)) f h = absurd cc
entry_is p es (Some (entries.Float a)) f h = absurd cc
entry_is p es (Some (entries.Long a)) f h = absurd cc
entry_is p es (Some (entries.Double a)) f h = absurd cc
entry_is p es (Some (entries.Class a)) f h = absurd (class_apart p (utf8_at es a) f h)
entry_is p es (Some (entries.Str a)) f h = absurd cc
entry_is p es (Some (entries.NameAndType a b)) f h = absurd cc
entry_is p es (Some (entries.MethodHandle a b)) f h = absurd cc
entry_is p es (Some (entries.MethodType a)) f h = absurd cc
entry_is p es (Some (entries.InvokeDynamic a b)) f h = absurd cc
entry_is p es (Some (entries.Method class both)) f h = absurd (method_apart p es class (name_and_type_at es both) f h)
entry_is p es (Some (entries.InterfaceMethod class both)) f h = absurd (method_apart p es class (name_and_type_at es both) f h)
entry_is p es (Some (entries.Field class both)) f h =
    let b = then_is (λ b. field_entry p (reference es class b)) (name_and_type_at es both) (AField f) h in
    let g = map_is AField (field_meant p (reference es class b.0)) (AField f) b.2 in
    let is : AField g.0 ≡ AField f = g.2 in
    let same : g.0 ≡ f = cc in
    record { class = class; both = both; is = refl; named = b.0; at = b.1; means = g.1 ∙ ap (λ (x : FieldMeaning). Some x) same }

-- ---- the instruction

jump_apart : (body : List Placed) (at : ℕ) (test : Test) (by : ℤ) (m : Meaning) → jump body at test by ≡ Some (Used m) → ⊥
jump_apart body at test by m e =
    let r = map_is (Jump test) (target body at by) (Used m) e in
    let is : Jump test r.0 ≡ Used m = r.2 in
    cc

switch_apart : (body : List Placed) (at : ℕ) (s : SwitchOp) (m : Meaning) → switch body at s ≡ Some (Used m) → ⊥
switch_apart body at s m e =
    let found = then_is (λ f. option_map (Switch f) (target body at (default s))) (cases body at s) (Used m) e in
    let r = map_is (Switch found.0) (target body at (default s)) (Used m) found.2 in
    let is : Switch found.0 r.0 ≡ Used m = r.2 in
    cc

pub flow_apart : (body : List Placed) (at : ℕ) (f : Flow SwitchOp) (m : Meaning) → flow body at f ≡ Some (Used m) → ⊥
flow_apart body at (flows.If test by) m e = jump_apart body at (If test) by m e
flow_apart body at (flows.IfInt test by) m e = jump_apart body at (IfInt test) by m e
flow_apart body at (flows.IfRef test by) m e = jump_apart body at (IfRef test) by m e
flow_apart body at (flows.Goto by) m e = jump_apart body at Always by m e
flow_apart body at (flows.Switch s) m e = switch_apart body at s m e
flow_apart body at (flows.Return kind) m e = cc
flow_apart body at flows.Throw m e = cc

module _ (op : FieldOp) (f : FieldMeaning) where
  abbrev field : Meaning
  field = meanings.Field op f

  made_apart : (t : VType) → made (AClass t) ≡ Some field → ⊥
  made_apart types.Top e = cc
  made_apart types.Int e = cc
  made_apart types.Long e = cc
  made_apart types.Null e = cc
  made_apart types.UninitThis e = cc
  made_apart (types.Uninit o) e = cc
  made_apart (types.Object c) e = cc
  made_apart (types.Array a) e = cc
  made_apart types.Ctx e = cc

  row_apart : (x : EntryMeaning) → array_made x ≡ Some field → ⊥
  row_apart (AConstant c) e = cc
  row_apart (AField g) e = cc
  row_apart (AMethod init c) e = cc
  row_apart (AClass t) e =
      let r = map_is meanings.MakeArray (array_over t) field e in
      let is : meanings.MakeArray r.0 ≡ field = r.2 in
      cc

  array_apart : (p : Program) (es : List Entry) (g : ArrayForm) → array p es g ≡ Some (Used field) → ⊥
  unfolding array_meant
  array_apart p es (arrays.New kind) e = cc
  array_apart p es (arrays.Load kind) e = cc
  array_apart p es (arrays.Store kind) e = cc
  array_apart p es arrays.Length e = cc
  array_apart p es (arrays.NewRef i) e =
      let r = map_is Used (array_meant p es i) (Used field) e in
      let is : Used r.0 ≡ Used field = r.2 in
      let same : r.0 ≡ field = cc in
      let x = then_is array_made (entry_meant p es (slice_get es i)) field (r.1 ∙ ap (λ (m : Meaning). Some m) same) in
      row_apart x.0 x.2

  -- the form of an instruction that names a field
  record IsFieldForm (g : PoolForm) (x : EntryMeaning) : Type 0 where
    n : ℕ
    form_is : g ≡ pool.Field op n
    entry : x ≡ AField f

  pool_is : (g : PoolForm) (x : EntryMeaning) → used g x ≡ Some field → IsFieldForm g x
  pool_is (pool.Field o n) (AField g) e =
      let first : o ≡ op = cc in
      let second : g ≡ f = cc in
      record { n = n; form_is = ap (λ (x : FieldOp). pool.Field x n) first; entry = ap AField second }
  pool_is (pool.Field o n) (AConstant c) e = absurd cc
  pool_is (pool.Field o n) (AClass t) e = absurd cc
  pool_is (pool.Field o n) (AMethod init c) e = absurd cc
  pool_is (pool.Constant n) (AConstant (meanings.Int i)) e = absurd cc
  pool_is (pool.Constant n) (AConstant (meanings.Long i)) e = absurd cc
  pool_is (pool.Constant n) (AConstant (meanings.Text t)) e = absurd cc
  pool_is (pool.Constant n) (AClass t) e = absurd cc
  pool_is (pool.Constant n) (AField g) e = absurd cc
  pool_is (pool.Constant n) (AMethod init c) e = absurd cc
  pool_is (pool.LongConstant n) (AConstant (meanings.Int i)) e = absurd cc
  pool_is (pool.LongConstant n) (AConstant (meanings.Long i)) e = absurd cc
  pool_is (pool.LongConstant n) (AConstant (meanings.Text t)) e = absurd cc
  pool_is (pool.LongConstant n) (AClass t) e = absurd cc
  pool_is (pool.LongConstant n) (AField g) e = absurd cc
  pool_is (pool.LongConstant n) (AMethod init c) e = absurd cc
  pool_is (pool.Call o n) (AConstant c) e = absurd cc
  pool_is (pool.Call o n) (AClass t) e = absurd cc
  pool_is (pool.Call o n) (AField g) e = absurd cc
  pool_is (pool.Call o n) (AMethod init c) e = absurd cc
  pool_is (pool.CallInterface n slots) (AConstant c) e = absurd cc
  pool_is (pool.CallInterface n slots) (AClass t) e = absurd cc
  pool_is (pool.CallInterface n slots) (AField g) e = absurd cc
  pool_is (pool.CallInterface n slots) (AMethod init c) e = absurd cc
  pool_is (pool.New n) (AConstant c) e = absurd cc
  pool_is (pool.New n) (AClass t) e = absurd (made_apart t e)
  pool_is (pool.New n) (AField g) e = absurd cc
  pool_is (pool.New n) (AMethod init c) e = absurd cc
  pool_is (pool.Cast o n) (AConstant c) e = absurd cc
  pool_is (pool.Cast o n) (AClass t) e = absurd cc
  pool_is (pool.Cast o n) (AField g) e = absurd cc
  pool_is (pool.Cast o n) (AMethod init c) e = absurd cc

  record IsFieldAt (p : Program) (es : List Entry) (g : OpForm SwitchOp) : Type 0 where
    n : ℕ
    is : g ≡ forms.Pool (pool.Field op n)
    entry : IsFieldEntry p es (slice_get es n) f

  pool_at_is : (p : Program) (es : List Entry) (g : PoolForm) → meant p es g ≡ Some field → IsFieldAt p es (forms.Pool g)
  unfolding meant
  pool_at_is p es g e =
      let x = then_is (used g) (entry_meant p es (slice_get es (meanings.index_of g))) field e in
      let r = pool_is g x.0 x.2 in
      let at : entry_meant p es (slice_get es r.n) ≡ Some (AField f) =
      ap (λ (h : PoolForm). entry_meant p es (slice_get es (meanings.index_of h))) (sym r.form_is) ∙ x.1 ∙ ap (λ (y : EntryMeaning). Some y) r.entry in
      record { n = r.n; is = ap (λ (h : PoolForm). forms.Pool h) r.form_is; entry = entry_is p es (slice_get es r.n) f at }

  form_is : (p : Program) (es : List Entry) (body : List Placed) (at : ℕ) (g : OpForm SwitchOp) → by_form p es body at g ≡ Some (Used field) → IsFieldAt p es g
  form_is p es body at (forms.Simple g) e = absurd cc
  form_is p es body at (forms.Local g) e = absurd cc
  form_is p es body at (forms.Stack g) e = absurd cc
  form_is p es body at (forms.Flow g) e = absurd (flow_apart body at g field e)
  form_is p es body at (forms.Array g) e = absurd (array_apart p es g e)
  form_is p es body at (forms.Pool g) e =
      let r = map_is Used (meant p es g) (Used field) e in
      let is : Used r.0 ≡ Used field = r.2 in
      let same : r.0 ≡ field = cc in
      pool_at_is p es g (r.1 ∙ ap (λ (m : Meaning). Some m) same)

-- ---- its type

called_apart : (a : Option (List VType)) (b : Option (Option VType)) (t : VType) → called a b ≡ Held t → ⊥
called_apart None b t e = cc
called_apart (Some params) None t e = cc
called_apart (Some params) (Some ret) t e = cc

held_type : (o : Option VType) (t : VType) → held o ≡ Held t → o ≡ Some t
held_type None t e = absurd cc
held_type (Some u) t e = let same : u ≡ t = cc in ap (λ (x : VType). Some x) same

pick : (b : Bool) (y : Element) (o : Option Element) (x : Element) → says.is_context y ≡ false → (o ≡ Some x → says.is_context x ≡ false) → (if b then Some y else o) ≡ Some x → says.is_context x ≡ false
pick true y o x first rest e = let same : y ≡ x = cc in ap says.is_context (sym same) ∙ first
pick false y o x first rest e = rest e

letter_plain : (letter : ℕ) (class : List ℕ) (x : Element) → bytes_eq class context ≡ false → element_of letter (name class) ≡ Some x → says.is_context x ≡ false
letter_plain letter class x clear =
    pick (letter == byte "Z") elements.Boolean _ x refl
    (pick (letter == byte "C") elements.Char _ x refl
    (pick (letter == byte "B") elements.Byte _ x refl
    (pick (letter == byte "S") elements.Short _ x refl
    (pick (letter == byte "I") elements.Int _ x refl
    (pick (letter == byte "J") elements.Long _ x refl
    (pick (letter == byte "L") (elements.Class (name class)) None x clear (λ e. absurd (cc))))))))

there_is : (p : Program) (class : List ℕ) (c : Name) (b : Bool) → (if b then Some (name class) else None) ≡ Some c → name class ≡ c
there_is p class c true e = cc
there_is p class c false e = absurd cc

element_plain : (p : Program) (t : FieldType) (x : Element) → bytes_eq t.class context ≡ false → element_in p t ≡ Some x → says.is_context x ≡ false
element_plain p t x clear e = by (t.base == byte "L") e
  where
    by : (b : Bool) → (if b then option_map elements.Class (there p t.class) else element_of t.base (name t.class)) ≡ Some x → says.is_context x ≡ false
    by true e =
        let c = map_is elements.Class (there p t.class) x e in
        let same : name t.class ≡ c.0 = there_is p t.class c.0 (is_some (find p t.class)) c.1 in
        ap says.is_context (sym c.2) ∙ ap (λ (n : Name). bytes_eq n.0 context) (sym same) ∙ clear
    by false e = letter_plain t.base t.class x clear e

pub alone_plain : (depth : ℕ) (x : Element) → is_plain (in_brackets depth x) ≡ true
alone_plain zero elements.Boolean = refl
alone_plain zero elements.Char = refl
alone_plain zero elements.Byte = refl
alone_plain zero elements.Short = refl
alone_plain zero elements.Int = refl
alone_plain zero elements.Long = refl
alone_plain zero (elements.Class c) = refl
alone_plain (suc depth) x = refl

type_plain : (depth : ℕ) (x : Element) → says.is_context x ≡ false → is_plain (type_of depth x) ≡ true
type_plain depth x clear = by (depth == 0) (says.is_context x) clear
  where
    by : (b c : Bool) → c ≡ false → is_plain (if b && c then types.Ctx else in_brackets depth x) ≡ true
    by true true e = absurd cc
    by true false e = alone_plain depth x
    by false c e = alone_plain depth x

-- a type that a descriptor names is plain, where its class isn't that of contexts
pub named_plain : (p : Program) (t : FieldType) (y : VType) → bytes_eq t.class context ≡ false → type_in p t ≡ Some y → is_plain y ≡ true
unfolding type_in
named_plain p t y clear e =
    let x = map_is (type_of t.depth) (element_in p t) y e in
    ap is_plain (sym x.2) ∙ type_plain t.depth x.0 (element_plain p t x.0 clear x.1)

held_plain : (p : Program) (enter : Bool) (d : Option Descriptor) (t : VType) → misplaces_context enter d ≡ false → typed_as p d ≡ Held t → is_plain t ≡ true
held_plain p enter None t clear e = absurd cc
held_plain p enter (Some (descriptors.Method params ret)) t clear e = absurd (called_apart _ _ t e)
held_plain p enter (Some (descriptors.Field ft)) t clear e = named_plain p ft t clear (held_type (type_in p ft) t e)

-- ---- the tests of its use

pub differs_not : (a b : Bool) → differs a b ≡ false → b ≡ a
differs_not true true e = refl
differs_not true false e = absurd cc
differs_not false true e = absurd cc
differs_not false false e = refl

member_static : (op : FieldOp) (o : Option MemberFacts) (m : MemberFacts) → o ≡ Some m → field_member_test op o ≡ None → m.is_static ≡ takes_static op
member_static op o m is e =
    let none : field_member_test op (Some m) ≡ None = sym (ap (field_member_test op) is) ∙ e in
    let last = (none_of (access_test (puts op) m) (fault_if (differs (takes_static op) m.is_static) BadUse) none).1 in
    differs_not (takes_static op) m.is_static (no_fault (differs (takes_static op) m.is_static) BadUse last)

module _ (p : Program) (c : ClassParts) (op : FieldOp) (f : FieldMeaning) (n : ℕ) (r : IsFieldEntry p c.pool (slice_get c.pool n) f) where
  abbrev from : List ℕ
  from = this_name c

  abbrev ref : meanings.Reference
  ref = reference c.pool r.class r.named

  abbrev use_of : MemberUse
  use_of = judging.reference p from c.pool sort.Field r.class r.both

  reference_says : IsField ref.owner (resolve_field p ref.owner ref.name ref.desc) (typed p ref.desc) f
  unfolding field_meant
  reference_says = field_is ref.owner (resolve_field p ref.owner ref.name ref.desc) (typed p ref.desc) f r.means

  tested : (g : OpForm SwitchOp) → g ≡ forms.Pool (pool.Field op n) → form_test (judge_pool p c) g ≡ None → tests.field_test op use_of ≡ None
  unfolding judge
  tested g is none =
      let at : member_at (judge_pool p c) n ≡ Some use_of =
      ap member_in (slice_get-map (judge p from c.pool) c.pool n) ∙ ap (λ (e : Option Entry). member_in (option_map (judge p from c.pool) e)) r.is in
      sym (ap (or_no_member (tests.field_test op)) at) ∙ sym (ap (form_test (judge_pool p c)) is) ∙ none

  member_is : use_of.member ≡ Some (facts_of p from f.member)
  unfolding judging.reference
  member_is =
      ap (λ (o : Option (ℕ × ℕ)). option_map (facts_of p from) (option_and_then (looked_up c.pool r.class (resolve_field p)) o)) r.at
      ∙ ap (option_map (facts_of p from)) reference_says.found

  -- static where one is taken
  static_is : tests.field_test op use_of ≡ None → is_static p f.member ≡ takes_static op
  static_is none =
      member_static op use_of.member (facts_of p from f.member) member_is
      (third_none use_of.names (fault_if use_of.barred LeftOut) (field_member_test op use_of.member) none)

  abbrev enters : Bool
  enters = is_enter ref.owner ref.name ref.desc

  barred_is : use_of.barred ≡ (is_array (type_named ref.owner) || misplaces_context enters (descriptor_of ref.desc))
  unfolding judging.reference
  barred_is = ap (λ (o : Option (ℕ × ℕ)). is_array (type_named ref.owner)
      || misplaces_context (is_enter ref.owner (judging.name_in c.pool o) (judging.desc_in c.pool o)) (descriptor_of (judging.desc_in c.pool o))) r.at

  plain_is : tests.field_test op use_of ≡ None → is_plain f.held ≡ true
  unfolding typed
  plain_is none =
      let rest = (none_of use_of.names (or_else (fault_if use_of.barred LeftOut) (field_member_test op use_of.member)) none).1 in
      let barred = no_fault use_of.barred LeftOut ((none_of (fault_if use_of.barred LeftOut) (field_member_test op use_of.member) rest).0) in
      let context = (or_parts (is_array (type_named ref.owner)) (misplaces_context enters (descriptor_of ref.desc)) (sym barred_is ∙ barred)).1 in
      held_plain p enters (descriptor_of ref.desc) f.held context reference_says.says

-- ---- the class that declares it

-- the class of a name declares a field
record IsDeclared (p : Program) (x : List ℕ) (i j : ℕ) : Type 0 where
  part : CodePart
  stand : slice_get p.parts i ≡ Some part
  own : this_name part.class ≡ x
  found : find p x ≡ Some (User i part.class)
  info : MemberInfo
  at : slice_get part.class.fields j ≡ Some info

library_apart : (o : Option LibCall) (i j : ℕ) → option_and_then lib_field o ≡ Some (Field i j) → ⊥
library_apart o i j e =
    let m = then_is lib_field o (Field i j) e in
    by (library_calls.is_field m.0) m.2
  where
    by : (b : Bool) → (if b then Some LibField else None) ≡ Some (Field i j) → ⊥
    by true h = cc
    by false h = cc

declared_at : (p : Program) (called_name desc x : List ℕ) (i j : ℕ) → field_at p called_name desc x ≡ Some (Field i j) → IsDeclared p x i j
declared_at p called_name desc x i j e = by (stands p x)
  where
    by : Stands p x → IsDeclared p x i j
    by (Users k part at own is) =
        let here : option_map (λ j. Field k j) (position (is_called part.class called_name desc) part.class.fields) ≡ Some (Field i j) =
        sym (ap (option_and_then (λ c. field_in p.side c called_name desc)) is) ∙ e in
        let r = map_is (λ j. Field k j) (position (is_called part.class called_name desc) part.class.fields) (Field i j) here in
        let is_one : Field k r.0 ≡ Field i j = r.2 in
        let class : k ≡ i = cc in
        let place : r.0 ≡ j = cc in
        let m = first_called part.class called_name desc part.class.fields r.0 r.1 in
        record {
          part = part;
          stand = ap (slice_get p.parts) (sym class) ∙ at;
          own = own;
          found = is ∙ ap (λ (n : ℕ). Some (User n part.class)) class;
          info = m.0;
          at = ap (slice_get part.class.fields) (sym place) ∙ m.1;
        }
    by (Libs l named is) = absurd (library_apart (library_calls.member_named p.side (library.name_of l) called_name desc) i j
        (sym (ap (option_and_then (λ c. field_in p.side c called_name desc)) is) ∙ e))
    by (Nowhere none) =
        let never : None ≡ Some (Field i j) = sym (ap (option_and_then (λ c. field_in p.side c called_name desc)) none) ∙ e in
        absurd cc

and_not : (a b : Bool) → (a && not b) ≡ false → b ≡ false → a ≡ false
and_not true true e h = absurd cc
and_not true false e h = absurd cc
and_not false b e h = refl

both_ways : {P : Type 0} (b : Bool) → b ≡ true → b ≡ false → P
both_ways true is isnt = absurd cc
both_ways false is isnt = absurd cc

module _ (p : Program) (links : Links p) where
  abbrev good : StandsInOrder p
  good = in_order p links

  abbrev IsFace : List ℕ → Type 0
  IsFace x = holds is_interface (find p x) ≡ true

  -- no interface declares a field of objects
  not_face : (x : List ℕ) (i j : ℕ) → IsDeclared p x i j → is_static p (Field i j) ≡ false → holds is_interface (find p x) ≡ false
  unfolding is_static
  not_face x i j d static =
      let flag : parts.is_static d.info.flags ≡ false =
      sym (ap (λ (o : Option ClassParts). user_is (λ one. parts.is_static one.flags) (option_and_then (λ c. option_map (λ m. (c, m)) (slice_get c.fields j)) o))
      (ap (option_map (λ part. part.class)) d.stand)
      ∙ ap (λ (o : Option MemberInfo). user_is (λ one. parts.is_static one.flags) (option_map (λ m. (d.part.class, m)) o)) d.at) ∙ static in
      let out : (parts.is_interface d.part.class.flags && not (parts.is_static d.info.flags)) ≡ false = field_placed p links i d.part j d.info d.stand d.at in
      ap (holds is_interface) d.found ∙ and_not (parts.is_interface d.part.class.flags) (parts.is_static d.info.flags) out flag

  -- ---- what stands over a class are interfaces

  faces_along : (f : List ℕ → List (List ℕ)) → ((x : List ℕ) → AllByRecursion IsFace (f x)) → (xs : List (List ℕ)) → AllByRecursion IsFace xs → AllByRecursion IsFace (flat_map (λ x. x ∷ f x) xs)
  faces_along f each [] all = tt
  faces_along f each (x ∷ xs) all = all_append IsFace (x ∷ f x) (flat_map (λ x. x ∷ f x) xs) (all.0, each x) (faces_along f each xs all.1)

  faces_over : (n : ℕ) (names : List (List ℕ)) → AllByRecursion IsFace names → AllByRecursion IsFace (over p n names)
  unfolding over
  faces_over zero names all = tt
  faces_over (suc n) names all = faces_along (λ x. over p n (face_names p x)) (λ x. faces_over n (face_names p x) (faces_are p good x)) names all

  one_of : (P : List ℕ → Type 0) (xs : List (List ℕ)) (x : List ℕ) → AllByRecursion P xs → IsIn x xs → P x
  one_of P [] x all (k, at) = absurd cc
  one_of P (y ∷ xs) x all (zero, at) = let same : y ≡ x = cc in subst P same all.0
  one_of P (y ∷ xs) x all (suc k, at) = one_of P xs x all.1 (k, at)

  any_in : (xs : List (List ℕ)) (x : List ℕ) → IsIn x xs → list_any (bytes_eq x) xs ≡ true
  any_in [] x (k, at) = absurd cc
  any_in (y ∷ xs) x (zero, at) =
      let same : y ≡ x = cc in
      ap (λ (z : List ℕ). bytes_eq x z || list_any (bytes_eq x) xs) same ∙ ap (λ (b : Bool). b || list_any (bytes_eq x) xs) (name_equal x)
  any_in (y ∷ xs) x (suc k, at) = or_right (bytes_eq x y) (list_any (bytes_eq x) xs) (any_in xs x (k, at))

  extends_in : (owner x : List ℕ) → IsIn x (up p owner) → extends p owner x ≡ true
  unfolding extends
  extends_in owner x at = or_right (bytes_eq x object) (list_any (bytes_eq x) (up p owner)) (any_in (up p owner) x at)

  -- ---- the class by which it is named

  either : {A P : Type 0} (a b : Option A) (x : A) → or_else a b ≡ Some x → (a ≡ Some x → P) → (b ≡ Some x → P) → P
  either None b x e one two = two e
  either (Some y) b x e one two = one e

  record IsOwned (owner : List ℕ) (i j : ℕ) : Type 0 where
    x : List ℕ
    at : IsIn x (up p owner)
    declared : IsDeclared p x i j

  owned_at : (owner called_name desc : List ℕ) (i j : ℕ) → resolve_field p owner called_name desc ≡ Some (Field i j) → is_static p (Field i j) ≡ false → IsOwned owner i j
  unfolding resolve_field
  owned_at owner called_name desc i j e static =
      let r = first_in (λ x. or_else (field_at p called_name desc x) (first_some (field_at p called_name desc) (superinterfaces p x))) (up p owner) (Field i j) e in
      either (field_at p called_name desc r.0) (first_some (field_at p called_name desc) (superinterfaces p r.0)) (Field i j) r.2
      (λ own. record { x = r.0; at = r.1; declared = declared_at p called_name desc r.0 i j own })
      (λ above. over_face r.0 above)
    where
      over_face : (x : List ℕ) → first_some (field_at p called_name desc) (superinterfaces p x) ≡ Some (Field i j) → IsOwned owner i j
      over_face x above =
          let s = first_in (field_at p called_name desc) (superinterfaces p x) (Field i j) above in
          let face = one_of IsFace (superinterfaces p x) s.0 (faces_over (length (known p)) (face_names p x) (faces_are p good x)) s.1 in
          both_ways (holds is_interface (find p s.0)) face (not_face s.0 i j (declared_at p called_name desc s.0 i j s.2) static)

  not_object : (i j : ℕ) → IsDeclared p object i j → ⊥
  not_object i j d =
      let never : Some (User i d.part.class) ≡ Some (Lib lib.Object) = sym d.found ∙ object_find p good in
      cc

  class_is : (owner : List ℕ) (i j : ℕ) → is_static p (Field i j) ≡ false → IsOwned owner i j → holds is_interface (find p owner) ≡ false
  class_is owner i j static o = by (holds is_interface (find p owner)) refl
    where
      never : (h : holds is_interface (find p owner) ≡ true) → ⊥
      never h = elim (interfaces_extend p good (name owner) (name o.x) h (extends_in owner o.x o.at)) [
        | inl face ↦ both_ways (holds is_interface (find p o.x)) face (not_face o.x i j o.declared static)
        | inr top ↦ not_object i j (subst (λ (y : List ℕ). IsDeclared p y i j) top o.declared)
      ]

      by : (b : Bool) → holds is_interface (find p owner) ≡ b → b ≡ false
      by true h = absurd (never h)
      by false h = refl

  name_is : (owner : List ℕ) (i j : ℕ) → (o : IsOwned owner i j) → name_at p (refs.User i) ≡ o.x
  name_is owner i j o = ap (λ (q : Option CodePart). named_class (option_map (λ part. User i part.class) q)) o.declared.stand ∙ o.declared.own

  owned_is : (owner : List ℕ) (i j : ℕ) → IsOwned owner i j → extends p owner (name_at p (refs.User i)) ≡ true
  owned_is owner i j o = ap (extends p owner) (name_is owner i j o) ∙ extends_in owner o.x o.at

  declares_is : (owner : List ℕ) (i j : ℕ) → is_static p (Field i j) ≡ false → IsOwned owner i j → holds is_interface (find p (name_at p (refs.User i))) ≡ false
  declares_is owner i j static o = ap (λ (x : List ℕ). holds is_interface (find p x)) (name_is owner i j o) ∙ not_face o.x i j o.declared static

  -- ---- all

  field_owned : (c : ClassParts) (op : FieldOp) (f : FieldMeaning) (n : ℕ) (r : IsFieldEntry p c.pool (slice_get c.pool n) f) (i j : ℕ) → f.member ≡ Field i j → is_static p f.member ≡ false
      → IsOwned f.owner.0 i j
  field_owned c op f n r i j is static =
      let s = reference_says p c op f n r in
      let ref = reference c.pool r.class r.named in
      let owner : ref.owner ≡ f.owner.0 = ap (λ (x : Name). x.0) (sym s.owned) in
      subst (λ (x : List ℕ). IsOwned x i j) owner
      (owned_at ref.owner ref.name ref.desc i j (s.found ∙ ap (λ (m : Member). Some m) is) (sym (ap (is_static p) is) ∙ static))

  field_named : (c : ClassParts) (op : FieldOp) (f : FieldMeaning) (g : OpForm SwitchOp) (r : IsFieldAt op f p c.pool g) → form_test (judge_pool p c) g ≡ None → IsNamedField p op f
  field_named c op f g r none =
      let test = tested p c op f r.n r.entry g r.is none in
      record {
        static = static_is p c op f r.n r.entry test;
        plain = plain_is p c op f r.n r.entry test;
        owned = λ i j is static. owned_is f.owner.0 i j (field_owned c op f r.n r.entry i j is static);
        class = λ i j is static. class_is f.owner.0 i j (sym (ap (is_static p) is) ∙ static) (field_owned c op f r.n r.entry i j is static);
        declares = λ i j is static. declares_is f.owner.0 i j (sym (ap (is_static p) is) ∙ static) (field_owned c op f r.n r.entry i j is static);
      }

  pub record HasBody (m : MethodId) : Type 0 where
    pub body : CodeBody
    pub is : code_at p m ≡ Some body

  pub has_body : (m : MethodId) (i : ℕ) (one : Instruction) → instruction_at p m i ≡ Some one → HasBody m
  unfolding instruction_at
  has_body m i one e =
      let c = then_is (λ c. option_and_then (instruction_in p c i) (body_in c m.method)) (part_of p m.class) one e in
      let b = then_is (instruction_in p c.0 i) (body_in c.0 m.method) one c.2 in
      record { body = b.0; is = ap (option_and_then (λ c. body_in c m.method)) c.1 ∙ b.1 }

  placed_is : (op : FieldOp) (f : FieldMeaning) (es : List Entry) (body : List Placed) (one : Placed) → instruction p es body one ≡ Some (Used (meanings.Field op f)) → IsFieldAt op f p es (form one.op)
  unfolding instruction
  placed_is op f es body one e = form_is op f p es body one.at (form one.op) e

  at_body : (m : MethodId) (i : ℕ) (op : FieldOp) (f : FieldMeaning) (body : CodeBody) → IsCoded p m body → instruction_at p m i ≡ Some (Used (meanings.Field op f)) → IsNamedField p op f
  at_body m i op f body r e =
      let c = r.part.class in
      let x = then_is (instruction p c.pool body.ops) (slice_get body.ops i) (Used (meanings.Field op f)) (sym (at_code p m body i r) ∙ e) in
      let fault = class_none p m.class r.part (code_none p links.rules) r.stands in
      let test = op_form_none (judge_pool p c) x.0 (op_none p m.class c m.method r.method body i x.0 fault r.declared r.coded x.1) in
      field_named c op f (form x.0.op) (placed_is op f c.pool body.ops x.0 x.2) test

pub named : (p : Program) (m : MethodId) (i : ℕ) (op : FieldOp) (f : FieldMeaning) → Links p → instruction_at p m i ≡ Some (Used (meanings.Field op f)) → IsNamedField p op f
named p m i op f links e =
    let b = has_body p links m i (Used (meanings.Field op f)) e in
    at_body p links m i op f b.body (coded p m b.body b.is) e
