-- What linking says of a call that an instruction names.
use Rattle.std.proofs.Common.{◌≡◌, ◌∙◌, ◌⊎◌, inl, inr, ℕ, ◌||◌, Bool, true, false, not, List, Option, Some, None, refl, sym, ap, subst}
use Rattle.std.specs.Prelude.{option_and_then, option_map, slice_get, if◌then◌else◌}
use Rattle.std.specs.Str.{bytes_eq}
use Rattle.std.proofs.lemmas.Bool.{or_parts}
use Rattle.std.proofs.lemmas.Option.{slice_get-map}
use Rattle.jground.specs.jbase.FirstFaults.{fault_if, first_some, or_else}
use Rattle.jground.proofs.JbaseProofs.Firsts.{none_of}
use Rattle.jparts.specs.declared.jpool.entry.Entry.{Entry}
use Rattle.jparts.specs.declared.jpool.entry.Entry.TheVariants as entries
use Rattle.jparts.specs.jpool.ConstantPools.{name_and_type_at, utf8_at}
use Rattle.jparts.specs.declared.jcode.op_form.ArrayForm.{ArrayForm}
use Rattle.jparts.specs.declared.jcode.op_form.ArrayForm.TheVariants as arrays
use Rattle.jparts.specs.declared.jcode.op_form.OpForm.{OpForm}
use Rattle.jparts.specs.declared.jcode.op_form.OpForm.TheVariants as forms
use Rattle.jparts.specs.declared.jcode.op_form.PoolForm.{PoolForm}
use Rattle.jparts.specs.declared.jcode.op_form.PoolForm.TheVariants as pool
use Rattle.jparts.specs.declared.jcode.names.CallOp.{CallOp}
use Rattle.jparts.specs.declared.jcode.names.CallOp.TheVariants as ops
use Rattle.jparts.specs.declared.jcode.op.Placed.{Placed}
use Rattle.jparts.specs.declared.jcode.op.Switch.{Switch as SwitchOp}
use Rattle.jparts.specs.jcode.InstructionForms.{form}
use Rattle.jclass.specs.declared.class.ClassParts.{ClassParts}
use Rattle.jclass.specs.declared.class.CodeBody.{CodeBody}
use Rattle.jtypes.specs.declared.vtype.Name.{Name}
use Rattle.jtypes.specs.declared.vtype.VType.{VType}
use Rattle.jtypes.specs.declared.vtype.VType.TheVariants as types
use Rattle.jlib.specs.declared.calls.LibCall.{LibCall}
use Rattle.jlib.specs.LibraryMembers as library_calls
use Rattle.jlib.specs.LibraryClasses as library
use Rattle.jlib.proofs.LibraryLookup.{call_found, class_found}
use Rattle.jresolution.specs.declared.jprogram.fault.LinkKind.TheVariants.{BadUse, LeftOut}
use Rattle.jresolution.specs.declared.jprogram.member.Member.{Member}
use Rattle.jresolution.specs.declared.jprogram.member.Member.TheVariants.{LibMethod, Method}
use Rattle.jresolution.specs.declared.jprogram.member.MethodId.{MethodId}
use Rattle.jresolution.specs.jprogram.ClassFileParts.{this_name}
use Rattle.jresolution.specs.jprogram.ProgramClasses.{Program, superinterfaces, up}
use Rattle.jresolution.specs.jprogram.MemberResolution.{init, lib_method, looked_up, method_at, method_id, method_in, name_of, referred, resolve_method}
use Rattle.jresolution.proofs.JprogramProofs.ClassHeights.{Stands, Users, Libs, Nowhere, stands}
use Rattle.jresolution.specs.declared.juses.meaning.InvokeKind.{InvokeKind}
use Rattle.jresolution.specs.declared.juses.meaning.InvokeKind.TheVariants as how
use Rattle.jresolution.specs.juses.IndexedInstructions.{Used, by_form, instruction, instruction_at}
use Rattle.jresolution.specs.ProofNames.{array, array_made, class_meant, made}
use Rattle.jresolution.specs.juses.InstructionMeanings as meanings
use Rattle.jresolution.specs.juses.InstructionMeanings.{AClass, AConstant, AField, AMethod, CallMeaning, EntryMeaning, Meaning, array_meant, call_as, call_meant, entry_meant, field_entry, field_meant, how_of, meant, method_entry, reference, used}
use Rattle.jresolution.specs.juses.DescriptorTypes.{Called, Held, Typed, Untyped, array_over, class_type, name, typed}
use Rattle.jlinking.specs.declared.jreferring.judged.Judged.{Judged}
use Rattle.jlinking.specs.declared.jreferring.judged.Judged.TheVariants as judged
use Rattle.jlinking.specs.declared.jreferring.judged.MemberFacts.{MemberFacts}
use Rattle.jlinking.specs.declared.jreferring.judged.MemberUse.{MemberUse}
use Rattle.jlinking.specs.declared.jreferring.judged.Sort.{Sort}
use Rattle.jlinking.specs.declared.jreferring.judged.Sort.TheVariants as sort
use Rattle.jlinking.specs.jreferring.PoolEntryMeanings as judging
use Rattle.jlinking.specs.jreferring.PoolEntryMeanings.{entry_of, judge, judge_pool}
use Rattle.jlinking.specs.jreferring.ReferenceUses.{access_test, call_left_out_test, call_test, call_use_test, called_by_interface_test, called_test, counts, differs, facts_of, interface_test, is_miscalled, is_misused}
use Rattle.jlinking.specs.ProofNames.{call_member_test, calls_static, interface_member_test, member_in}
use Rattle.jlinking.specs.jreferring.CodeUnits.{form_test, member_at, or_no_member}
use Rattle.jlinking.specs.jlink.NamedCalls.{IsNamedCall, begins}
use Rattle.jlinking.specs.jlink.LinkedPrograms.{Links}
use Rattle.jlinking.proofs.JlinkProofs.CodeMeanings.{IsCoded, at_code, coded}
use Rattle.jlinking.proofs.JlinkProofs.FieldResolution.{flow_apart, has_body}
use Rattle.jlinking.proofs.JlinkProofs.PresentValues.{first_in, map_is, then_is}
use Rattle.jlinking.proofs.JlinkProofs.MethodSelection.{method_called}
use Rattle.jlinking.proofs.JlinkProofs.ResolvedReferences.{class_none, code_none, op_form_none, op_none, third_none}
use Rattle.jlinking.proofs.JlinkProofs.DescriptorTypes.{no_fault}

-- ---- the entry

-- what a reference says of a method
record IsMethod (owner : List ℕ) (o : Option Member) (c : CallMeaning) : Type 0 where
  found : o ≡ Some c.member
  owned : c.owner ≡ name owner

method_is : (owner : List ℕ) (o : Option Member) (t : Typed) (c : CallMeaning) → call_as (name owner) o t ≡ Some c → IsMethod owner o c
method_is owner None t c e = absurd cc
method_is owner (Some m) Untyped c e = absurd cc
method_is owner (Some m) (Held t) c e = absurd cc
method_is owner (Some m) (Called params ret) c e =
    let made_of : CallMeaning = record { owner = name owner; params = params; ret = ret; member = m } in
    let same : made_of ≡ c = cc in
    subst (IsMethod owner (Some m)) same (record { found = refl; owned = refl })

-- an entry that stands for a method is a reference to one
record IsCallEntry (p : Program) (es : List Entry) (e : Option Entry) (begun : Bool) (c : CallMeaning) : Type 0 where
  kind : Sort
  class : ℕ
  both : ℕ
  is : e ≡ Some (entry_of kind class both)
  refers : referred p es e ≡ option_and_then (looked_up es class (resolve_method p)) (name_and_type_at es both)
  named : ℕ × ℕ
  at : name_and_type_at es both ≡ Some named
  says : bytes_eq (reference es class named).name init ≡ begun
  means : call_meant p (reference es class named) ≡ Some c

class_apart : (p : Program) (t : Option (List ℕ)) (begun : Bool) (c : CallMeaning) → class_meant p t ≡ Some (AMethod begun c) → ⊥
class_apart p t begun c e =
    let r = map_is AClass (option_and_then (class_type p) t) (AMethod begun c) e in
    let is : AClass r.0 ≡ AMethod begun c = r.2 in
    cc

field_apart : (p : Program) (es : List Entry) (class : ℕ) (o : Option (ℕ × ℕ)) (begun : Bool) (c : CallMeaning) → option_and_then (λ b. field_entry p (reference es class b)) o ≡ Some (AMethod begun c) → ⊥
field_apart p es class o begun c e =
    let b = then_is (λ b. field_entry p (reference es class b)) o (AMethod begun c) e in
    let r = map_is AField (field_meant p (reference es class b.0)) (AMethod begun c) b.2 in
    let is : AField r.0 ≡ AMethod begun c = r.2 in
    cc

-- what the entry of a method says
record IsSaid (p : Program) (es : List Entry) (class : ℕ) (o : Option (ℕ × ℕ)) (begun : Bool) (c : CallMeaning) : Type 0 where
  named : ℕ × ℕ
  at : o ≡ Some named
  says : bytes_eq (reference es class named).name init ≡ begun
  means : call_meant p (reference es class named) ≡ Some c

said : (p : Program) (es : List Entry) (class : ℕ) (o : Option (ℕ × ℕ)) (begun : Bool) (c : CallMeaning) → option_and_then (λ b. method_entry p (reference es class b)) o ≡ Some (AMethod begun c)
    → IsSaid p es class o begun c
said p es class o begun c e =
    let b = then_is (λ b. method_entry p (reference es class b)) o (AMethod begun c) e in
    let g = map_is (AMethod (bytes_eq (reference es class b.0).name init)) (call_meant p (reference es class b.0)) (AMethod begun c) b.2 in
    let is : AMethod (bytes_eq (reference es class b.0).name init) g.0 ≡ AMethod begun c = g.2 in
    let says : bytes_eq (reference es class b.0).name init ≡ begun = cc in
    let same : g.0 ≡ c = cc in
    record { named = b.0; at = b.1; says = says; means = g.1 ∙ ap (λ (x : CallMeaning). Some x) same }

entry_is : (p : Program) (es : List Entry) (e : Option Entry) (begun : Bool) (c : CallMeaning) → entry_meant p es e ≡ Some (AMethod begun c) → IsCallEntry p es e begun c
unfolding entry_meant
entry_is p es None begun c h = absurd cc
entry_is p es (Some entries.Unused) begun c h = absurd cc
entry_is p es (Some (entries.Utf8 a)) begun c h = absurd cc
entry_is p es (Some (entries.Integer a)) begun c h = absurd cc
entry_is p es (Some (entries.Float a)) begun c h = absurd cc
entry_is p es (Some (entries.Long a)) begun c h = absurd cc
entry_is p es (Some (entries.Double a)) begun c h = absurd cc
entry_is p es (Some (entries.Class a)) begun c h = absurd (class_apart p (utf8_at es a) begun c h)
entry_is p es (Some (entries.Str a)) begun c h = absurd cc
entry_is p es (Some (entries.NameAndType a b)) begun c h = absurd cc
entry_is p es (Some (entries.MethodHandle a b)) begun c h = absurd cc
entry_is p es (Some (entries.MethodType a)) begun c h = absurd cc
entry_is p es (Some (entries.InvokeDynamic a b)) begun c h = absurd cc
entry_is p es (Some (entries.Field class both)) begun c h = absurd (field_apart p es class (name_and_type_at es both) begun c h)
entry_is p es (Some (entries.Method class both)) begun c h =
    let s = said p es class (name_and_type_at es both) begun c h in
    record { kind = sort.Method; class = class; both = both; is = refl; refers = refl; named = s.named; at = s.at; says = s.says; means = s.means }
entry_is p es (Some (entries.InterfaceMethod class both)) begun c h =
    let s = said p es class (name_and_type_at es both) begun c h in
    record { kind = sort.InterfaceMethod; class = class; both = both; is = refl; refers = refl; named = s.named; at = s.at; says = s.says; means = s.means }

-- ---- the instruction

module _ (by : InvokeKind) (c : CallMeaning) where
  abbrev call : Meaning
  call = meanings.Call by c

  made_apart : (t : VType) → made (AClass t) ≡ Some call → ⊥
  made_apart types.Top e = cc
  made_apart types.Int e = cc
  made_apart types.Long e = cc
  made_apart types.Null e = cc
  made_apart types.UninitThis e = cc
  made_apart (types.Uninit o) e = cc
  made_apart (types.Object d) e = cc
  made_apart (types.Array a) e = cc
  made_apart types.Ctx e = cc

  row_apart : (x : EntryMeaning) → array_made x ≡ Some call → ⊥
  row_apart (AConstant d) e = cc
  row_apart (AField g) e = cc
  row_apart (AMethod begun d) e = cc
  row_apart (AClass t) e =
      let r = map_is meanings.MakeArray (array_over t) call e in
      let is : meanings.MakeArray r.0 ≡ call = r.2 in
      cc

  array_apart : (p : Program) (es : List Entry) (g : ArrayForm) → array p es g ≡ Some (Used call) → ⊥
  unfolding array_meant
  array_apart p es (arrays.New kind) e = cc
  array_apart p es (arrays.Load kind) e = cc
  array_apart p es (arrays.Store kind) e = cc
  array_apart p es arrays.Length e = cc
  array_apart p es (arrays.NewRef i) e =
      let r = map_is Used (array_meant p es i) (Used call) e in
      let is : Used r.0 ≡ Used call = r.2 in
      let same : r.0 ≡ call = cc in
      let x = then_is array_made (entry_meant p es (slice_get es i)) call (r.1 ∙ ap (λ (m : Meaning). Some m) same) in
      row_apart x.0 x.2

  -- the instruction that calls so, at an index
  abbrev CallsSo : PoolForm → ℕ → Bool → Type 0
  CallsSo g n begun = ((op : CallOp) × (g ≡ pool.Call op n) × (how_of op begun ≡ by)) ⊎ ((slots : ℕ) × (g ≡ pool.CallInterface n slots) × (how.Interface ≡ by))

  record IsCallForm (g : PoolForm) (x : EntryMeaning) : Type 0 where
    n : ℕ
    begun : Bool
    so : CallsSo g n begun
    index : meanings.index_of g ≡ n
    entry : x ≡ AMethod begun c

  pool_is : (g : PoolForm) (x : EntryMeaning) → used g x ≡ Some call → IsCallForm g x
  pool_is (pool.Call op n) (AMethod begun d) e =
      let first : how_of op begun ≡ by = cc in
      let second : d ≡ c = cc in
      record { n = n; begun = begun; so = inl (op, refl, first); index = refl; entry = ap (AMethod begun) second }
  pool_is (pool.CallInterface n slots) (AMethod begun d) e =
      let first : how.Interface ≡ by = cc in
      let second : d ≡ c = cc in
      record { n = n; begun = begun; so = inr (slots, refl, first); index = refl; entry = ap (AMethod begun) second }
  pool_is (pool.Call op n) (AConstant d) e = absurd cc
  pool_is (pool.Call op n) (AClass t) e = absurd cc
  pool_is (pool.Call op n) (AField g) e = absurd cc
  pool_is (pool.CallInterface n slots) (AConstant d) e = absurd cc
  pool_is (pool.CallInterface n slots) (AClass t) e = absurd cc
  pool_is (pool.CallInterface n slots) (AField g) e = absurd cc
  pool_is (pool.Field o n) (AField g) e = absurd cc
  pool_is (pool.Field o n) (AConstant d) e = absurd cc
  pool_is (pool.Field o n) (AClass t) e = absurd cc
  pool_is (pool.Field o n) (AMethod begun d) e = absurd cc
  pool_is (pool.Constant n) (AConstant (meanings.Int i)) e = absurd cc
  pool_is (pool.Constant n) (AConstant (meanings.Long i)) e = absurd cc
  pool_is (pool.Constant n) (AConstant (meanings.Text t)) e = absurd cc
  pool_is (pool.Constant n) (AClass t) e = absurd cc
  pool_is (pool.Constant n) (AField g) e = absurd cc
  pool_is (pool.Constant n) (AMethod begun d) e = absurd cc
  pool_is (pool.LongConstant n) (AConstant (meanings.Int i)) e = absurd cc
  pool_is (pool.LongConstant n) (AConstant (meanings.Long i)) e = absurd cc
  pool_is (pool.LongConstant n) (AConstant (meanings.Text t)) e = absurd cc
  pool_is (pool.LongConstant n) (AClass t) e = absurd cc
  pool_is (pool.LongConstant n) (AField g) e = absurd cc
  pool_is (pool.LongConstant n) (AMethod begun d) e = absurd cc
  pool_is (pool.New n) (AConstant d) e = absurd cc
  pool_is (pool.New n) (AClass t) e = absurd (made_apart t e)
  pool_is (pool.New n) (AField g) e = absurd cc
  pool_is (pool.New n) (AMethod begun d) e = absurd cc
  pool_is (pool.Cast o n) (AConstant d) e = absurd cc
  pool_is (pool.Cast o n) (AClass t) e = absurd cc
  pool_is (pool.Cast o n) (AField g) e = absurd cc
  pool_is (pool.Cast o n) (AMethod begun d) e = absurd cc

  record IsCallAt (p : Program) (es : List Entry) (g : OpForm SwitchOp) : Type 0 where
    pool_form : PoolForm
    n : ℕ
    begun : Bool
    is : g ≡ forms.Pool pool_form
    so : CallsSo pool_form n begun
    entry : IsCallEntry p es (slice_get es n) begun c

  pool_at_is : (p : Program) (es : List Entry) (g : PoolForm) → meant p es g ≡ Some call → IsCallAt p es (forms.Pool g)
  unfolding meant
  pool_at_is p es g e =
      let x = then_is (used g) (entry_meant p es (slice_get es (meanings.index_of g))) call e in
      let r = pool_is g x.0 x.2 in
      let at : entry_meant p es (slice_get es r.n) ≡ Some (AMethod r.begun c) =
      ap (λ (k : ℕ). entry_meant p es (slice_get es k)) (sym r.index) ∙ x.1 ∙ ap (λ (y : EntryMeaning). Some y) r.entry in
      record { pool_form = g; n = r.n; begun = r.begun; is = refl; so = r.so; entry = entry_is p es (slice_get es r.n) r.begun c at }

  form_is : (p : Program) (es : List Entry) (body : List Placed) (at : ℕ) (g : OpForm SwitchOp) → by_form p es body at g ≡ Some (Used call) → IsCallAt p es g
  form_is p es body at (forms.Simple g) e = absurd cc
  form_is p es body at (forms.Local g) e = absurd cc
  form_is p es body at (forms.Stack g) e = absurd cc
  form_is p es body at (forms.Flow g) e = absurd (flow_apart body at g call e)
  form_is p es body at (forms.Array g) e = absurd (array_apart p es g e)
  form_is p es body at (forms.Pool g) e =
      let r = map_is Used (meant p es g) (Used call) e in
      let is : Used r.0 ≡ Used call = r.2 in
      let same : r.0 ≡ call = cc in
      pool_at_is p es g (r.1 ∙ ap (λ (m : Meaning). Some m) same)

-- ---- the tests of its use

uses_none : (op : CallOp) (u : MemberUse) (m : MemberFacts) → call_use_test op u m ≡ None → is_miscalled op u m ≡ false
uses_none op u m e =
    let one = no_fault (differs (calls_static op) m.is_static || (u.crossed || is_miscalled op u m)) BadUse e in
    let two = (or_parts (differs (calls_static op) m.is_static) (u.crossed || is_miscalled op u m) one).1 in
    (or_parts u.crossed (is_miscalled op u m) two).1

called_none : (op : CallOp) (u : MemberUse) (o : Option MemberFacts) (m : MemberFacts) → o ≡ Some m → called_test op u o ≡ None → is_miscalled op u m ≡ false
called_none op u o m is e =
    let none : called_test op u (Some m) ≡ None = sym (ap (called_test op u) is) ∙ e in
    uses_none op u m ((none_of (access_test false m) (call_use_test op u m) none).1)

interface_none : (slots : ℕ) (u : MemberUse) (o : Option MemberFacts) (m : MemberFacts) → o ≡ Some m → called_by_interface_test slots u o ≡ None → u.init ≡ false
interface_none slots u o m is e =
    let none : called_by_interface_test slots u (Some m) ≡ None = sym (ap (called_by_interface_test slots u) is) ∙ e in
    let one = no_fault (is_misused slots u m) BadUse ((none_of (access_test false m) (fault_if (is_misused slots u m) BadUse) none).1) in
    let rest = u.init || (m.is_private || not (counts slots u.slots)) in
    let two = (or_parts m.is_static (u.crossed || rest) one).1 in
    let three = (or_parts u.crossed rest two).1 in
    (or_parts u.init (m.is_private || not (counts slots u.slots)) three).0

-- what isn't called as a constructor names none
plain_so : (op : CallOp) (u : MemberUse) (m : MemberFacts) (begun : Bool) (by : InvokeKind) → how_of op begun ≡ by → begins by ≡ false → u.init ≡ begun → is_miscalled op u m ≡ false → begun ≡ false
plain_so ops.Virtual u m begun by so apart is none = sym is ∙ (or_parts u.init m.is_private none).0
plain_so ops.Static u m begun by so apart is none = sym is ∙ none
plain_so ops.Special u m true by so apart is none = let one : how.Init ≡ by = so in let two : true ≡ false = ap begins one ∙ apart in absurd cc
plain_so ops.Special u m false by so apart is none = refl

-- a constructor is called by `invokespecial` alone
begun_so : (op : CallOp) (begun : Bool) (by : InvokeKind) → how_of op begun ≡ by → begins by ≡ true → begun ≡ true
begun_so ops.Virtual begun by so is = let two : false ≡ true = ap begins so ∙ is in absurd cc
begun_so ops.Static begun by so is = let two : false ≡ true = ap begins so ∙ is in absurd cc
begun_so ops.Special true by so is = refl
begun_so ops.Special false by so is = let two : false ≡ true = ap begins so ∙ is in absurd cc

-- ---- what it is resolved to

either : {A P : Type 0} (a b : Option A) (x : A) → or_else a b ≡ Some x → (a ≡ Some x → P) → (b ≡ Some x → P) → P
either None b x e one two = two e
either (Some y) b x e one two = one e

module _ (p : Program) (called desc : List ℕ) (m : Member) where
  -- what a name is resolved to is called so
  resolved_called : (owner : List ℕ) → resolve_method p owner called desc ≡ Some m → name_of p m ≡ called
  unfolding resolve_method
  resolved_called owner e = by (bytes_eq called init) e
    where
      along : (xs : List (List ℕ)) → first_some (method_at p called desc) xs ≡ Some m → name_of p m ≡ called
      along xs h = let r = first_in (method_at p called desc) xs m h in (method_called p called desc r.0 m r.2).0

      by : (b : Bool) → (if b then method_at p called desc owner else or_else (first_some (method_at p called desc) (up p owner))
          (first_some (λ x. first_some (method_at p called desc) (superinterfaces p x)) (up p owner))) ≡ Some m → name_of p m ≡ called
      by true h = (method_called p called desc owner m h).0
      by false h =
          either (first_some (method_at p called desc) (up p owner)) (first_some (λ x. first_some (method_at p called desc) (superinterfaces p x)) (up p owner)) m h
          (along (up p owner))
          (λ g. let r = first_in (λ x. first_some (method_at p called desc) (superinterfaces p x)) (up p owner) m g in along (superinterfaces p r.0) r.2)

-- a member of the library's that a class declares stands in the class of its name
declared_there : (p : Program) (called desc class : List ℕ) (x : LibCall) → method_at p called desc class ≡ Some (LibMethod x) → library.name_of (library_calls.owner x) ≡ class
declared_there p called desc class x e = by (stands p class)
  where
    field_free : (b : Bool) (m : LibCall) → (if b then None else Some (LibMethod m)) ≡ Some (LibMethod x) → m ≡ x
    field_free true m h = absurd cc
    field_free false m h = cc

    by : Stands p class → library.name_of (library_calls.owner x) ≡ class
    by (Users k part at own is) =
        let here : option_map (λ j. Method (method_id k j)) _ ≡ Some (LibMethod x) = sym (ap (option_and_then (λ c. method_in p.side c called desc)) is) ∙ e in
        let r = map_is (λ j. Method (method_id k j)) _ (LibMethod x) here in
        let never : Method (method_id k r.0) ≡ LibMethod x = r.2 in
        absurd cc
    by (Libs l named is) =
        let here : option_and_then lib_method (library_calls.member_named p.side (library.name_of l) called desc) ≡ Some (LibMethod x) = sym (ap (option_and_then (λ c. method_in p.side c called desc)) is) ∙ e in
        let m = then_is lib_method (library_calls.member_named p.side (library.name_of l) called desc) (LibMethod x) here in
        let same = field_free (library_calls.is_field m.0) m.0 m.2 in
        let found = call_found p.side (library.name_of l) called desc m.0 m.1 in
        ap (λ (y : LibCall). library.name_of (library_calls.owner y)) (sym same) ∙ found.0 ∙ (class_found p.side class l named).0
    by (Nowhere none) =
        let never : None ≡ Some (LibMethod x) = sym (ap (option_and_then (λ c. method_in p.side c called desc)) none) ∙ e in
        absurd cc

begun_at : (p : Program) (owner called desc : List ℕ) (m : Member) → bytes_eq called init ≡ true → resolve_method p owner called desc ≡ Some m → method_at p called desc owner ≡ Some m
unfolding resolve_method
begun_at p owner called desc m is e = sym (ap (λ (b : Bool). if b then method_at p called desc owner else or_else (first_some (method_at p called desc) (up p owner))
    (first_some (λ x. first_some (method_at p called desc) (superinterfaces p x)) (up p owner))) is) ∙ e

-- ---- all

module _ (p : Program) (c : ClassParts) (by : InvokeKind) (d : CallMeaning) (n : ℕ) (begun : Bool) (r : IsCallEntry p c.pool (slice_get c.pool n) begun d) where
  abbrev from : List ℕ
  from = this_name c

  abbrev ref : meanings.Reference
  ref = reference c.pool r.class r.named

  abbrev use_of : MemberUse
  use_of = judging.reference p from c.pool r.kind r.class r.both

  says : IsMethod ref.owner (resolve_method p ref.owner ref.name ref.desc) d
  unfolding call_meant
  says = method_is ref.owner (resolve_method p ref.owner ref.name ref.desc) (typed p ref.desc) d r.means

  judged_is : (kind : Sort) → judge p from c.pool (entry_of kind r.class r.both) ≡ judged.Member (judging.reference p from c.pool kind r.class r.both)
  unfolding judge
  judged_is sort.Field = refl
  judged_is sort.Method = refl
  judged_is sort.InterfaceMethod = refl

  use_at : member_at (judge_pool p c) n ≡ Some use_of
  use_at =
      ap member_in (slice_get-map (judge p from c.pool) c.pool n) ∙ ap (λ (e : Option Entry). member_in (option_map (judge p from c.pool) e)) r.is
      ∙ ap (λ (j : Judged). member_in (Some j)) (judged_is r.kind)

  member_is : use_of.member ≡ Some (facts_of p from d.member)
  unfolding judging.reference
  member_is =
      ap (λ (e : Option Entry). option_map (facts_of p from) (referred p c.pool e)) (sym r.is)
      ∙ ap (option_map (facts_of p from)) r.refers
      ∙ ap (λ (o : Option (ℕ × ℕ)). option_map (facts_of p from) (option_and_then (looked_up c.pool r.class (resolve_method p)) o)) r.at
      ∙ ap (option_map (facts_of p from)) says.found

  init_is : use_of.init ≡ begun
  unfolding judging.reference
  init_is = ap (λ (o : Option (ℕ × ℕ)). bytes_eq (judging.name_in c.pool o) init) r.at ∙ r.says

  is_plain : (g : PoolForm) → CallsSo by d g n begun → form_test {S = SwitchOp} (judge_pool p c) (forms.Pool g) ≡ None → begins by ≡ false → begun ≡ false
  is_plain g (inl (op, is, so)) none apart =
      let test : call_test op use_of ≡ None = sym (ap (or_no_member (call_test op)) use_at) ∙ sym (ap (λ (h : PoolForm). form_test {S = SwitchOp} (judge_pool p c) (forms.Pool h)) is) ∙ none in
      let last = third_none use_of.names (call_left_out_test op use_of) (call_member_test op use_of) test in
      plain_so op use_of (facts_of p from d.member) begun by so apart init_is (called_none op use_of use_of.member (facts_of p from d.member) member_is last)
  is_plain g (inr (slots, is, so)) none apart =
      let test : interface_test slots use_of ≡ None = sym (ap (or_no_member (interface_test slots)) use_at) ∙ sym (ap (λ (h : PoolForm). form_test {S = SwitchOp} (judge_pool p c) (forms.Pool h)) is) ∙ none in
      let last = third_none use_of.names (fault_if use_of.barred LeftOut) (interface_member_test slots use_of) test in
      sym init_is ∙ interface_none slots use_of use_of.member (facts_of p from d.member) member_is last

  is_begun : (g : PoolForm) → CallsSo by d g n begun → begins by ≡ true → begun ≡ true
  is_begun g (inl (op, is, so)) h = begun_so op begun by so h
  is_begun g (inr (slots, is, so)) h = let two : false ≡ true = ap begins so ∙ h in absurd cc

  named_call : (g : PoolForm) → CallsSo by d g n begun → form_test {S = SwitchOp} (judge_pool p c) (forms.Pool g) ≡ None → IsNamedCall p by d
  named_call g so none = record {
    plain = λ apart. ap (λ (x : List ℕ). bytes_eq x init) (resolved_called p ref.name ref.desc d.member ref.owner says.found) ∙ r.says ∙ is_plain g so none apart;
    owned = λ x is member.
        declared_there p ref.name ref.desc ref.owner x
        (begun_at p ref.owner ref.name ref.desc (LibMethod x) (r.says ∙ is_begun g so is) (says.found ∙ ap (λ (y : Member). Some y) member))
        ∙ ap (λ (y : Name). y.0) (sym says.owned);
  }

placed_is : (p : Program) (by : InvokeKind) (c : CallMeaning) (es : List Entry) (body : List Placed) (one : Placed) → instruction p es body one ≡ Some (Used (meanings.Call by c)) → IsCallAt by c p es (form one.op)
unfolding instruction
placed_is p by c es body one e = form_is by c p es body one.at (form one.op) e

module _ (p : Program) (links : Links p) where
  at_body : (m : MethodId) (i : ℕ) (by : InvokeKind) (c : CallMeaning) (body : CodeBody) → IsCoded p m body → instruction_at p m i ≡ Some (Used (meanings.Call by c)) → IsNamedCall p by c
  at_body m i by c body r e =
      let file = r.part.class in
      let x = then_is (instruction p file.pool body.ops) (slice_get body.ops i) (Used (meanings.Call by c)) (sym (at_code p m body i r) ∙ e) in
      let fault = class_none p m.class r.part (code_none p links.rules) r.stands in
      let test = op_form_none (judge_pool p file) x.0 (op_none p m.class file m.method r.method body i x.0 fault r.declared r.coded x.1) in
      let one = placed_is p by c file.pool body.ops x.0 x.2 in
      named_call p file by c one.n one.begun one.entry one.pool_form one.so (sym (ap (form_test (judge_pool p file)) one.is) ∙ test)

pub named : (p : Program) (m : MethodId) (i : ℕ) (by : InvokeKind) (c : CallMeaning) → Links p → instruction_at p m i ≡ Some (Used (meanings.Call by c)) → IsNamedCall p by c
named p m i by c links e =
    let b = has_body p links m i (Used (meanings.Call by c)) e in
    at_body p links m i by c b.body (coded p m b.body b.is) e
