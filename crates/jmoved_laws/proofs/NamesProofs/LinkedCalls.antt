-- What linking says of a call that an instruction names.
use Rattle.std.proofs.Common.{◌≡◌, ℕ, Bool, true, false, not, List, Option, Some, None, refl, ap, sym, ◌∙◌, subst}
use Rattle.std.specs.Prelude.{IsTrue, option_and_then, option_map, slice_get, ◌&&◌, ◌||◌, if◌then◌else◌}
use Rattle.std.specs.Str.{bytes_eq}
use Rattle.std.proofs.lemmas.Bool.{or_parts}
use Rattle.jground.specs.jbase.FirstFaults.{fault_if, first_some, or_else}
use Rattle.jground.proofs.JbaseProofs.Firsts.{none_of}
use Rattle.jparts.specs.declared.jpool.entry.Entry.{Entry}
use Rattle.jparts.specs.declared.jpool.entry.Entry.TheVariants as entries
use Rattle.jparts.specs.jpool.ConstantPools.{name_and_type_at}
use Rattle.jparts.specs.declared.jcode.op_form.ArrayForm.{ArrayForm}
use Rattle.jparts.specs.declared.jcode.op_form.ArrayForm.TheVariants as arrays
use Rattle.jparts.specs.declared.jcode.op_form.Flow.TheVariants as flows
use Rattle.jparts.specs.declared.jcode.op_form.PoolForm.{PoolForm}
use Rattle.jparts.specs.declared.jcode.op_form.PoolForm.TheVariants as pool
use Rattle.jparts.specs.declared.jcode.names.CallOp.{CallOp}
use Rattle.jparts.specs.declared.jcode.names.CallOp.TheVariants as calls
use Rattle.jparts.specs.declared.jcode.names.ObjectOp.TheVariants as objects
use Rattle.jparts.specs.declared.jcode.op.NewOp.TheVariants as news
use Rattle.jparts.specs.declared.jcode.op.Op.{Op}
use Rattle.jparts.specs.declared.jcode.op.Op.TheVariants as ops
use Rattle.jparts.specs.declared.jcode.op.Placed.{Placed}
use Rattle.jparts.specs.jcode.InstructionForms.{form}
use Rattle.jparts.specs.ProofNames.{distance, ldc_index}
use Rattle.jclass.specs.declared.class.ClassParts.{ClassParts}
use Rattle.jclass.specs.declared.class.CodeBody.{CodeBody}
use Rattle.jclass.specs.PoolOperands.{is_called, is_interface_method, is_method, names_well}
use Rattle.jtypes.specs.declared.vtype.Name.{Name}
use Rattle.jtypes.specs.declared.vtype.VType.{VType}
use Rattle.jtypes.specs.declared.vtype.VType.TheVariants as types
use Rattle.jresolution.specs.declared.jprogram.fault.LinkKind.TheVariants.{BadUse, LeftOut}
use Rattle.jresolution.specs.declared.jprogram.member.Member.{Member}
use Rattle.jresolution.specs.declared.jprogram.member.MethodId.{MethodId}
use Rattle.jresolution.specs.declared.jprogram.part.CodePart.{CodePart}
use Rattle.jresolution.specs.jprogram.ProgramClasses.{Program, extends, find, holds, is_interface, superinterfaces, up}
use Rattle.jresolution.specs.jprogram.MemberResolution.{desc_of, init, method_at, name_of, resolve_method}
use Rattle.jresolution.specs.jprogram.NameChecks.{is_reserved, names_reserved}
use Rattle.jresolution.specs.jprogram.ClassFileParts.{or_empty, text, this_name}
use Rattle.jresolution.proofs.JprogramProofs.ClassHeights.{not_none}
use Rattle.jresolution.specs.declared.juses.meaning.InvokeKind.{InvokeKind}
use Rattle.jresolution.specs.declared.juses.meaning.InvokeKind.TheVariants as how
use Rattle.jresolution.specs.juses.IndexedInstructions.{Used, by_form, instruction, instruction_at}
use Rattle.jresolution.specs.ProofNames.{array, array_made, made}
use Rattle.jresolution.specs.juses.InstructionMeanings as meanings
use Rattle.jresolution.specs.juses.InstructionMeanings.{AClass, AConstant, AField, AMethod, Call, CallMeaning, EntryMeaning, Meaning, array_meant, call_as, call_meant, entry_meant, how_of, index_of, meant, method_entry, used}
use Rattle.jresolution.specs.juses.DescriptorTypes.{Called, Held, Typed, Untyped, array_over, name, typed}
use Rattle.jlinking.specs.declared.jreferring.judged.MemberFacts.{MemberFacts}
use Rattle.jlinking.specs.declared.jreferring.judged.MemberUse.{MemberUse}
use Rattle.jlinking.specs.jreferring.PoolEntryMeanings.{judge_pool}
use Rattle.jlinking.specs.jreferring.ReferenceUses.{access_test, call_left_out_test, call_test, call_use_test, called_by_interface_test, called_test, counts, differs, facts_of, interface_test, is_miscalled, is_misused}
use Rattle.jlinking.specs.ProofNames.{call_member_test, interface_member_test, is_virtual, call_at, interface_call_at}
use Rattle.jlinking.specs.jreferring.ReferenceUses as references
use Rattle.jlinking.specs.ProofNames
use Rattle.jlinking.specs.jreferring.CodeUnits.{form_test, or_no_member}
use Rattle.jlinking.specs.jlink.NamedCalls.{begins}
use Rattle.jlinking.proofs.JlinkProofs.CodeMeanings.{IsCoded, at_code, coded}
use Rattle.jlinking.proofs.JlinkProofs.FieldResolution.{flow_apart, has_body}
use Rattle.jlinking.proofs.JlinkProofs.FittingClassFiles.{has_code, named_well}
use Rattle.jlinking.proofs.JlinkProofs.PresentValues.{first_in, map_is, then_is}
use Rattle.jlinking.proofs.JlinkProofs.MethodSelection.{method_called}
use Rattle.jlinking.proofs.JlinkProofs.ResolvedReferences.{class_none, code_none, op_form_none, op_none}
use Rattle.jlinking.proofs.JlinkProofs.DescriptorTypes.{no_fault}
use Rattle.jrewriting.proofs.JmoveclassLawsProofs.CallReferences.{kind_in, kind_of_reference}
use Rattle.jrewriting.proofs.JmoveclassLawsProofs.PoolFormat.{sound_of}
use Rattle.jrewriting.proofs.JmoveclassLawsProofs.AddedReferences.{reference}
use Rattle.jrewriting.proofs.JmoveclassLawsProofs.SoundPools.{IsSound}
use Rattle.jrewriting.specs.jrewrite.LinkageLaws.{IsLinked}
use Rattle.jrewriting.proofs.JrewriteProofs.PoolEntries.{owner_kept}
use Rattle.jrewriting.proofs.JrewriteProofs.PlainPrograms.{is_plain}
use Rattle.jrewriting.proofs.JrewriteProofs.ParameterSlots.{either, resolved_desc}
use Rattle.jrewriting.proofs.JrewriteProofs.HierarchyPhases.{plain_at}
use Rattle.jrewriting.proofs.JrewriteProofs.Targets.{Target, call_use, plain_owner, sort_by, target_of, target_use}
use Rattle.jmoved_laws.specs.names.ResolvedCalls.{IsResolvedCall, by_interface, calls_static}

-- ---- the entry

made_apart : {P : Type 0} (by : InvokeKind) (c : CallMeaning) (t : VType) → made (AClass t) ≡ Some (Call by c) → P
made_apart by c types.Top e = absurd cc
made_apart by c t e = absurd cc

row_apart : {P : Type 0} (by : InvokeKind) (c : CallMeaning) (x : EntryMeaning) → array_made x ≡ Some (Call by c) → P
row_apart by c (AClass t) e =
    let r = map_is meanings.MakeArray (array_over t) (Call by c) e in
    let is : meanings.MakeArray r.0 ≡ Call by c = r.2 in
    absurd cc
row_apart by c x e = absurd cc

array_apart : {P : Type 0} (p : Program) (es : List Entry) (by : InvokeKind) (c : CallMeaning) (g : ArrayForm) → array p es g ≡ Some (Used (Call by c)) → P
unfolding array_meant
array_apart p es by c (arrays.NewRef i) e =
    let r = map_is Used (array_meant p es i) (Used (Call by c)) e in
    let is : Used r.0 ≡ Used (Call by c) = r.2 in
    let same : r.0 ≡ Call by c = cc in
    let x = then_is array_made (entry_meant p es (slice_get es i)) (Call by c) (r.1 ∙ ap (λ (m : Meaning). Some m) same) in
    row_apart by c x.0 x.2
array_apart p es by c g e = absurd cc

-- a method of this meaning, called so
pub record IsCalledSo (by : InvokeKind) (c : CallMeaning) (way : Bool → InvokeKind) (x : EntryMeaning) : Type 0 where
  pub begun : Bool
  pub is : x ≡ AMethod begun c
  pub so : way begun ≡ by

method_so : (by : InvokeKind) (c d : CallMeaning) (way : Bool → InvokeKind) (begun : Bool) → Call (way begun) d ≡ Call by c → IsCalledSo by c way (AMethod begun d)
method_so by c d way begun e =
    let so : way begun ≡ by = cc in
    let same : d ≡ c = cc in
    record { begun = begun; is = ap (AMethod begun) same; so = so }

called_so : (by : InvokeKind) (c : CallMeaning) (op : CallOp) (n : ℕ) (x : EntryMeaning) → used (pool.Call op n) x ≡ Some (Call by c) → IsCalledSo by c (how_of op) x
called_so by c op n (AMethod begun d) e = let one : Call (how_of op begun) d ≡ Call by c = cc in method_so by c d (how_of op) begun one
called_so by c op n x e = absurd cc

faced_so : (by : InvokeKind) (c : CallMeaning) (n slots : ℕ) (x : EntryMeaning) → used (pool.CallInterface n slots) x ≡ Some (Call by c) → IsCalledSo by c (λ begun. how.Interface) x
faced_so by c n slots (AMethod begun d) e = let one : Call how.Interface d ≡ Call by c = cc in method_so by c d (λ b. how.Interface) begun one
faced_so by c n slots x e = absurd cc

-- ---- what its reference stands for

record IsMethod (owner : List ℕ) (o : Option Member) (t : Typed) (c : CallMeaning) : Type 0 where
  found : o ≡ Some c.member
  owned : c.owner ≡ name owner
  types : t ≡ Called c.params c.ret

method_is : (owner : List ℕ) (o : Option Member) (t : Typed) (c : CallMeaning) → call_as (name owner) o t ≡ Some c → IsMethod owner o t c
method_is owner (Some m) (Called params ret) c e =
    let made_of : CallMeaning = record { owner = name owner; params = params; ret = ret; member = m } in
    let same : made_of ≡ c = cc in
    subst (IsMethod owner (Some m) (Called params ret)) same (record { found = refl; owned = refl; types = refl })
method_is owner None t c e = absurd cc
method_is owner (Some m) Untyped c e = absurd cc
method_is owner (Some m) (Held t) c e = absurd cc

-- a reference says of a call
record IsReferred (p : Program) (pool : List Entry) (i : ℕ) (t : Target pool i) (begun : Bool) (c : CallMeaning) : Type 0 where
  says : bytes_eq t.says.name init ≡ begun
  found : resolve_method p t.says.owner t.says.name t.says.desc ≡ Some c.member
  owned : c.owner.0 ≡ t.says.owner
  types : typed p t.says.desc ≡ Called c.params c.ret

entry_by : (p : Program) (pool : List Entry) (b : Bool) (class two : ℕ) → entry_meant p pool (Some (reference b class two)) ≡ option_and_then (λ x. method_entry p (meanings.reference pool class x)) (name_and_type_at pool two)
unfolding entry_meant
entry_by p pool true class two = refl
entry_by p pool false class two = refl

abbrev said : (pool : List Entry) (i : ℕ) → Target pool i → meanings.Reference
said pool i t = record { owner = t.says.owner; name = t.says.name; desc = t.says.desc }

said_is : (p : Program) (pool : List Entry) (i : ℕ) (t : Target pool i) → entry_meant p pool (slice_get pool i) ≡ method_entry p (said pool i t)
said_is p pool i t =
    ap (entry_meant p pool) t.there ∙ entry_by p pool t.interface t.class t.two
    ∙ ap (option_and_then (λ x. method_entry p (meanings.reference pool t.class x))) t.says.both
    ∙ ap (λ (o : Option (List ℕ)). method_entry p (record { owner = or_empty o; name = text pool t.says.n; desc = text pool t.says.d })) t.says.owner_there
    ∙ ap (λ (o : Option (List ℕ)). method_entry p (record { owner = t.says.owner; name = or_empty o; desc = text pool t.says.d })) t.says.name_there
    ∙ ap (λ (o : Option (List ℕ)). method_entry p (record { owner = t.says.owner; name = t.says.name; desc = or_empty o })) t.says.desc_there

referred : (p : Program) (pool : List Entry) (i : ℕ) (t : Target pool i) (begun : Bool) (c : CallMeaning) → entry_meant p pool (slice_get pool i) ≡ Some (AMethod begun c) → IsReferred p pool i t begun c
unfolding call_meant
referred p pool i t begun c e =
    let r = map_is (AMethod (bytes_eq t.says.name init)) (call_meant p (said pool i t)) (AMethod begun c) (sym (said_is p pool i t) ∙ e) in
    let is : AMethod (bytes_eq t.says.name init) r.0 ≡ AMethod begun c = r.2 in
    let says : bytes_eq t.says.name init ≡ begun = cc in
    let same : r.0 ≡ c = cc in
    let meant : call_meant p (said pool i t) ≡ Some c = r.1 ∙ ap (λ (x : CallMeaning). Some x) same in
    let m = method_is t.says.owner (resolve_method p t.says.owner t.says.name t.says.desc) (typed p t.says.desc) c meant in
    record { says = says; found = m.found; owned = ap (λ (x : Name). x.0) m.owned; types = m.types }

-- ---- what it is resolved to is called so

resolved_name : (p : Program) (owner called desc : List ℕ) (m : Member) → resolve_method p owner called desc ≡ Some m → name_of p m ≡ called
unfolding resolve_method
resolved_name p owner called desc m e = by (bytes_eq called init) e
  where
    along : (xs : List (List ℕ)) → first_some (method_at p called desc) xs ≡ Some m → name_of p m ≡ called
    along xs h = let r = first_in (method_at p called desc) xs m h in (method_called p called desc r.0 m r.2).0

    by : (b : Bool) → (if b then method_at p called desc owner else or_else (first_some (method_at p called desc) (up p owner))
        (first_some (λ x. first_some (method_at p called desc) (superinterfaces p x)) (up p owner))) ≡ Some m → name_of p m ≡ called
    by true h = (method_called p called desc owner m h).0
    by false h =
        either (first_some (method_at p called desc) (up p owner)) (first_some (λ x. first_some (method_at p called desc) (superinterfaces p x)) (up p owner)) m h
        (along (up p owner))
        (λ g. (let r = first_in (λ x. first_some (method_at p called desc) (superinterfaces p x)) (up p owner) m g in along (superinterfaces p r.0) r.2))

-- ---- the tests

differ_none : (a b : Bool) → differs a b ≡ false → b ≡ a
differ_none true true h = refl
differ_none true false h = absurd cc
differ_none false true h = absurd cc
differ_none false false h = refl

-- what the tests of a call say of its use
record IsUsed (u : MemberUse) (m : MemberFacts) (op : CallOp) : Type 0 where
  static : m.is_static ≡ ProofNames.calls_static op
  crossed : u.crossed ≡ false
  called : is_miscalled op u m ≡ false
  sort : is_virtual op ≡ false → u.of_interface ≡ false

sort_none : (a b c : Bool) → fault_if (a || (not b && c)) LeftOut ≡ None → b ≡ false → c ≡ false
sort_none true b c h e = absurd cc
sort_none false true c h e = absurd cc
sort_none false false true h e = absurd cc
sort_none false false false h e = refl

use_none : (op : CallOp) (u : MemberUse) (m : MemberFacts) → u.member ≡ Some m → call_test op u ≡ None → IsUsed u m op
use_none op u m at none =
    let rest = none_of u.names (or_else (call_left_out_test op u) (call_member_test op u)) none in
    let both = none_of (call_left_out_test op u) (call_member_test op u) rest.1 in
    let member : called_test op u (Some m) ≡ None = sym (ap (called_test op u) at) ∙ both.1 in
    let one = no_fault (differs (ProofNames.calls_static op) m.is_static || (u.crossed || is_miscalled op u m)) BadUse (none_of (access_test false m) (call_use_test op u m) member).1 in
    let two = or_parts (differs (ProofNames.calls_static op) m.is_static) (u.crossed || is_miscalled op u m) one in
    let three = or_parts u.crossed (is_miscalled op u m) two.1 in
    record { static = differ_none (ProofNames.calls_static op) m.is_static two.0; crossed = three.0; called = three.1; sort = sort_none u.barred (is_virtual op) u.of_interface both.0 }

record IsFaced (u : MemberUse) (m : MemberFacts) : Type 0 where
  static : m.is_static ≡ false
  crossed : u.crossed ≡ false
  plain : u.init ≡ false

face_none : (slots : ℕ) (u : MemberUse) (m : MemberFacts) → u.member ≡ Some m → interface_test slots u ≡ None → IsFaced u m
face_none slots u m at none =
    let rest = none_of u.names (or_else (fault_if u.barred LeftOut) (interface_member_test slots u)) none in
    let both = none_of (fault_if u.barred LeftOut) (interface_member_test slots u) rest.1 in
    let member : called_by_interface_test slots u (Some m) ≡ None = sym (ap (called_by_interface_test slots u) at) ∙ both.1 in
    let one = no_fault (is_misused slots u m) BadUse (none_of (access_test false m) (fault_if (is_misused slots u m) BadUse) member).1 in
    let others = u.init || (m.is_private || not (counts slots u.slots)) in
    let two = or_parts m.is_static (u.crossed || others) one in
    let three = or_parts u.crossed others two.1 in
    record { static = two.0; crossed = three.0; plain = (or_parts u.init (m.is_private || not (counts slots u.slots)) three.1).0 }

-- ---- other instructions

abbrev is_call : PoolForm → Bool
is_call (pool.Call op n) = true
is_call (pool.CallInterface n slots) = true
is_call g = false

other_apart : {P : Type 0} (by : InvokeKind) (c : CallMeaning) (g : PoolForm) (x : EntryMeaning) → is_call g ≡ false → used g x ≡ Some (Call by c) → P
other_apart by c (pool.New n) (AClass t) h e = made_apart by c t e
other_apart by c (pool.Constant n) (AConstant (meanings.Int i)) h e = absurd cc
other_apart by c (pool.LongConstant n) (AConstant (meanings.Int i)) h e = absurd cc
other_apart by c (pool.Field op n) (AField f) h e = absurd cc
other_apart by c (pool.Cast op n) (AClass t) h e = absurd cc
other_apart by c g x h e = absurd cc

pool_apart : {P : Type 0} (p : Program) (es : List Entry) (by : InvokeKind) (c : CallMeaning) (g : PoolForm) → is_call g ≡ false → option_map Used (meant p es g) ≡ Some (Used (Call by c)) → P
unfolding meant
pool_apart p es by c g h e =
    let r = map_is Used (meant p es g) (Used (Call by c)) e in
    let is : Used r.0 ≡ Used (Call by c) = r.2 in
    let same : r.0 ≡ Call by c = cc in
    let x = then_is (used g) (entry_meant p es (slice_get es (index_of g))) (Call by c) (r.1 ∙ ap (λ (m : Meaning). Some m) same) in
    other_apart by c g x.0 h x.2

-- what an entry means by which an instruction calls
pool_call : (p : Program) (es : List Entry) (by : InvokeKind) (c : CallMeaning) (g : PoolForm) → option_map Used (meant p es g) ≡ Some (Used (Call by c)) → (x : EntryMeaning) × (entry_meant p es (slice_get es (index_of g)) ≡ Some x) × (used g x ≡ Some (Call by c))
unfolding meant
pool_call p es by c g e =
    let r = map_is Used (meant p es g) (Used (Call by c)) e in
    let is : Used r.0 ≡ Used (Call by c) = r.2 in
    let same : r.0 ≡ Call by c = cc in
    then_is (used g) (entry_meant p es (slice_get es (index_of g))) (Call by c) (r.1 ∙ ap (λ (m : Meaning). Some m) same)

-- ---- the kind of its entry

record HasKind (o : Option Entry) (b : Bool) : Type 0 where
  kind : Bool
  is : kind_in o ≡ Some kind
  alone : b ≡ true → kind ≡ false

method_kind : (o : Option Entry) → is_method o ≡ true → kind_in o ≡ Some false
method_kind (Some (entries.Method class both)) h = refl
method_kind o h = absurd cc

face_kind : (o : Option Entry) → is_interface_method o ≡ true → kind_in o ≡ Some true
face_kind (Some (entries.InterfaceMethod class both)) h = refl
face_kind o h = absurd cc

any_kind : (o : Option Entry) → (is_method o || is_interface_method o) ≡ true → HasKind o false
any_kind (Some (entries.Method class both)) h = record { kind = false; is = refl; alone = λ k. refl }
any_kind (Some (entries.InterfaceMethod class both)) h = record { kind = true; is = refl; alone = λ k. cc }
any_kind o h = absurd cc

called_kind : (op : CallOp) (o : Option Entry) → is_called op o ≡ true → HasKind o (is_virtual op)
called_kind calls.Virtual o h = record { kind = false; is = method_kind o h; alone = λ k. refl }
called_kind calls.Special o h = any_kind o h
called_kind calls.Static o h = any_kind o h

-- the reference at an index is of the kind of its entry
interface_is : (es : List Entry) (n : ℕ) (t : Target es n) (b : Bool) → kind_in (slice_get es n) ≡ Some b → t.interface ≡ b
interface_is es n t b e =
    let both : Some t.interface ≡ Some b = sym (ap kind_in t.there ∙ kind_of_reference t.interface t.class t.two) ∙ e in
    cc

-- ---- all

module _ (p : Program) (c : ClassParts) (kept : names_reserved c ≡ false) (sound : IsSound c.pool) where
  abbrev from : List ℕ
  from = this_name c

  module _ (i : ℕ) (t : Target c.pool i) (begun : Bool) (d : CallMeaning) (r : IsReferred p c.pool i t begun d) where
    abbrev use_of : MemberUse
    use_of = call_use p from t.interface t.says.owner t.says.name t.says.desc

    abbrev facts : MemberFacts
    facts = facts_of p from d.member

    member_is : use_of.member ≡ Some facts
    member_is = ap (option_map (facts_of p from)) r.found

    called_is : name_of p d.member ≡ t.says.name
    called_is = resolved_name p t.says.owner t.says.name t.says.desc d.member r.found

    resolved_is : resolve_method p d.owner.0 (name_of p d.member) (desc_of p d.member) ≡ Some d.member
    resolved_is =
        ap (λ (o : List ℕ). resolve_method p o (name_of p d.member) (desc_of p d.member)) r.owned
        ∙ ap (λ (n : List ℕ). resolve_method p t.says.owner n (desc_of p d.member)) called_is
        ∙ ap (resolve_method p t.says.owner t.says.name) (resolved_desc p t.says.owner t.says.name t.says.desc d.member r.found)
        ∙ r.found

    call_of : (by : InvokeKind) → begun ≡ begins by → facts.is_static ≡ calls_static by → holds is_interface (find p t.says.owner) ≡ by_interface by → (by ≡ how.Special → extends p from t.says.owner ≡ true) → IsResolvedCall p from by d
    call_of by start static crossed upward = record {
      resolved = resolved_is;
      plain = ap is_reserved r.owned ∙ plain_owner t.says.owner (owner_kept c t.class t.two kept t.says);
      begins = ap (λ (n : List ℕ). bytes_eq n init) called_is ∙ r.says ∙ start;
      static = static;
      crossed = ap (λ (o : List ℕ). holds is_interface (find p o)) r.owned ∙ crossed;
      upward = λ e. ap (extends p from) r.owned ∙ upward e;
      types = ap (typed p) (resolved_desc p t.says.owner t.says.name t.says.desc d.member r.found) ∙ r.types;
    }

    crossed_plain : (b : Bool) → t.interface ≡ b → b ≡ false → use_of.crossed ≡ false → holds is_interface (find p t.says.owner) ≡ false
    crossed_plain b is h e = sym (ap (λ (x : Bool). references.is_crossed (sort_by x) (holds is_interface (find p t.says.owner))) (is ∙ h)) ∙ e

    crossed_face : t.interface ≡ true → use_of.crossed ≡ false → holds is_interface (find p t.says.owner) ≡ true
    crossed_face is e = not_none (holds is_interface (find p t.says.owner)) (sym (ap (λ (x : Bool). references.is_crossed (sort_by x) (holds is_interface (find p t.says.owner))) is) ∙ e)

    of_interface_is : use_of.of_interface ≡ false → t.interface ≡ false
    of_interface_is e = by t.interface e
      where
        by : (b : Bool) → ProofNames.is_of_interface (sort_by b) ≡ false → b ≡ false
        by true h = absurd cc
        by false h = refl

    op_call : (op : CallOp) → (is_virtual op ≡ true → t.interface ≡ false) → IsUsed use_of facts op → IsResolvedCall p from (how_of op begun) d
    op_call calls.Virtual alone u =
        call_of how.Virtual (sym r.says ∙ (or_parts use_of.init facts.is_private u.called).0) u.static (crossed_plain t.interface refl (alone refl) u.crossed) (λ e. absurd (apart e))
      where
        apart : how.Virtual ≡ how.Special → ⊥
        apart e = cc
    op_call calls.Static alone u =
        call_of how.Static (sym r.says ∙ u.called) u.static (crossed_plain t.interface refl (of_interface_is (u.sort refl)) u.crossed) (λ e. absurd (apart e))
      where
        apart : how.Static ≡ how.Special → ⊥
        apart e = cc
    op_call calls.Special alone u = by begun refl
      where
        apart : how.Init ≡ how.Special → ⊥
        apart e = cc

        either_up : (a b : Bool) → a ≡ false → not (a || b) ≡ false → b ≡ true
        either_up true b h e = absurd cc
        either_up false b h e = not_none b e

        by : (b : Bool) → begun ≡ b → IsResolvedCall p from (if b then how.Init else how.Special) d
        by true e = call_of how.Init e u.static (crossed_plain t.interface refl (of_interface_is (u.sort refl)) u.crossed) (λ e. absurd (apart e))
        by false e = call_of how.Special e u.static (crossed_plain t.interface refl (of_interface_is (u.sort refl)) u.crossed) (λ k. either_up use_of.init use_of.upward (r.says ∙ e) u.called)

    face_call : t.interface ≡ true → IsFaced use_of facts → IsResolvedCall p from how.Interface d
    face_call is u = call_of how.Interface (sym r.says ∙ u.plain) u.static (crossed_face is u.crossed) (λ e. absurd (apart e))
      where
        apart : how.Interface ≡ how.Special → ⊥
        apart e = cc

  module _ (by : InvokeKind) (d : CallMeaning) (body : List Placed) (at : ℕ) where
    called_by : (op : CallOp) (n : ℕ) → is_called op (slice_get c.pool n) ≡ true → call_at (judge_pool p c) op n ≡ None → option_map Used (meant p c.pool (pool.Call op n)) ≡ Some (Used (Call by d)) → IsResolvedCall p from by d
    called_by op n well none e =
        let x = pool_call p c.pool by d (pool.Call op n) e in
        let so = called_so by d op n x.0 x.2 in
        let k = called_kind op (slice_get c.pool n) well in
        let t = target_of c.pool n k.kind sound k.is in
        let r = referred p c.pool n t so.begun d (x.1 ∙ ap (λ (y : EntryMeaning). Some y) so.is) in
        let test : call_test op (use_of n t so.begun d r) ≡ None = sym (ap (or_no_member (call_test op)) (target_use p from c.pool n t)) ∙ none in
        subst (λ (w : InvokeKind). IsResolvedCall p from w d) so.so (op_call n t so.begun d r op (λ v. interface_is c.pool n t k.kind k.is ∙ k.alone v) (use_none op (use_of n t so.begun d r) (facts n t so.begun d r) (member_is n t so.begun d r) test))

    faced_by : (n slots : ℕ) → is_interface_method (slice_get c.pool n) ≡ true → interface_call_at (judge_pool p c) n slots ≡ None → option_map Used (meant p c.pool (pool.CallInterface n slots)) ≡ Some (Used (Call by d)) → IsResolvedCall p from by d
    faced_by n slots well none e =
        let x = pool_call p c.pool by d (pool.CallInterface n slots) e in
        let so = faced_so by d n slots x.0 x.2 in
        let t = target_of c.pool n true sound (face_kind (slice_get c.pool n) well) in
        let r = referred p c.pool n t so.begun d (x.1 ∙ ap (λ (y : EntryMeaning). Some y) so.is) in
        let test : interface_test slots (use_of n t so.begun d r) ≡ None = sym (ap (or_no_member (interface_test slots)) (target_use p from c.pool n t)) ∙ none in
        subst (λ (w : InvokeKind). IsResolvedCall p from w d) so.so (face_call n t so.begun d r (interface_is c.pool n t true (face_kind (slice_get c.pool n) well)) (face_none slots (use_of n t so.begun d r) (facts n t so.begun d r) (member_is n t so.begun d r) test))

    op_is : (op : Op) → IsTrue (names_well c.pool op) → form_test (judge_pool p c) (form op) ≡ None → by_form p c.pool body at (form op) ≡ Some (Used (Call by d)) → IsResolvedCall p from by d
    unfolding form names_well
    op_is (ops.Call op n) well none e = called_by op n well none e
    op_is (ops.CallInterface n slots) well none e = faced_by n slots well none e
    op_is (ops.Ldc op) well none e = pool_apart p c.pool by d (pool.Constant (ldc_index op)) refl e
    op_is (ops.Ldc2 n) well none e = pool_apart p c.pool by d (pool.LongConstant n) refl e
    op_is (ops.Field op n) well none e = pool_apart p c.pool by d (pool.Field op n) refl e
    op_is (ops.Cast op n) well none e = pool_apart p c.pool by d (pool.Cast op n) refl e
    op_is (ops.New (news.Object n)) well none e = pool_apart p c.pool by d (pool.New n) refl e
    op_is (ops.New (news.Array element)) well none e = absurd cc
    op_is (ops.New (news.RefArray n)) well none e = array_apart p c.pool by d (arrays.NewRef n) e
    op_is (ops.If test k) well none e = absurd (flow_apart body at (flows.If test k) (Call by d) e)
    op_is (ops.IfInt test k) well none e = absurd (flow_apart body at (flows.IfInt test k) (Call by d) e)
    op_is (ops.IfRef test k) well none e = absurd (flow_apart body at (flows.IfRef test k) (Call by d) e)
    op_is (ops.Goto op) well none e = absurd (flow_apart body at (flows.Goto (distance op)) (Call by d) e)
    op_is (ops.Switch switch) well none e = absurd (flow_apart body at (flows.Switch switch) (Call by d) e)
    op_is (ops.Return kind) well none e = absurd cc
    op_is (ops.Object objects.ArrayLength) well none e = absurd cc
    op_is (ops.Object objects.Throw) well none e = absurd cc
    op_is op well none e = absurd cc

    placed_is : (one : Placed) → IsTrue (names_well c.pool one.op) → form_test (judge_pool p c) (form one.op) ≡ None → at ≡ one.at → instruction p c.pool body one ≡ Some (Used (Call by d)) → IsResolvedCall p from by d
    unfolding instruction
    placed_is one well none same e = op_is one.op well none (ap (λ (n : ℕ). by_form p c.pool body n (form one.op)) same ∙ e)

module _ (p : Program) (is : IsLinked p) where
  at_body : (m : MethodId) (i : ℕ) (by : InvokeKind) (d : CallMeaning) (body : CodeBody) (r : IsCoded p m body) → instruction_at p m i ≡ Some (Used (Call by d)) → IsResolvedCall p (this_name r.part.class) by d
  at_body m i by d body r e =
      let file = r.part.class in
      let fit = is.files m.class r.part r.stands in
      let x = then_is (instruction p file.pool body.ops) (slice_get body.ops i) (Used (Call by d)) (sym (at_code p m body i r) ∙ e) in
      let has = has_code file r.method body fit (m.method, r.declared) r.coded in
      let fault = class_none p m.class r.part (code_none p is.links.rules) r.stands in
      let test = op_form_none (judge_pool p file) x.0 (op_none p m.class file m.method r.method body i x.0 fault r.declared r.coded x.1) in
      placed_is p file (plain_at p (is_plain p is) m.class r.part r.stands).kept (sound_of file fit) by d body.ops x.0.at x.0 (named_well file body x.0 has (i, x.1)) test refl x.2

  -- the class of a method that has code, and what is said of a call in it
  pub record CallSays (m : MethodId) (by : InvokeKind) (d : CallMeaning) : Type 0 where
    pub part : CodePart
    pub at : slice_get p.parts m.class ≡ Some part
    pub says : IsResolvedCall p (this_name part.class) by d

  pub call_says : (m : MethodId) (i : ℕ) (by : InvokeKind) (d : CallMeaning) → instruction_at p m i ≡ Some (Used (Call by d)) → CallSays m by d
  call_says m i by d e =
      let b = has_body p is.links m i (Used (Call by d)) e in
      let r = coded p m b.body b.is in
      record { part = r.part; at = r.stands; says = at_body m i by d b.body r e }

pub resolved_so : (p : Program) (m : MethodId) (part : CodePart) (n : ℕ) (by : InvokeKind) (c : CallMeaning) → IsLinked p → slice_get p.parts m.class ≡ Some part → instruction_at p m n ≡ Some (Used (Call by c))
    → IsResolvedCall p (this_name part.class) by c
resolved_so p m part n by c is at e =
    let r = call_says p is m n by c e in
    let both : Some r.part ≡ Some part = sym r.at ∙ at in
    let same : r.part ≡ part = cc in
    subst (λ (x : CodePart). IsResolvedCall p (this_name x.class) by c) same r.says
