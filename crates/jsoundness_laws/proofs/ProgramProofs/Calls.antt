-- What linking says of a call that an instruction names.
use Rattle.std.proofs.Common.{◌≡◌, ◌∙◌, inl, inr, ℕ, ◌||◌, Bool, true, false, not, List, Option, Some, None, refl, sym, ap, subst}
use Rattle.std.specs.Prelude.{option_and_then, option_map, slice_get}
use Rattle.std.specs.List.{AllByRecursion}
use Rattle.std.specs.Option.{IsSome}
use Rattle.std.specs.Str.{bytes_eq}
use Rattle.std.proofs.lemmas.Bool.{or_parts}
use Rattle.std.proofs.lemmas.Option.{slice_get-map}
use Rattle.jground.specs.jbase.FirstFaults.{fault_if}
use Rattle.jground.proofs.JbaseProofs.Firsts.{none_of}
use Rattle.jparts.specs.declared.jpool.entry.Entry.{Entry}
use Rattle.jparts.specs.declared.jcode.names.CallOp.{CallOp}
use Rattle.jparts.specs.declared.jcode.names.CallOp.TheVariants as ops
use Rattle.jclass.specs.declared.class.ClassParts.{ClassParts}
use Rattle.jtypes.specs.declared.vtype.Name.{Name}
use Rattle.jlib.specs.declared.calls.LibCall.{LibCall}
use Rattle.jlib.specs.LibraryMembers as library_calls
use Rattle.jlib.specs.LibraryClasses as library
use Rattle.jlib.proofs.LibraryLookup.{class_found}
use Rattle.jresolution.specs.declared.jprogram.fault.LinkKind.TheVariants.{BadUse, LeftOut}
use Rattle.jresolution.specs.declared.jprogram.member.Member.TheVariants.{LibMethod, Method}
use Rattle.jresolution.specs.declared.jprogram.member.MethodId.{MethodId}
use Rattle.jresolution.specs.declared.jprogram.part.ClassRef.TheVariants as refs
use Rattle.jresolution.specs.jprogram.ClassFileParts as parts
use Rattle.jresolution.specs.jprogram.ClassFileParts.{this_name}
use Rattle.jresolution.specs.jprogram.ProgramClasses.{Program, extends, find, holds, is_interface, name_at}
use Rattle.jresolution.specs.jprogram.MemberResolution.{desc_of, info_of, init, is_abstract, is_static, looked_up, method_at, method_id, name_of, referred, resolve_method, user_is}
use Rattle.jresolution.specs.jprogram.OrderedPrograms.{StandsInOrder}
use Rattle.jresolution.proofs.JprogramProofs.CycleSearch.{all_weaken}
use Rattle.jresolution.specs.declared.juses.meaning.InvokeKind.{InvokeKind}
use Rattle.jresolution.specs.declared.juses.meaning.InvokeKind.TheVariants as how
use Rattle.jresolution.specs.juses.InstructionMeanings.{CallMeaning, Reference, reference}
use Rattle.jresolution.specs.juses.DescriptorTypes.{Called, typed}
use Rattle.jlinking.specs.declared.jreferring.judged.Judged.{Judged}
use Rattle.jlinking.specs.declared.jreferring.judged.Judged.TheVariants as judged
use Rattle.jlinking.specs.declared.jreferring.judged.MemberFacts.{MemberFacts}
use Rattle.jlinking.specs.declared.jreferring.judged.MemberUse.{MemberUse}
use Rattle.jlinking.specs.declared.jreferring.judged.Sort.{Sort}
use Rattle.jlinking.specs.declared.jreferring.judged.Sort.TheVariants as sort
use Rattle.jlinking.specs.jreferring.PoolEntryMeanings as judging
use Rattle.jlinking.specs.jreferring.PoolEntryMeanings.{entry_of, judge, judge_pool}
use Rattle.jlinking.specs.jreferring.ReferenceUses.{access_test, call_left_out_test, call_test, call_use_test, called_by_interface_test, called_test, counts, differs}
use Rattle.jlinking.specs.ProofNames.{calls_static, call_at, interface_call_at, member_in}
use Rattle.jlinking.specs.jreferring.ReferenceUses.{facts_of, interface_test, is_miscalled, is_misused}
use Rattle.jlinking.specs.jreferring.CodeUnits.{member_at, or_no_member}
use Rattle.jlinking.specs.jlink.NamedCalls.{begins}
use Rattle.jlinking.specs.jlink.ProgramFiles.{AreFiles}
use Rattle.jlinking.specs.jlink.LinkedPrograms.{Links}
use Rattle.jlinking.specs.jlink.ClassOrder.{in_order}
use Rattle.jlinking.proofs.JlinkProofs.PresentValues.{is_there}
use Rattle.jlinking.proofs.JlinkProofs.MethodSelection.{method_called}
use Rattle.jlinking.proofs.JlinkProofs.ResolvedReferences.{third_none}
use Rattle.jlinking.proofs.JlinkProofs.DescriptorTypes.{no_fault}
use Rattle.jsoundness_laws.specs.typed.TypedCalls.{IsCall, IsInit, is_static_call}
use Rattle.jsoundness_laws.specs.typed.RuntimeAssignability.{IsValueType}
use Rattle.jsoundness_laws.specs.typed.ProgressLaws.{HasCode}
use Rattle.jsoundness_laws.specs.typed.TypedValues.{HasDimensions}
use Rattle.jsoundness_laws.proofs.TypedProofs.Dimensions.{IsNamed, IsTypedNamed, typed_named}
use Rattle.jsoundness_laws.proofs.ProgramProofs.Codes.{face_abstract}
use Rattle.jsoundness_laws.proofs.ProgramProofs.MethodDeclarations.{Faced, IsDeclared, IsLibs, IsResolved, IsUsers, Upward, begun_at, declared_at, declared_is, name_is, resolved_at}
use Rattle.jsoundness_laws.proofs.ProgramProofs.Entries.{IsCallEntry}
use Rattle.jsoundness_laws.proofs.ProgramProofs.Libraries.{one_name}
use Rattle.jlinking.proofs.JlinkProofs.FieldResolution.{differs_not}

-- ---- the tests of its use

-- it is static where the instruction takes a static one, and called as it may be
record IsUsed (op : CallOp) (u : MemberUse) (m : MemberFacts) : Type 0 where
  static : m.is_static ≡ calls_static op
  called : is_miscalled op u m ≡ false

used_is : (op : CallOp) (u : MemberUse) (m : MemberFacts) → call_test op u ≡ None → u.member ≡ Some m → IsUsed op u m
used_is op u m test is =
    let last : called_test op u u.member ≡ None = third_none u.names (call_left_out_test op u) (called_test op u u.member) test in
    let none : called_test op u (Some m) ≡ None = sym (ap (called_test op u) is) ∙ last in
    let use_none = (none_of (access_test false m) (call_use_test op u m) none).1 in
    let rest = u.crossed || is_miscalled op u m in
    let one = or_parts (differs (calls_static op) m.is_static) rest (no_fault (differs (calls_static op) m.is_static || rest) BadUse use_none) in
    record { static = differs_not (calls_static op) m.is_static one.0; called = (or_parts u.crossed (is_miscalled op u m) one.1).1 }

record IsFaceUse (u : MemberUse) (m : MemberFacts) : Type 0 where
  static : m.is_static ≡ false
  init : u.init ≡ false

face_use_is : (slots : ℕ) (u : MemberUse) (m : MemberFacts) → interface_test slots u ≡ None → u.member ≡ Some m → IsFaceUse u m
face_use_is slots u m test is =
    let last : called_by_interface_test slots u u.member ≡ None = third_none u.names (fault_if u.barred LeftOut) (called_by_interface_test slots u u.member) test in
    let none : called_by_interface_test slots u (Some m) ≡ None = sym (ap (called_by_interface_test slots u) is) ∙ last in
    let one = no_fault (is_misused slots u m) BadUse ((none_of (access_test false m) (fault_if (is_misused slots u m) BadUse) none).1) in
    let rest = u.init || (m.is_private || not (counts slots u.slots)) in
    let two = or_parts m.is_static (u.crossed || rest) one in
    let three = (or_parts u.crossed rest two.1).1 in
    record { static = two.0; init = (or_parts u.init (m.is_private || not (counts slots u.slots)) three).0 }

both_ways : {P : Type 0} (b : Bool) → b ≡ true → b ≡ false → P
both_ways true is isnt = absurd cc
both_ways false is isnt = absurd cc

-- ---- the call

module _ (p : Program) (links : Links p) (files : AreFiles p) (c : ClassParts) (n : ℕ) (begun : Bool) (d : CallMeaning)
    (r : IsCallEntry p c.pool (slice_get c.pool n) begun d) where
  abbrev good : StandsInOrder p
  good = in_order p links

  abbrev from : List ℕ
  from = this_name c

  abbrev ref : Reference
  ref = reference c.pool r.class r.named

  abbrev use_of : MemberUse
  use_of = judging.reference p from c.pool r.kind r.class r.both

  judged_is : (kind : Sort) → judge p from c.pool (entry_of kind r.class r.both) ≡ judged.Member (judging.reference p from c.pool kind r.class r.both)
  unfolding judge
  judged_is sort.Field = refl
  judged_is sort.Method = refl
  judged_is sort.InterfaceMethod = refl

  use_at : member_at (judge_pool p c) n ≡ Some use_of
  use_at =
      ap member_in (slice_get-map (judge p from c.pool) c.pool n) ∙ ap (λ (e : Option Entry). member_in (option_map (judge p from c.pool) e)) r.is
      ∙ ap (λ (j : Judged). member_in (Some j)) (judged_is r.kind)

  member_is : use_of.member ≡ Some (facts_of p from d.member)
  unfolding judging.reference
  member_is =
      ap (λ (e : Option Entry). option_map (facts_of p from) (referred p c.pool e)) (sym r.is)
      ∙ ap (option_map (facts_of p from)) r.refers
      ∙ ap (λ (o : Option (ℕ × ℕ)). option_map (facts_of p from) (option_and_then (looked_up c.pool r.class (resolve_method p)) o)) r.at
      ∙ ap (option_map (facts_of p from)) r.says.found

  init_is : use_of.init ≡ begun
  unfolding judging.reference
  init_is = ap (λ (o : Option (ℕ × ℕ)). bytes_eq (judging.name_in c.pool o) init) r.at ∙ r.begins

  owner_is : d.owner.0 ≡ ref.owner
  owner_is = ap (λ (x : Name). x.0) r.says.owned

  -- ---- its types

  named : AllByRecursion IsNamed d.params
  named = (subst (IsTypedNamed p) r.says.says (typed_named p ref.desc)).0

  values : AllByRecursion IsValueType d.params
  values = all_weaken IsNamed IsValueType (λ t h. h.0) d.params named

  dimensions : AllByRecursion HasDimensions d.params
  dimensions = all_weaken IsNamed HasDimensions (λ t h. h.1) d.params named

  -- ---- a class that declares it

  module _ (x : List ℕ) (at : method_at p ref.name ref.desc x ≡ Some d.member) where
    declared : IsDeclared p x d.member
    declared = declared_at p ref.name ref.desc x d.member at

    called_is : (name_of p d.member ≡ ref.name) × (desc_of p d.member ≡ ref.desc)
    called_is = method_called p ref.name ref.desc x d.member at

    typed_is : typed p (desc_of p d.member) ≡ Called d.params d.ret
    typed_is = ap (typed p) called_is.1 ∙ r.says.says

    there : (m : MethodId) → d.member ≡ Method m → IsSome (info_of p (Method m))
    there m e = elim declared [
      | inl u ↦ is_there (info_of p (Method m)) (u.part.class, u.info) (ap (info_of p) (sym e) ∙ declared_is p x d.member u)
      | inr l ↦ let both : LibMethod l.call ≡ Method m = sym l.is ∙ e in absurd cc
    ]

    -- a user's method
    users : (m : MethodId) → d.member ≡ Method m → IsUsers p x d.member
    users m e = elim declared [
      | inl u ↦ u
      | inr l ↦ let both : LibMethod l.call ≡ Method m = sym l.is ∙ e in absurd cc
    ]

    libs : (call : LibCall) → d.member ≡ LibMethod call → IsLibs p x d.member
    libs call e = elim declared [
      | inl u ↦ let both : Method (method_id u.i u.j) ≡ LibMethod call = sym u.is ∙ e in absurd cc
      | inr l ↦ l
    ]

    class_is : (m : MethodId) → d.member ≡ Method m → name_at p (refs.User m.class) ≡ x
    class_is m e =
        let u = users m e in
        let both : Method m ≡ Method (method_id u.i u.j) = sym e ∙ u.is in
        let same : m ≡ method_id u.i u.j = cc in
        ap (λ (k : MethodId). name_at p (refs.User k.class)) same ∙ name_is p x d.member u

    owner_name : (call : LibCall) → d.member ≡ LibMethod call → library.name_of (library_calls.owner call) ≡ x
    owner_name call e =
        let l = libs call e in
        let both : LibMethod call ≡ LibMethod l.call = sym e ∙ l.is in
        let same : call ≡ l.call = cc in
        ap (λ (k : LibCall). library.name_of (library_calls.owner k)) same ∙ l.own

    -- an interface declares no code

    no_face : holds is_interface (find p x) ≡ true → (m : MethodId) → d.member ≡ Method m → is_abstract p (Method m) ≡ false → ⊥
    unfolding is_abstract
    no_face face m e concrete =
        let u = users m e in
        let flag : parts.is_interface u.part.class.flags ≡ true = sym (ap (holds is_interface) u.found) ∙ face in
        let abstract_one = face_abstract p links files u.i u.part u.j u.info u.stand u.at flag in
        let info : info_of p (Method m) ≡ Some (u.part.class, u.info) = ap (info_of p) (sym e) ∙ declared_is p x d.member u in
        let same : is_abstract p (Method m) ≡ parts.is_abstract u.info.flags = ap (user_is (λ one. parts.is_abstract one.flags)) info in
        both_ways (is_abstract p (Method m)) (same ∙ abstract_one) concrete

    no_library_face : holds is_interface (find p x) ≡ true → (call : LibCall) → d.member ≡ LibMethod call → HasCode call → ⊥
    no_library_face face call e code =
        let l = libs call e in
        let flag : library.is_interface l.class ≡ true = sym (ap (holds is_interface) l.found) ∙ face in
        let same : library_calls.owner call ≡ l.class = one_name (library_calls.owner call) l.class (owner_name call e ∙ sym (class_found p.side x l.class l.called).0) in
        both_ways (library.is_interface (library_calls.owner call)) (ap library.is_interface same ∙ flag) code

  -- ---- all

  -- where it stands
  record IsPlaced : Type 0 where
    class : List ℕ
    at : method_at p ref.name ref.desc class ≡ Some d.member
    owned : (m : MethodId) → d.member ≡ Method m → is_abstract p (Method m) ≡ false → extends p ref.owner (name_at p (refs.User m.class)) ≡ true
    library : (x : LibCall) → d.member ≡ LibMethod x → HasCode x → extends p ref.owner (library.name_of (library_calls.owner x)) ≡ true

  placed : begun ≡ false → IsPlaced
  placed apart = by (resolved_at p good ref.owner ref.name ref.desc d.member (r.begins ∙ apart) r.says.found)
    where
      by : IsResolved p ref.owner ref.name ref.desc d.member → IsPlaced
      by (Upward x up at) = record {
        class = x;
        at = at;
        owned = λ m e concrete. ap (extends p ref.owner) (class_is x at m e) ∙ up;
        library = λ call e code. ap (extends p ref.owner) (owner_name x at call e) ∙ up;
      }
      by (Faced x face at) = record {
        class = x;
        at = at;
        owned = λ m e concrete. absurd (no_face x at face m e concrete);
        library = λ call e code. absurd (no_library_face x at face call e code);
      }

  call_is : (by : InvokeKind) → begins by ≡ false → begun ≡ false → is_static p d.member ≡ is_static_call by → IsCall p by d
  call_is by plain apart static =
      let at = placed apart in
      let one : name_of p d.member ≡ ref.name = (called_is at.class at.at).0 in
      record {
        named = record {
          plain = λ h. ap (λ (x : List ℕ). bytes_eq x init) one ∙ r.begins ∙ apart;
          owned = λ x is member. both_ways (begins by) is plain;
        };
        values = values;
        dimensions = dimensions;
        typed_as = typed_is at.class at.at;
        static = static;
        there = there at.class at.at;
        owned = λ m e concrete. ap (λ (x : List ℕ). extends p x (name_at p (refs.User m.class))) owner_is ∙ at.owned m e concrete;
        library = λ x e code. ap (λ (y : List ℕ). extends p y (library.name_of (library_calls.owner x))) owner_is ∙ at.library x e code;
      }

  begins_is : begun ≡ true → is_static p d.member ≡ false → IsInit p d
  begins_is is static =
      let at = begun_at p ref.owner ref.name ref.desc d.member (r.begins ∙ is) r.says.found in
      record {
        values = values;
        dimensions = dimensions;
        typed_as = typed_is ref.owner at;
        static = static;
        named = ap (λ (x : List ℕ). bytes_eq x init) (called_is ref.owner at).0 ∙ r.begins ∙ is;
        there = there ref.owner at;
        owned = λ m e. class_is ref.owner at m e ∙ sym owner_is;
        library = λ x e. owner_name ref.owner at x e ∙ sym owner_is;
      }

  -- invokevirtual, invokespecial, invokestatic

  op_used : (op : CallOp) → call_at (judge_pool p c) op n ≡ None → IsUsed op use_of (facts_of p from d.member)
  op_used op none = used_is op use_of (facts_of p from d.member) (sym (ap (or_no_member (call_test op)) use_at) ∙ none) member_is

  pub virtual_is : call_at (judge_pool p c) ops.Virtual n ≡ None → IsCall p how.Virtual d
  virtual_is none =
      let used = op_used ops.Virtual none in
      call_is how.Virtual refl (sym init_is ∙ (or_parts use_of.init _ used.called).0) used.static

  pub static_is : call_at (judge_pool p c) ops.Static n ≡ None → IsCall p how.Static d
  static_is none =
      let used = op_used ops.Static none in
      call_is how.Static refl (sym init_is ∙ used.called) used.static

  pub special_is : begun ≡ false → call_at (judge_pool p c) ops.Special n ≡ None → IsCall p how.Special d
  special_is apart none = call_is how.Special refl apart (op_used ops.Special none).static

  pub init_call_is : begun ≡ true → call_at (judge_pool p c) ops.Special n ≡ None → IsInit p d
  init_call_is is none = begins_is is (op_used ops.Special none).static

  -- invokeinterface
  pub interface_is : (slots : ℕ) → interface_call_at (judge_pool p c) n slots ≡ None → IsCall p how.Interface d
  interface_is slots none =
      let used = face_use_is slots use_of (facts_of p from d.member) (sym (ap (or_no_member (interface_test slots)) use_at) ∙ none) member_is in
      call_is how.Interface refl (sym init_is ∙ used.init) used.static
