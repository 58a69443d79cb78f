-- Calls that are handed a context: what their references name, before and after.
use Rattle.std.proofs.Common.{◌≡◌, ℕ, ◌+◌, ◌≤◌, Bool, true, false, ◌&&◌, not, List, [], ◌∷◌, ◌++◌, length, map, Option, Some, None, refl, ap, sym, ◌∙◌, subst, arith, inl, inr}
use Rattle.std.specs.Prelude.{IsTrue, option_and_then, option_map, slice_get, nat_le, codes, ◌||◌, if◌then◌else◌}
use Rattle.std.specs.List.{flat_map, list_any}
use Rattle.std.specs.Str.{byte}
use Rattle.std.proofs.lemmas.Bool.{cases_Bool, leb-true}
use Rattle.std.proofs.lemmas.Slice.Eq.{bytes_eq-Decides}
use Rattle.jground.specs.jbase.FirstFaults.{first_some}
use Rattle.jground.proofs.JbaseProofs.Firsts.{none_of}
use Rattle.jground.specs.jformat.Format.{is_good}
use Rattle.jparts.specs.declared.jpool.descriptor.Descriptor.{Descriptor}
use Rattle.jparts.specs.declared.jpool.descriptor.Descriptor.TheVariants as descriptors
use Rattle.jparts.specs.declared.jpool.descriptor.FieldType.{FieldType}
use Rattle.jparts.specs.declared.jpool.entry.Entry.{Entry}
use Rattle.jparts.specs.jpool.Descriptors.{base_at, class_at, closing_at, descriptor_of, descriptor_text, field_of, method, method_of, method_slots, params_at, return_at, return_text, slots_of, type_at, type_text}
use Rattle.jparts.specs.jpool.ClassNames.{is_class_name}
use Rattle.jparts.specs.jpool.ConstantPools as pools
use Rattle.jparts.specs.jpool.ConstantPools.{member_fault, name_and_type_at}
use Rattle.jparts.proofs.JpoolProofs.DescriptorTexts.{descriptor_take}
use Rattle.jclass.specs.declared.class.ClassParts.{ClassParts}
use Rattle.jclass.specs.declared.class.MemberInfo.{MemberInfo}
use Rattle.jlib.specs.declared.side.Side.TheVariants.{Passing, Source}
use Rattle.jlib.specs.declared.calls.ControllerCall.TheVariants as controller
use Rattle.jlib.specs.declared.calls.LibCall.{LibCall}
use Rattle.jlib.specs.declared.calls.LibCall.TheVariants as calls
use Rattle.jlib.specs.declared.calls.ThreadCall.TheVariants as thread
use Rattle.jlib.specs.LibraryMembers as library
use Rattle.jmove.specs.declared.method.Expand.TheVariants as kinds
use Rattle.jmove.specs.PoolAdditions.{context_type, moved_descriptor}
use Rattle.jresolution.specs.declared.jprogram.member.Member.{Member}
use Rattle.jresolution.specs.declared.jprogram.member.Member.TheVariants as members
use Rattle.jresolution.specs.declared.jprogram.member.MethodId.{MethodId}
use Rattle.jresolution.specs.declared.jprogram.part.CodePart.{CodePart}
use Rattle.jresolution.specs.jprogram.ProgramClasses.{Program}
use Rattle.jresolution.specs.jprogram.MemberResolution.{desc_in, desc_of, is_static, looked_up, referred, resolve_method, user_is}
use Rattle.jresolution.specs.jprogram.NameChecks.{class_reserved, desc_reserved, is_reserved, names_reserved, text_reserved, type_reserved}
use Rattle.jresolution.specs.jprogram.ProofNames.{return_reserved}
use Rattle.jresolution.specs.jprogram.ClassFileParts as parts
use Rattle.jresolution.specs.jprogram.ClassFileParts.{member_desc, or_empty, text}
use Rattle.jlinking.specs.declared.jreferring.judged.Judged.TheVariants as judged
use Rattle.jlinking.specs.declared.jreferring.judged.MemberFacts.{MemberFacts}
use Rattle.jlinking.specs.declared.jreferring.judged.MemberUse.{MemberUse}
use Rattle.jlinking.specs.declared.jreferring.judged.Sort.{Sort}
use Rattle.jlinking.specs.declared.jreferring.judged.Sort.TheVariants as sort
use Rattle.jlinking.specs.jreferring.PoolEntryMeanings.{judge}
use Rattle.jlinking.specs.jreferring.MemberLookUp.{named_use}
use Rattle.jlinking.specs.jreferring.ClassNameAccess.{desc_test, is_array, return_test, type_named, type_test}
use Rattle.jresolution.specs.jprogram.UnsupportedTypes.{is_context}
use Rattle.jlinking.specs.jreferring.ReferenceUses.{facts_of, gives_context, has_contexts, is_crossed, is_enter, member_use, misplaces_context}
use Rattle.jlinking.specs.jreferring.CodeUnits.{member_at}
use Rattle.jlinking.specs.ProofNames.{member_in}
use Rattle.jlinking.specs.jlink.SoundDescriptors.{is_sound_method}
use Rattle.jlinking.proofs.JlinkProofs.MemberDescriptors.{method_resolved}
use Rattle.jmoveclass.specs.EntryLocals.{params_in, params_of, slots}
use Rattle.jmoveclass.specs.ProofNames.{this_slots}
use Rattle.jmoveclass.specs.CallExpansion.{calling}
use Rattle.jmoveclass.specs.MovedMembers.{new_desc}
use Rattle.jmoveclass.proofs.TextLengths.{moved_short}
use Rattle.jrewriting.proofs.JmoveclassLawsProofs.CallReferences.{kind_in, reference_of}
use Rattle.jrewriting.proofs.JmoveclassLawsProofs.AddedReferences.{reference}
use Rattle.jrewriting.proofs.JmoveclassLawsProofs.SoundPools.{IsSound}
use Rattle.jrewriting.proofs.JmoveclassLawsProofs.Texts.{longer, longer_slots, longer_well, moved_is}
use Rattle.jrewriting.specs.jrewrite.LinkageLaws.{IsLinked}
use Rattle.jrewriting.specs.jrewrite.RewrittenPrograms.{moved}
use Rattle.jrewriting.proofs.JrewriteProofs.ContextMethodLookup.{IsForm, changed, is_run, methods_changed}
use Rattle.jrewriting.proofs.JrewriteProofs.DeclarationChecks.{Facts, differ, first_false, or_join, second_false, and_none}
use Rattle.jrewriting.proofs.JrewriteProofs.PoolEntries.{Says, desc_kept, judged_at, owner_kept, says_of, says_use}
use Rattle.jrewriting.proofs.JmoveclassLawsProofs.CallReferences.{no_entry_fault}
use Rattle.jrewriting.proofs.JrewriteProofs.MemberPhase.{none_or}
use Rattle.jrewriting.proofs.JrewriteProofs.MovableClasses.{short_at}
use Rattle.jrewriting.proofs.JrewriteProofs.FinalOverrides.{AllMoving}
use Rattle.jrewriting.proofs.JrewriteProofs.PlainPrograms.{is_plain}
use Rattle.jrewriting.proofs.JrewriteProofs.MemberResolution.{Is, facts_same, method_finds}
use Rattle.jrewriting.proofs.JrewriteProofs.ParameterSlots.{AllFew, called_room, library_desc, of_empty, resolved_desc}
use Rattle.jrewriting.proofs.JrewriteProofs.Security.{IsPassing, type_lib, type_open}
use Rattle.jrewriting.proofs.JrewriteProofs.HierarchyPhases.{IsPlain}
use Rattle.jrewriting.proofs.JrewriteProofs.ReferenceChecks.{FewSlots, IsMore}
use Rattle.jrewriting.proofs.JrewriteProofs.SupertypeChains.{extends_same, interface_name, named_plain, return_test_same, type_test_same, types_test_same}

-- ---- a reference to a method

abbrev pub sort_by : Bool → Sort
sort_by true = sort.InterfaceMethod
sort_by false = sort.Method

-- what a reference to a method may be used for
abbrev pub call_use : Program → List ℕ → Bool → List ℕ → List ℕ → List ℕ → MemberUse
call_use p from interface owner name desc = member_use p from (sort_by interface) (resolve_method p owner name desc) owner name desc

member_good : (pool : List Entry) (b : Bool) (c d : ℕ) → IsTrue (is_good (pools.entry_fault pool (reference b c d))) → IsTrue (is_good (member_fault pool c d))
unfolding pools.entry_fault
member_good pool true c d h = h
member_good pool false c d h = h

-- the reference at an index, and what it says
pub record Target (pool : List Entry) (i : ℕ) : Type 0 where
  pub interface : Bool
  pub class : ℕ
  pub two : ℕ
  pub there : slice_get pool i ≡ Some (reference interface class two)
  pub says : Says pool class two

pub target_of : (pool : List Entry) (i : ℕ) (b : Bool) → IsSound pool → kind_in (slice_get pool i) ≡ Some b → Target pool i
target_of pool i b s k =
    let e = reference_of (slice_get pool i) b k in
    record { interface = b; class = e.class; two = e.two; there = e.is; says = says_of pool e.class e.two s (member_good pool b e.class e.two (no_entry_fault pool i (reference b e.class e.two) s e.is)) }

looked_at : (p : Program) (pool : List Entry) (class two : ℕ) (s : Says pool class two) → option_and_then (looked_up pool class (resolve_method p)) (name_and_type_at pool two) ≡ resolve_method p s.owner s.name s.desc
looked_at p pool class two s =
    ap (option_and_then (looked_up pool class (resolve_method p))) s.both
    ∙ ap (λ (o : List ℕ). resolve_method p o (text pool s.n) (text pool s.d)) (ap or_empty s.owner_there)
    ∙ ap (λ (o : List ℕ). resolve_method p s.owner o (text pool s.d)) (ap or_empty s.name_there)
    ∙ ap (λ (o : List ℕ). resolve_method p s.owner s.name o) (ap or_empty s.desc_there)

referred_by : (p : Program) (pool : List Entry) (b : Bool) (class two : ℕ) (s : Says pool class two) → referred p pool (Some (reference b class two)) ≡ resolve_method p s.owner s.name s.desc
referred_by p pool true class two s = looked_at p pool class two s
referred_by p pool false class two s = looked_at p pool class two s

pub referred_is : (p : Program) (pool : List Entry) (i : ℕ) (t : Target pool i) → referred p pool (slice_get pool i) ≡ resolve_method p t.says.owner t.says.name t.says.desc
referred_is p pool i t = ap (referred p pool) t.there ∙ referred_by p pool t.interface t.class t.two t.says

judged_by : (p : Program) (from : List ℕ) (pool : List Entry) (b : Bool) (class two : ℕ) (s : Says pool class two) → judge p from pool (reference b class two) ≡ judged.Member (call_use p from b s.owner s.name s.desc)
unfolding judge named_use
judged_by p from pool true class two s = ap judged.Member (says_use p from pool sort.InterfaceMethod class two s)
judged_by p from pool false class two s = ap judged.Member (says_use p from pool sort.Method class two s)

-- what it stands for
pub target_use : (p : Program) (from : List ℕ) (pool : List Entry) (i : ℕ) (t : Target pool i) → member_at (map (judge p from pool) pool) i ≡ Some (call_use p from t.interface t.says.owner t.says.name t.says.desc)
target_use p from pool i t =
    ap member_in (judged_at p from pool i (reference t.interface t.class t.two) t.there) ∙ ap (λ j. member_in (Some j)) (judged_by p from pool t.interface t.class t.two t.says)

-- ---- its descriptor

pub record MethodTypes (d : Option Descriptor) : Type 0 where
  pub ps : List FieldType
  pub ret : Option FieldType
  pub is : d ≡ Some (descriptors.Method ps ret)

method_types : (d : Option Descriptor) → is_sound_method d ≡ true → MethodTypes d
method_types None h = absurd cc
method_types (Some (descriptors.Field t)) h = absurd cc
method_types (Some (descriptors.Method ps ret)) h = record { ps = ps; ret = ret; is = refl }

method_is : (o : Option (List FieldType × Option FieldType)) (ps : List FieldType) (ret : Option FieldType) → option_map method o ≡ Some (descriptors.Method ps ret) → o ≡ Some (ps, ret)
method_is None ps ret h = absurd cc
method_is (Some x) ps ret h =
    let first : x.0 ≡ ps = cc in
    let second : x.1 ≡ ret = cc in
    rw (sym first, sym second) refl

read_as : (rest : List ℕ) (ps : List FieldType) (ret : Option FieldType) → descriptor_of (byte "(" ∷ rest) ≡ Some (descriptors.Method ps ret) → method_of (byte "(" ∷ rest) ≡ Some (ps, ret)
unfolding descriptor_of
read_as rest ps ret h = method_is (method_of (byte "(" ∷ rest)) ps ret h

read_text : (t rest : List ℕ) (ps : List FieldType) (ret : Option FieldType) → t ≡ byte "(" ∷ rest → descriptor_of t ≡ Some (descriptors.Method ps ret) → method_of t ≡ Some (ps, ret)
read_text t rest ps ret e h =
    subst (λ (x : List ℕ). method_of x ≡ Some (ps, ret)) (sym e) (read_as rest ps ret (subst (λ (x : List ℕ). descriptor_of x ≡ Some (descriptors.Method ps ret)) e h))

opened : (ps : List FieldType) (ret : Option FieldType) → (rest : List ℕ) × (descriptor_text (descriptors.Method ps ret) ≡ byte "(" ∷ rest)
unfolding descriptor_text
opened ps ret = (flat_map type_text ps ++ byte ")" ∷ return_text ret, refl)

slots_is : (t : List ℕ) (ps : List FieldType) (ret : Option FieldType) → descriptor_of t ≡ Some (descriptors.Method ps ret) → method_slots t ≡ Some (slots_of ps)
unfolding method_slots
slots_is t ps ret h =
    let o = opened ps ret in
    ap (option_map (λ m. slots_of m.0)) (read_text t o.0 ps ret ((descriptor_take t (descriptors.Method ps ret) h).1 ∙ o.1) h)

-- ---- how many slots it has

inst_in : (p : Program) → AllFew p → (i j : ℕ) (part : CodePart) (o : Option MemberInfo) (t : List ℕ) (ps : List FieldType) (ret : Option FieldType) → slice_get p.parts i ≡ Some part → slice_get part.class.methods j ≡ o
    → desc_in (option_map (λ m. (part.class, m)) o) ≡ t → descriptor_of t ≡ Some (descriptors.Method ps ret) → user_is (λ one. parts.is_static one.flags) (option_map (λ m. (part.class, m)) o) ≡ false → slots_of ps ≤ 253
inst_in p few i j part None t ps ret at there e is static = of_empty t (descriptors.Method ps ret) e is
inst_in p few i j part (Some m) t ps ret at there e is static =
    let params : params_of part.class m ≡ ps = ap params_in (ap descriptor_of e ∙ is) in
    let count : slots_of (params_of part.class m) ≡ slots_of ps = ap slots_of params in
    let all : slots part.class m ≡ slots_of (params_of part.class m) + this_slots m = refl in
    let one : this_slots m ≡ 1 = ap (λ (b : Bool). if b then 0 else 1) static in
    let most : slots part.class m ≤ 254 = few i part m at (j, there) in
    omega arith

inst_by : (p : Program) → AllFew p → (i j : ℕ) (o : Option CodePart) (t : List ℕ) (ps : List FieldType) (ret : Option FieldType) → slice_get p.parts i ≡ o
    → desc_in (option_and_then (λ c. option_map (λ m. (c, m)) (slice_get c.methods j)) (option_map (λ part. part.class) o)) ≡ t → descriptor_of t ≡ Some (descriptors.Method ps ret)
    → user_is (λ one. parts.is_static one.flags) (option_and_then (λ c. option_map (λ m. (c, m)) (slice_get c.methods j)) (option_map (λ part. part.class) o)) ≡ false → slots_of ps ≤ 253
inst_by p few i j None t ps ret at e is static = of_empty t (descriptors.Method ps ret) e is
inst_by p few i j (Some part) t ps ret at e is static = inst_in p few i j part (slice_get part.class.methods j) t ps ret at refl e is static

inst_room : (p : Program) → AllFew p → (m : MethodId) (t : List ℕ) (ps : List FieldType) (ret : Option FieldType) → desc_of p (members.Method m) ≡ t → descriptor_of t ≡ Some (descriptors.Method ps ret) → is_static p (members.Method m) ≡ false → slots_of ps ≤ 253
unfolding desc_of is_static
inst_room p few m t ps ret e is static = inst_by p few m.class m.method (slice_get p.parts m.class) t ps ret refl e is static

abbrev is_fewer : Option Descriptor → Bool
is_fewer (Some (descriptors.Method ps ret)) = nat_le (slots_of ps) 253
is_fewer _ = true

fewer_is : (o : Option Descriptor) (ps : List FieldType) (ret : Option FieldType) → o ≡ Some (descriptors.Method ps ret) → IsTrue (is_fewer o) → slots_of ps ≤ 253
fewer_is o ps ret e h = leb-true (slots_of ps) 253 (subst (λ (x : Option Descriptor). IsTrue (is_fewer x)) e h)

-- of a member of the library that is handed a context
record Small (m : LibCall) : Type 0 where
  pub fewer : IsTrue (is_fewer (descriptor_of (library.desc_of m)))
  pub short : length (library.desc_of m) ≤ 65526

small : (m : LibCall) → is_run m ≡ true → Small m
unfolding descriptor_of method_of field_of params_at closing_at type_at base_at class_at return_at slots_of is_class_name
small (calls.Run Source) h = record { fewer = refl; short = omega arith }
small (calls.Run Passing) h = record { fewer = refl; short = omega arith }
small (calls.RunAction Source) h = record { fewer = refl; short = omega arith }
small (calls.RunAction Passing) h = record { fewer = refl; short = omega arith }
small (calls.Thread (thread.Init Source)) h = record { fewer = refl; short = omega arith }
small (calls.Thread (thread.Init Passing)) h = record { fewer = refl; short = omega arith }
small (calls.Thread thread.Start) h = absurd cc
small (calls.Thread thread.Join) h = absurd cc
small (calls.Thread thread.Yield) h = absurd cc
small (calls.Controller one) h = absurd cc
small calls.ObjectInit h = absurd cc
small (calls.ThrownInit t i) h = absurd cc
small calls.AccessControlInit h = absurd cc
small calls.GetMessage h = absurd cc
small (calls.String one) h = absurd cc
small (calls.Builder one) h = absurd cc
small calls.Out h = absurd cc
small calls.PrintEnd h = absurd cc
small (calls.Print piece) h = absurd cc
small calls.ContextCheck h = absurd cc
small (calls.PermissionInit one) h = absurd cc
small (calls.Rt one) h = absurd cc

run_is : (n : ℕ) (m : LibCall) → calling n (Some (members.LibMethod m)) ≡ kinds.Call n → is_run m ≡ true
run_is n (calls.Run side) h = refl
run_is n (calls.RunAction side) h = refl
run_is n (calls.Thread (thread.Init side)) h = refl
run_is n (calls.Thread thread.Start) h = absurd cc
run_is n (calls.Thread thread.Join) h = absurd cc
run_is n (calls.Thread thread.Yield) h = absurd cc
run_is n (calls.Controller controller.Check) h = absurd cc
run_is n (calls.Controller controller.Snapshot) h = absurd cc
run_is n (calls.Controller controller.Privileged) h = absurd cc
run_is n (calls.Controller controller.PrivilegedWith) h = absurd cc
run_is n (calls.Controller controller.PrivilegedLimited) h = absurd cc
run_is n calls.ObjectInit h = absurd cc
run_is n (calls.ThrownInit t i) h = absurd cc
run_is n calls.AccessControlInit h = absurd cc
run_is n calls.GetMessage h = absurd cc
run_is n (calls.String one) h = absurd cc
run_is n (calls.Builder one) h = absurd cc
run_is n calls.Out h = absurd cc
run_is n calls.PrintEnd h = absurd cc
run_is n (calls.Print piece) h = absurd cc
run_is n calls.ContextCheck h = absurd cc
run_is n (calls.PermissionInit one) h = absurd cc
run_is n (calls.Rt one) h = absurd cc

changed_is : (n : ℕ) (x : Member) → calling n (Some x) ≡ kinds.Call n → changed x ≡ true
changed_is n (members.Method m) h = refl
changed_is n (members.LibMethod m) h = run_is n m h
changed_is n (members.Field i j) h = absurd cc
changed_is n members.LibField h = absurd cc

fewer_slots : (p : Program) → AllFew p → (x : Member) (t : List ℕ) (ps : List FieldType) (ret : Option FieldType) → changed x ≡ true → desc_of p x ≡ t → descriptor_of t ≡ Some (descriptors.Method ps ret) → is_static p x ≡ false → slots_of ps ≤ 253
fewer_slots p few (members.Method m) t ps ret h e is static = inst_room p few m t ps ret e is static
fewer_slots p few (members.LibMethod m) t ps ret h e is static = fewer_is (descriptor_of (library.desc_of m)) ps ret (ap descriptor_of (sym (library_desc p m) ∙ e) ∙ is) (small m h).fewer
fewer_slots p few (members.Field i j) t ps ret h e is static = absurd cc
fewer_slots p few members.LibField t ps ret h e is static = absurd cc

-- ---- how long it is

short_in : (p : Program) → IsLinked p → (i j : ℕ) (part : CodePart) (o : Option MemberInfo) (t : List ℕ) → slice_get p.parts i ≡ Some part → slice_get part.class.methods j ≡ o → desc_in (option_map (λ m. (part.class, m)) o) ≡ t → length t ≤ 65526
short_in p is i j part None t at there e = subst (λ (x : List ℕ). length x ≤ 65526) e (omega arith)
short_in p is i j part (Some m) t at there e = subst (λ (x : List ℕ). length x ≤ 65526) e (short_at p i part is.links is.source at m (j, there))

short_by : (p : Program) → IsLinked p → (i j : ℕ) (o : Option CodePart) (t : List ℕ) → slice_get p.parts i ≡ o
    → desc_in (option_and_then (λ c. option_map (λ m. (c, m)) (slice_get c.methods j)) (option_map (λ part. part.class) o)) ≡ t → length t ≤ 65526
short_by p is i j None t at e = subst (λ (x : List ℕ). length x ≤ 65526) e (omega arith)
short_by p is i j (Some part) t at e = short_in p is i j part (slice_get part.class.methods j) t at refl e

short_user : (p : Program) → IsLinked p → (m : MethodId) (t : List ℕ) → desc_of p (members.Method m) ≡ t → length t ≤ 65526
unfolding desc_of
short_user p is m t e = short_by p is m.class m.method (slice_get p.parts m.class) t refl e

short_desc : (p : Program) → IsLinked p → (x : Member) (t : List ℕ) → changed x ≡ true → desc_of p x ≡ t → length t ≤ 65526
short_desc p is (members.Method m) t h e = short_user p is m t e
short_desc p is (members.LibMethod m) t h e = subst (λ (x : List ℕ). length x ≤ 65526) (sym (library_desc p m) ∙ e) (small m h).short
short_desc p is (members.Field i j) t h e = absurd cc
short_desc p is members.LibField t h e = absurd cc

-- ---- a call that changes

-- a method of the class with the name and the descriptor of a reference
abbrev pub named_method : (c : ClassParts) (class two : ℕ) → Says c.pool class two → MemberInfo
named_method c class two s = record { flags = c.flags; name = s.n; desc = s.d; attributes = [] }

-- the new descriptor of a reference
abbrev pub changed_desc : (c : ClassParts) (i : ℕ) → Target c.pool i → List ℕ
changed_desc c i t = new_desc c (named_method c t.class t.two t.says)

-- what is known of a call that is handed a context
pub record Change (p : Program) (c : ClassParts) (i : ℕ) (t : Target c.pool i) : Type 0 where
  pub member : Member
  pub at : resolve_method p t.says.owner t.says.name t.says.desc ≡ Some member
  pub handed : changed member ≡ true
  pub ps : List FieldType
  pub ret : Option FieldType
  pub old : descriptor_of t.says.desc ≡ Some (descriptors.Method ps ret)
  pub few : slots_of ps ≤ 254
  pub fewer : is_static p member ≡ false → slots_of ps ≤ 253
  pub new : changed_desc c i t ≡ longer ps ret
  pub moved : moved_descriptor t.says.desc ≡ Some (changed_desc c i t)
  pub short : length (changed_desc c i t) ≤ 65535

text_there : (c : ClassParts) (i : ℕ) (t : Target c.pool i) → member_desc c (named_method c t.class t.two t.says) ≡ t.says.desc
text_there c i t = ap or_empty t.says.desc_there

change_by : (p : Program) → IsLinked p → AllFew p → (c : ClassParts) (i : ℕ) (t : Target c.pool i) (o : Option Member) → resolve_method p t.says.owner t.says.name t.says.desc ≡ o → calling i o ≡ kinds.Call i → Change p c i t
change_by p is few c i t None at h = absurd cc
change_by p is few c i t (Some x) at h =
    let desc = t.says.desc in
    let types = method_types (descriptor_of desc) (method_resolved p is.links is.files t.says.owner t.says.name desc x at) in
    let said = resolved_desc p t.says.owner t.says.name desc x at in
    let handed = changed_is i x h in
    let e = text_there c i t in
    let longer_is = moved_is desc types.ps types.ret types.is in
    let new : changed_desc c i t ≡ longer types.ps types.ret = ap (λ (d : List ℕ). or_empty (moved_descriptor d)) e ∙ ap or_empty longer_is in
    record {
      member = x;
      at = at;
      handed = handed;
      ps = types.ps;
      ret = types.ret;
      old = types.is;
      few = called_room p few i x desc types.ps types.ret h said types.is;
      fewer = λ static. fewer_slots p few x desc types.ps types.ret handed said types.is static;
      new = new;
      moved = longer_is ∙ ap (λ (d : List ℕ). Some d) (sym new);
      short = moved_short (member_desc c (named_method c t.class t.two t.says)) (subst (λ (d : List ℕ). length d ≤ 65526) (sym e) (short_desc p is x desc handed said));
    }

pub change_of : (p : Program) → IsLinked p → AllFew p → (c : ClassParts) (i : ℕ) (t : Target c.pool i) → calling i (referred p c.pool (slice_get c.pool i)) ≡ kinds.Call i → Change p c i t
change_of p is few c i t h = change_by p is few c i t (resolve_method p t.says.owner t.says.name t.says.desc) refl (ap (calling i) (sym (referred_is p c.pool i t)) ∙ h)

pub facts_from : (p : Program) (c : ClassParts) (i : ℕ) (t : Target c.pool i) → Change p c i t → Facts c (named_method c t.class t.two t.says)
facts_from p c i t k = record {
  ps = k.ps;
  ret = k.ret;
  old = ap descriptor_of (text_there c i t) ∙ k.old;
  new = ap descriptor_of k.new ∙ longer_well t.says.desc k.ps k.ret k.old k.few;
}

-- ---- what the moved program finds

pub plain_owner : (owner : List ℕ) → class_reserved owner ≡ false → is_reserved owner ≡ false
plain_owner owner h = first_false (is_reserved owner) (text_reserved owner) h

pub change_found : (p : Program) → IsLinked p → AllMoving p → (c : ClassParts) → names_reserved c ≡ false → (i : ℕ) (t : Target c.pool i) (k : Change p c i t) → Is (IsForm p) k.member (resolve_method (moved p) t.says.owner t.says.name (changed_desc c i t))
change_found p is all c kept i t k =
    let plainly = is_plain p is in
    let m = named_method c t.class t.two t.says in
    let f = method_finds p plainly (IsForm p) changed t.says.owner t.says.name (member_desc c m) (new_desc c m) (plain_owner t.says.owner (owner_kept c t.class t.two kept t.says)) (methods_changed p plainly all c m t.says.name (facts_from p c i t k)) in
    f.some k.member (ap (resolve_method p t.says.owner t.says.name) (text_there c i t) ∙ k.at) k.handed

-- ---- what it may be used for

some_append : (q : Program) (from : List ℕ) (ts us : List FieldType) → first_some (type_test q from) ts ≡ None → first_some (type_test q from) us ≡ None → first_some (type_test q from) (ts ++ us) ≡ None
unfolding first_some
some_append q from [] us h k = k
some_append q from (t ∷ ts) us h k =
    let a = none_of (type_test q from t) (first_some (type_test q from) ts) h in
    none_or (type_test q from t) (first_some (type_test q from) (ts ++ us)) a.0 (some_append q from ts us a.1 k)

context_is_lib : type_lib context_type ≡ true
context_is_lib = refl

last_open : (q : Program) → IsPassing q → (from : List ℕ) → first_some (type_test q from) (context_type ∷ []) ≡ None
unfolding first_some
last_open q is from = none_or (type_test q from context_type) None (type_open q is from context_type context_is_lib) refl

longer_open : (p : Program) → IsPlain p → IsPassing (moved p) → (from : List ℕ) (ps : List FieldType) (ret : Option FieldType) → list_any type_reserved ps ≡ false → return_reserved ret ≡ false → first_some (type_test p from) ps ≡ None → return_test p from ret ≡ None
    → desc_test (moved p) from (Some (descriptors.Method (ps ++ context_type ∷ []) ret)) ≡ None
longer_open p is passing from ps ret h k one other =
    none_or (first_some (type_test (moved p) from) (ps ++ context_type ∷ [])) (return_test (moved p) from ret)
    (some_append (moved p) from ps (context_type ∷ []) (types_test_same p is from ps h ∙ one) (last_open (moved p) passing from))
    (return_test_same p is from ret k ∙ other)

not_context : (t : FieldType) → type_reserved t ≡ false → is_context t ≡ false
not_context t h = elim (cases_Bool (is_context t)) [
  | inl hit ↦ differ (sym (ap is_reserved ((bytes_eq-Decides t.class (codes "sps/Ctx")).0 hit)) ∙ h)
  | inr miss ↦ miss
]

none_has : (ps : List FieldType) → list_any type_reserved ps ≡ false → list_any has_contexts (ps ++ context_type ∷ []) ≡ false
none_has [] h = refl
none_has (t ∷ ts) h =
    or_join (has_contexts t) (list_any has_contexts (ts ++ context_type ∷ [])) (and_none (is_array t) (is_context t) (not_context t (first_false (type_reserved t) (list_any type_reserved ts) h)))
    (none_has ts (second_false (type_reserved t) (list_any type_reserved ts) h))

none_given : (ret : Option FieldType) → return_reserved ret ≡ false → gives_context ret ≡ false
none_given None h = refl
none_given (Some t) h = not_context t h

placed_well : (enter : Bool) (ps : List FieldType) (ret : Option FieldType) → list_any type_reserved ps ≡ false → return_reserved ret ≡ false → misplaces_context enter (Some (descriptors.Method (ps ++ context_type ∷ []) ret)) ≡ false
placed_well enter ps ret h k = or_join (list_any has_contexts (ps ++ context_type ∷ [])) (not enter && gives_context ret) (none_has ps h) (and_none (not enter) (gives_context ret) (none_given ret k))

-- what a reference of a class says is plain
record Plainly (ps : List FieldType) (ret : Option FieldType) : Type 0 where
  pub params : list_any type_reserved ps ≡ false
  pub back : return_reserved ret ≡ false

plain_types : (desc : List ℕ) (ps : List FieldType) (r : Option FieldType) → text_reserved desc ≡ false → descriptor_of desc ≡ Some (descriptors.Method ps r) → Plainly ps r
unfolding text_reserved
plain_types desc ps r h e =
    let kept : (list_any type_reserved ps || return_reserved r) ≡ false = sym (ap desc_reserved e) ∙ h in
    record { params = first_false (list_any type_reserved ps) (return_reserved r) kept; back = second_false (list_any type_reserved ps) (return_reserved r) kept }

pub change_more : (p : Program) → IsLinked p → AllMoving p → IsPassing (moved p) → (c : ClassParts) → names_reserved c ≡ false → (from : List ℕ) → is_reserved from ≡ false → (i : ℕ) (t : Target c.pool i) (k : Change p c i t)
    → (call_use p from t.interface t.says.owner t.says.name t.says.desc).names ≡ None → (call_use p from t.interface t.says.owner t.says.name t.says.desc).barred ≡ false
    → IsMore (call_use p from t.interface t.says.owner t.says.name t.says.desc) (call_use (moved p) from t.interface t.says.owner t.says.name (changed_desc c i t))
unfolding facts_from
change_more p is all passing c kept from plain i t k names barred =
    let plainly = is_plain p is in
    let owner = t.says.owner in
    let name = t.says.name in
    let desc = t.says.desc in
    let new = changed_desc c i t in
    let owner_plain = owner_kept c t.class t.two kept t.says in
    let types = plain_types desc k.ps k.ret (desc_kept c t.class t.two kept t.says) k.old in
    let a = none_of (type_test p from (type_named owner)) (desc_test p from (descriptor_of desc)) names in
    let b = none_of (first_some (type_test p from) k.ps) (return_test p from k.ret) (sym (ap (desc_test p from) k.old) ∙ a.1) in
    let read : descriptor_of new ≡ Some (descriptors.Method (k.ps ++ context_type ∷ []) k.ret) = (facts_from p c i t k).new in
    let found = change_found p is all c kept i t k in
    record {
      names = none_or (type_test (moved p) from (type_named owner)) (desc_test (moved p) from (descriptor_of new)) (type_test_same p plainly from (type_named owner) (named_plain owner owner_plain) ∙ a.0)
          (ap (desc_test (moved p) from) read ∙ longer_open p plainly passing from k.ps k.ret types.params types.back b.0 b.1);
      barred = or_join (is_array (type_named owner)) (misplaces_context (is_enter owner name new) (descriptor_of new)) (first_false (is_array (type_named owner)) _ barred)
          (ap (misplaces_context (is_enter owner name new)) read ∙ placed_well (is_enter owner name new) k.ps k.ret types.params types.back);
      of_interface = refl;
      crossed = ap (is_crossed (sort_by t.interface)) (interface_name p plainly owner (plain_owner owner owner_plain));
      upward = extends_same p plainly from owner plain;
      init = refl;
      member = ap (option_map (facts_of (moved p) from)) found.is ∙ ap (λ (m : MemberFacts). Some m) (facts_same p plainly from k.member found.other plain found.like.like) ∙ ap (option_map (facts_of p from)) (sym k.at);
    }

-- its slots, before and after
pub change_slots : (p : Program) (c : ClassParts) (from : List ℕ) (i : ℕ) (t : Target c.pool i) (k : Change p c i t)
    → ((call_use p from t.interface t.says.owner t.says.name t.says.desc).slots ≡ Some (slots_of k.ps)) × ((call_use (moved p) from t.interface t.says.owner t.says.name (changed_desc c i t)).slots ≡ Some (slots_of k.ps + 1))
change_slots p c from i t k = (slots_is t.says.desc k.ps k.ret k.old, ap method_slots k.new ∙ longer_slots t.says.desc k.ps k.ret k.old k.few)

few_by : (p : Program) (from : List ℕ) (x : Member) (o : Option Member) (n : ℕ) → o ≡ Some x → (is_static p x ≡ false → n ≤ 253) → (m : MemberFacts) → option_map (facts_of p from) o ≡ Some m → m.is_static ≡ false → n ≤ 253
few_by p from x o n at h m is static =
    let same : Some (facts_of p from x) ≡ Some m = ap (option_map (facts_of p from)) (sym at) ∙ is in
    let one : facts_of p from x ≡ m = cc in
    h (ap (λ (f : MemberFacts). f.is_static) one ∙ static)

pub change_few : (p : Program) (c : ClassParts) (from : List ℕ) (i : ℕ) (t : Target c.pool i) (k : Change p c i t) → FewSlots (call_use p from t.interface t.says.owner t.says.name t.says.desc) (slots_of k.ps)
change_few p c from i t k = few_by p from k.member (resolve_method p t.says.owner t.says.name t.says.desc) (slots_of k.ps) k.at k.fewer
