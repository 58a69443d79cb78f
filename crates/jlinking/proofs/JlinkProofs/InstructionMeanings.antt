-- What each instruction by an entry of the pool means, where the tests of linking find nothing at it.
use Rattle.std.proofs.Common.{◌≡◌, ℕ, suc, ◌≤◌, ◌⊎◌, Bool, true, false, ◌||◌, List, length, map, Option, Some, None, refl, sym, ap, ◌∙◌, arith, inl, inr}
use Rattle.std.specs.Prelude.{is_some, option_and_then, option_map, slice_get}
use Rattle.std.specs.Option.{IsSome, option_map_or}
use Rattle.std.proofs.lemmas.Bool.{or_parts}
use Rattle.std.proofs.lemmas.Option.{slice_get-map}
use Rattle.jground.specs.jbase.FirstFaults.{fault_if, or_else}
use Rattle.jground.proofs.JbaseProofs.Firsts.{none_of}
use Rattle.jparts.specs.declared.jpool.entry.Entry.{Entry}
use Rattle.jparts.specs.declared.jpool.entry.Entry.TheVariants as entries
use Rattle.jparts.specs.jpool.Descriptors.{descriptor_of}
use Rattle.jparts.specs.jpool.ConstantPools.{name_and_type_at, utf8_at}
use Rattle.jparts.specs.declared.jcode.op_form.PoolForm.{PoolForm}
use Rattle.jparts.specs.declared.jcode.op_form.PoolForm.TheVariants as pool
use Rattle.jparts.specs.declared.jcode.names.CallOp.{CallOp}
use Rattle.jparts.specs.declared.jcode.names.CastOp.{CastOp}
use Rattle.jparts.specs.declared.jcode.names.FieldOp.{FieldOp}
use Rattle.jclass.specs.PoolOperands.{is_field, is_interface_method, is_method}
use Rattle.jtypes.specs.declared.vtype.VType.{VType}
use Rattle.jtypes.specs.declared.vtype.VType.TheVariants as types
use Rattle.jresolution.specs.declared.jprogram.fault.LinkKind.{LinkKind}
use Rattle.jresolution.specs.declared.jprogram.fault.LinkKind.TheVariants.{BadUse, LeftOut}
use Rattle.jresolution.specs.jprogram.ClassFileParts.{class_text, or_empty, text}
use Rattle.jresolution.specs.jprogram.ProgramClasses.{Program, find, holds}
use Rattle.jresolution.specs.jprogram.MemberResolution.{looked_up, referred, resolve_field, resolve_method}
use Rattle.jresolution.specs.juses.InstructionMeanings as meanings
use Rattle.jresolution.specs.juses.InstructionMeanings.{AField, AMethod, CallMeaning, EntryMeaning, FieldMeaning, MakeArray, Meaning, Reference, array_meant, call_meant, entry_meant, field_entry, field_meant, meant, method_entry, used}
use Rattle.jresolution.specs.ProofNames.{array_made, class_meant}
use Rattle.jresolution.specs.juses.DescriptorTypes.{array_over, class_type}
use Rattle.jlinking.specs.declared.jreferring.judged.ClassUse.{ClassUse}
use Rattle.jlinking.specs.declared.jreferring.judged.MemberUse.{MemberUse}
use Rattle.jlinking.specs.declared.jreferring.judged.Sort.{Sort}
use Rattle.jlinking.specs.declared.jreferring.judged.Sort.TheVariants as sort
use Rattle.jlinking.specs.jreferring.ClassNameAccess.{desc_test, is_array, type_named, type_test}
use Rattle.jlinking.specs.jreferring.ClassEntryUses.{class_use, is_no_maker, is_unmade, new_test, operand_test}
use Rattle.jlinking.specs.jreferring.ReferenceUses.{call_left_out_test, call_test, called_by_interface_test, called_test, facts_of, field_member_test, field_test, interface_test}
use Rattle.jlinking.specs.ProofNames.{names_test, class_in, member_in}
use Rattle.jlinking.specs.jreferring.PoolEntryMeanings.{desc_in, judge, reference}
use Rattle.jlinking.specs.jreferring.CodeUnits.{constant_test, long_test, or_no_member, pool_test}
use Rattle.jlinking.specs.jlink.ProgramFiles.{AreFiles}
use Rattle.jlinking.specs.jlink.LinkedPrograms.{Links}
use Rattle.jlinking.proofs.JlinkProofs.MemberDescriptors.{field_resolved, method_resolved}
use Rattle.jlinking.proofs.JlinkProofs.PresentValues.{has_some, map_has}
use Rattle.jlinking.proofs.JlinkProofs.ResolvedReferences.{called_has, field_has, interface_has, mapped_some, third_none}
use Rattle.jlinking.proofs.JlinkProofs.DescriptorTypes.{IsArrayText, class_is, field_says, method_says, no_fault, over_array, over_object}
use Rattle.jparts.specs.jpool.PoolEntries.{class_parts}

-- ---- constants

never : (o : Option LinkKind) (kind : LinkKind) → or_else o (Some kind) ≡ None → ⊥
never None kind e = absurd cc
never (Some k) kind e = absurd cc

constant_means : (p : Program) (from : List ℕ) (es : List Entry) (n : ℕ) (e : Option Entry) → constant_test (option_map (judge p from es) e) ≡ None → IsSome (option_and_then (used (pool.Constant n)) (entry_meant p es e))
unfolding judge entry_meant
constant_means p from es n None none = absurd cc
constant_means p from es n (Some entries.Unused) none = absurd cc
constant_means p from es n (Some (entries.Utf8 a)) none = absurd cc
constant_means p from es n (Some (entries.Integer a)) none = refl
constant_means p from es n (Some (entries.Float a)) none = absurd cc
constant_means p from es n (Some (entries.Long a)) none = absurd cc
constant_means p from es n (Some (entries.Double a)) none = absurd cc
constant_means p from es n (Some (entries.Class a)) none = absurd (never (type_test p from (type_named (text es a))) LeftOut none)
constant_means p from es n (Some (entries.Str a)) none = refl
constant_means p from es n (Some (entries.Field a b)) none = absurd cc
constant_means p from es n (Some (entries.Method a b)) none = absurd cc
constant_means p from es n (Some (entries.InterfaceMethod a b)) none = absurd cc
constant_means p from es n (Some (entries.NameAndType a b)) none = absurd cc
constant_means p from es n (Some (entries.MethodHandle a b)) none = absurd cc
constant_means p from es n (Some (entries.MethodType a)) none = absurd cc
constant_means p from es n (Some (entries.InvokeDynamic a b)) none = absurd cc

long_means : (p : Program) (from : List ℕ) (es : List Entry) (n : ℕ) (e : Option Entry) → long_test (option_map (judge p from es) e) ≡ None → IsSome (option_and_then (used (pool.LongConstant n)) (entry_meant p es e))
unfolding judge entry_meant
long_means p from es n None none = absurd cc
long_means p from es n (Some entries.Unused) none = absurd cc
long_means p from es n (Some (entries.Utf8 a)) none = absurd cc
long_means p from es n (Some (entries.Integer a)) none = absurd cc
long_means p from es n (Some (entries.Float a)) none = absurd cc
long_means p from es n (Some (entries.Long a)) none = refl
long_means p from es n (Some (entries.Double a)) none = absurd cc
long_means p from es n (Some (entries.Class a)) none = absurd cc
long_means p from es n (Some (entries.Str a)) none = absurd cc
long_means p from es n (Some (entries.Field a b)) none = absurd cc
long_means p from es n (Some (entries.Method a b)) none = absurd cc
long_means p from es n (Some (entries.InterfaceMethod a b)) none = absurd cc
long_means p from es n (Some (entries.NameAndType a b)) none = absurd cc
long_means p from es n (Some (entries.MethodHandle a b)) none = absurd cc
long_means p from es n (Some (entries.MethodType a)) none = absurd cc
long_means p from es n (Some (entries.InvokeDynamic a b)) none = absurd cc

-- ldc
pub constant_there : (p : Program) (from : List ℕ) (es : List Entry) (n : ℕ) → pool_test (map (judge p from es) es) (pool.Constant n) ≡ None → IsSome (meant p es (pool.Constant n))
unfolding meant
constant_there p from es n none = constant_means p from es n (slice_get es n) (sym (ap constant_test (slice_get-map (judge p from es) es n)) ∙ none)

-- ldc2_w
pub long_there : (p : Program) (from : List ℕ) (es : List Entry) (n : ℕ) → pool_test (map (judge p from es) es) (pool.LongConstant n) ≡ None → IsSome (meant p es (pool.LongConstant n))
unfolding meant
long_there p from es n none = long_means p from es n (slice_get es n) (sym (ap long_test (slice_get-map (judge p from es) es n)) ∙ none)

-- ---- fields

field_pair : (p : Program) → Links p → AreFiles p → (from : List ℕ) (r : Reference) → IsSome (resolve_field p r.owner r.name r.desc) → desc_test p from (descriptor_of r.desc) ≡ None → IsSome (field_meant p r)
unfolding field_meant
field_pair p links files from r has none =
    let m = has_some (resolve_field p r.owner r.name r.desc) has in
    let says = field_says p from r.desc (field_resolved p links files r.owner r.name r.desc m.0 m.1) none in
    rw (m.1, says.1) refl

used_field : (op : FieldOp) (n : ℕ) (o : Option FieldMeaning) → IsSome o → IsSome (option_and_then (used (pool.Field op n)) (option_map AField o))
used_field op n None has = absurd cc
used_field op n (Some f) has = refl

field_by : (p : Program) → Links p → AreFiles p → (from : List ℕ) (es : List Entry) (op : FieldOp) (n class : ℕ) (nt : Option (ℕ × ℕ)) → names_test p from (type_named (class_text es class)) (descriptor_of (desc_in es nt)) ≡ None
    → IsSome (option_and_then (looked_up es class (resolve_field p)) nt) → IsSome (option_and_then (used (pool.Field op n)) (option_and_then (λ b. field_entry p (meanings.reference es class b)) nt))
field_by p links files from es op n class None none has = absurd cc
field_by p links files from es op n class (Some b) none has =
    used_field op n (field_meant p (meanings.reference es class b))
    (field_pair p links files from (meanings.reference es class b) has ((none_of (type_test p from (type_named (class_text es class))) (desc_test p from (descriptor_of (text es b.1))) none).1))

field_means : (p : Program) → Links p → AreFiles p → (from : List ℕ) (es : List Entry) (op : FieldOp) (n : ℕ) (e : Option Entry) → option_map_or is_field e false ≡ true → or_no_member (field_test op) (member_in (option_map (judge p from es) e)) ≡ None
    → IsSome (option_and_then (used (pool.Field op n)) (entry_meant p es e))
unfolding judge reference entry_meant
field_means p links files from es op n None kind none = absurd cc
field_means p links files from es op n (Some entries.Unused) kind none = absurd cc
field_means p links files from es op n (Some (entries.Utf8 a)) kind none = absurd cc
field_means p links files from es op n (Some (entries.Integer a)) kind none = absurd cc
field_means p links files from es op n (Some (entries.Float a)) kind none = absurd cc
field_means p links files from es op n (Some (entries.Long a)) kind none = absurd cc
field_means p links files from es op n (Some (entries.Double a)) kind none = absurd cc
field_means p links files from es op n (Some (entries.Class a)) kind none = absurd cc
field_means p links files from es op n (Some (entries.Str a)) kind none = absurd cc
field_means p links files from es op n (Some (entries.Field a b)) kind none =
    let u = reference p from es sort.Field a b in
    let names = (none_of u.names (or_else (fault_if u.barred LeftOut) (field_member_test op u.member)) none).0 in
    let member = field_has op u.member (third_none u.names (fault_if u.barred LeftOut) (field_member_test op u.member) none) in
    field_by p links files from es op n a (name_and_type_at es b) names (mapped_some (facts_of p from) (referred p es (Some (entries.Field a b))) member)
field_means p links files from es op n (Some (entries.Method a b)) kind none = absurd cc
field_means p links files from es op n (Some (entries.InterfaceMethod a b)) kind none = absurd cc
field_means p links files from es op n (Some (entries.NameAndType a b)) kind none = absurd cc
field_means p links files from es op n (Some (entries.MethodHandle a b)) kind none = absurd cc
field_means p links files from es op n (Some (entries.MethodType a)) kind none = absurd cc
field_means p links files from es op n (Some (entries.InvokeDynamic a b)) kind none = absurd cc

-- getfield, putfield, getstatic, putstatic
pub field_there : (p : Program) → Links p → AreFiles p → (from : List ℕ) (es : List Entry) (op : FieldOp) (n : ℕ) → option_map_or is_field (slice_get es n) false ≡ true → pool_test (map (judge p from es) es) (pool.Field op n) ≡ None → IsSome (meant p es (pool.Field op n))
unfolding meant
field_there p links files from es op n kind none =
    field_means p links files from es op n (slice_get es n) kind (sym (ap (λ o. or_no_member (field_test op) (member_in o)) (slice_get-map (judge p from es) es n)) ∙ none)

-- ---- methods

method_pair : (p : Program) → Links p → AreFiles p → (from : List ℕ) (r : Reference) → IsSome (resolve_method p r.owner r.name r.desc) → desc_test p from (descriptor_of r.desc) ≡ None → IsSome (call_meant p r)
unfolding call_meant
method_pair p links files from r has none =
    let m = has_some (resolve_method p r.owner r.name r.desc) has in
    let says = method_says p from r.desc (method_resolved p links files r.owner r.name r.desc m.0 m.1) none in
    rw (m.1, says.2) refl

-- a form that takes what a method is
abbrev TakesMethods : PoolForm → Type 0
TakesMethods f = (is_init : Bool) (c : CallMeaning) → IsSome (used f (AMethod is_init c))

used_method : (f : PoolForm) → TakesMethods f → (is_init : Bool) (o : Option CallMeaning) → IsSome o → IsSome (option_and_then (used f) (option_map (AMethod is_init) o))
used_method f takes is_init None has = absurd cc
used_method f takes is_init (Some c) has = takes is_init c

method_by : (p : Program) → Links p → AreFiles p → (from : List ℕ) (es : List Entry) (f : PoolForm) → TakesMethods f → (class : ℕ) (nt : Option (ℕ × ℕ)) → names_test p from (type_named (class_text es class)) (descriptor_of (desc_in es nt)) ≡ None
    → IsSome (option_and_then (looked_up es class (resolve_method p)) nt) → IsSome (option_and_then (used f) (option_and_then (λ b. method_entry p (meanings.reference es class b)) nt))
method_by p links files from es f takes class None none has = absurd cc
method_by p links files from es f takes class (Some b) none has =
    used_method f takes _ (call_meant p (meanings.reference es class b))
    (method_pair p links files from (meanings.reference es class b) has ((none_of (type_test p from (type_named (class_text es class))) (desc_test p from (descriptor_of (text es b.1))) none).1))

-- a test that finds nothing only where nothing is wrong with the names and there is a member
abbrev WantsMember : (MemberUse → Option LinkKind) → Type 0
WantsMember test = (u : MemberUse) → test u ≡ None → (u.names ≡ None) × (is_some u.member ≡ true)

call_wants : (op : CallOp) → WantsMember (call_test op)
call_wants op u none = (
  (none_of u.names (or_else (call_left_out_test op u) (called_test op u u.member)) none).0,
  called_has op u u.member (third_none u.names (call_left_out_test op u) (called_test op u u.member) none),
)

interface_wants : (count : ℕ) → WantsMember (interface_test count)
interface_wants count u none = (
  (none_of u.names (or_else (fault_if u.barred LeftOut) (called_by_interface_test count u u.member)) none).0,
  interface_has count u u.member (third_none u.names (fault_if u.barred LeftOut) (called_by_interface_test count u u.member) none),
)

method_means : (p : Program) → Links p → AreFiles p → (from : List ℕ) (es : List Entry) (f : PoolForm) → TakesMethods f → (test : MemberUse → Option LinkKind) → WantsMember test → (e : Option Entry) → (is_method e || is_interface_method e) ≡ true
    → or_no_member test (member_in (option_map (judge p from es) e)) ≡ None → IsSome (option_and_then (used f) (entry_meant p es e))
unfolding judge reference entry_meant
method_means p links files from es f takes test wants None kind none = absurd cc
method_means p links files from es f takes test wants (Some entries.Unused) kind none = absurd cc
method_means p links files from es f takes test wants (Some (entries.Utf8 a)) kind none = absurd cc
method_means p links files from es f takes test wants (Some (entries.Integer a)) kind none = absurd cc
method_means p links files from es f takes test wants (Some (entries.Float a)) kind none = absurd cc
method_means p links files from es f takes test wants (Some (entries.Long a)) kind none = absurd cc
method_means p links files from es f takes test wants (Some (entries.Double a)) kind none = absurd cc
method_means p links files from es f takes test wants (Some (entries.Class a)) kind none = absurd cc
method_means p links files from es f takes test wants (Some (entries.Str a)) kind none = absurd cc
method_means p links files from es f takes test wants (Some (entries.Field a b)) kind none = absurd cc
method_means p links files from es f takes test wants (Some (entries.Method a b)) kind none =
    let w = wants (reference p from es sort.Method a b) none in
    method_by p links files from es f takes a (name_and_type_at es b) w.0 (mapped_some (facts_of p from) (referred p es (Some (entries.Method a b))) w.1)
method_means p links files from es f takes test wants (Some (entries.InterfaceMethod a b)) kind none =
    let w = wants (reference p from es sort.InterfaceMethod a b) none in
    method_by p links files from es f takes a (name_and_type_at es b) w.0 (mapped_some (facts_of p from) (referred p es (Some (entries.InterfaceMethod a b))) w.1)
method_means p links files from es f takes test wants (Some (entries.NameAndType a b)) kind none = absurd cc
method_means p links files from es f takes test wants (Some (entries.MethodHandle a b)) kind none = absurd cc
method_means p links files from es f takes test wants (Some (entries.MethodType a)) kind none = absurd cc
method_means p links files from es f takes test wants (Some (entries.InvokeDynamic a b)) kind none = absurd cc

-- invokevirtual, invokespecial, invokestatic
pub call_there : (p : Program) → Links p → AreFiles p → (from : List ℕ) (es : List Entry) (op : CallOp) (n : ℕ) → (is_method (slice_get es n) || is_interface_method (slice_get es n)) ≡ true → pool_test (map (judge p from es) es) (pool.Call op n) ≡ None
    → IsSome (meant p es (pool.Call op n))
unfolding meant
call_there p links files from es op n kind none =
    method_means p links files from es (pool.Call op n) (λ is_init c. refl) (call_test op) (call_wants op) (slice_get es n) kind
    (sym (ap (λ o. or_no_member (call_test op) (member_in o)) (slice_get-map (judge p from es) es n)) ∙ none)

-- invokeinterface
pub interface_there : (p : Program) → Links p → AreFiles p → (from : List ℕ) (es : List Entry) (n count : ℕ) → (is_method (slice_get es n) || is_interface_method (slice_get es n)) ≡ true → pool_test (map (judge p from es) es) (pool.CallInterface n count) ≡ None
    → IsSome (meant p es (pool.CallInterface n count))
unfolding meant
interface_there p links files from es n count kind none =
    method_means p links files from es (pool.CallInterface n count) (λ is_init c. refl) (interface_test count) (interface_wants count) (slice_get es n) kind
    (sym (ap (λ o. or_no_member (interface_test count) (member_in o)) (slice_get-map (judge p from es) es n)) ∙ none)

-- ---- classes

class_means : (p : Program) (from : List ℕ) (es : List Entry) (f : EntryMeaning → Option Meaning) (test : ClassUse → Option LinkKind)
    → ((i : ℕ) → IsSome (utf8_at es i) → test (class_use p from (text es i)) ≡ None → IsSome (option_and_then f (class_meant p (utf8_at es i))))
    → (e : Option Entry) → ((i : ℕ) → e ≡ Some (entries.Class i) → IsSome (utf8_at es i)) → is_some (option_and_then class_parts e) ≡ true → option_and_then test (class_in (option_map (judge p from es) e)) ≡ None → IsSome (option_and_then f (entry_meant p es e))
unfolding judge entry_meant
class_means p from es f test by None named kind none = absurd cc
class_means p from es f test by (Some entries.Unused) named kind none = absurd cc
class_means p from es f test by (Some (entries.Utf8 a)) named kind none = absurd cc
class_means p from es f test by (Some (entries.Integer a)) named kind none = absurd cc
class_means p from es f test by (Some (entries.Float a)) named kind none = absurd cc
class_means p from es f test by (Some (entries.Long a)) named kind none = absurd cc
class_means p from es f test by (Some (entries.Double a)) named kind none = absurd cc
class_means p from es f test by (Some (entries.Class a)) named kind none = by a (named a refl) none
class_means p from es f test by (Some (entries.Str a)) named kind none = absurd cc
class_means p from es f test by (Some (entries.Field a b)) named kind none = absurd cc
class_means p from es f test by (Some (entries.Method a b)) named kind none = absurd cc
class_means p from es f test by (Some (entries.InterfaceMethod a b)) named kind none = absurd cc
class_means p from es f test by (Some (entries.NameAndType a b)) named kind none = absurd cc
class_means p from es f test by (Some (entries.MethodHandle a b)) named kind none = absurd cc
class_means p from es f test by (Some (entries.MethodType a)) named kind none = absurd cc
class_means p from es f test by (Some (entries.InvokeDynamic a b)) named kind none = absurd cc

-- each class of a pool names a text
abbrev NamesTexts : List Entry → Type 0
NamesTexts es = (n i : ℕ) → slice_get es n ≡ Some (entries.Class i) → IsSome (utf8_at es i)

class_at : (p : Program) (from : List ℕ) (es : List Entry) (test : ClassUse → Option LinkKind) (n : ℕ) → option_and_then test (class_in (slice_get (map (judge p from es) es) n)) ≡ None → option_and_then test (class_in (option_map (judge p from es) (slice_get es n))) ≡ None
class_at p from es test n none = sym (ap (λ o. option_and_then test (class_in o)) (slice_get-map (judge p from es) es n)) ∙ none

-- checkcast and instanceof

cast_either : (p : Program) (op : CastOp) (n : ℕ) (t : List ℕ) (x : VType) → class_type p t ≡ Some x → IsSome (option_and_then (used (pool.Cast op n)) (class_meant p (Some t)))
cast_either p op n t x is = rw is refl

cast_sum : (p : Program) (op : CastOp) (n : ℕ) (t : List ℕ) → (class_type p t ≡ Some (types.Object (record { 0 = t }))) ⊎ IsArrayText p t → IsSome (option_and_then (used (pool.Cast op n)) (class_meant p (Some t)))
cast_sum p op n t (inl h) = cast_either p op n t _ h
cast_sum p op n t (inr a) = cast_either p op n t _ a.is

cast_text : (p : Program) (from : List ℕ) (op : CastOp) (n : ℕ) (o : Option (List ℕ)) → IsSome o → operand_test (class_use p from (or_empty o)) ≡ None → IsSome (option_and_then (used (pool.Cast op n)) (class_meant p o))
cast_text p from op n None has none = absurd cc
cast_text p from op n (Some t) has none = cast_sum p op n t (class_is p from t none)

pub cast_there : (p : Program) (from : List ℕ) (es : List Entry) → NamesTexts es → (op : CastOp) (n : ℕ) → is_some (option_and_then class_parts (slice_get es n)) ≡ true → pool_test (map (judge p from es) es) (pool.Cast op n) ≡ None → IsSome (meant p es (pool.Cast op n))
unfolding meant
cast_there p from es named op n kind none =
    class_means p from es (used (pool.Cast op n)) operand_test (λ i has e. cast_text p from op n (utf8_at es i) has e) (slice_get es n) (named n) kind (class_at p from es operand_test n none)

-- new

new_sum : (p : Program) (n : ℕ) (t : List ℕ) → is_array (type_named t) ≡ false → (class_type p t ≡ Some (types.Object (record { 0 = t }))) ⊎ IsArrayText p t → IsSome (option_and_then (used (pool.New n)) (class_meant p (Some t)))
new_sum p n t single (inl h) = rw h refl
new_sum p n t single (inr a) =
    let clash : false ≡ true = sym single ∙ a.array in
    absurd cc

new_text : (p : Program) (from : List ℕ) (n : ℕ) (o : Option (List ℕ)) → IsSome o → new_test (class_use p from (or_empty o)) ≡ None → IsSome (option_and_then (used (pool.New n)) (class_meant p o))
unfolding is_no_maker
new_text p from n None has none = absurd cc
new_text p from n (Some t) has none =
    let u = class_use p from t in
    let tests = none_of (operand_test u) (fault_if u.unmade BadUse) none in
    let made = no_fault (is_no_maker p (type_named t)) BadUse tests.1 in
    let single = (or_parts (is_array (type_named t)) (holds is_unmade (find p (type_named t).class)) made).0 in
    new_sum p n t single (class_is p from t tests.0)

pub new_there : (p : Program) (from : List ℕ) (es : List Entry) → NamesTexts es → (n : ℕ) → is_some (option_and_then class_parts (slice_get es n)) ≡ true → pool_test (map (judge p from es) es) (pool.New n) ≡ None → IsSome (meant p es (pool.New n))
unfolding meant
new_there p from es named n kind none =
    class_means p from es (used (pool.New n)) new_test (λ i has e. new_text p from n (utf8_at es i) has e) (slice_get es n) (named n) kind (class_at p from es new_test n none)

-- anewarray

array_either : (p : Program) (t : List ℕ) (x : VType) → class_type p t ≡ Some x → IsSome (array_over x) → IsSome (option_and_then array_made (class_meant p (Some t)))
array_either p t x is has = rw is (map_has MakeArray (array_over x) has)

array_sum : (p : Program) (t : List ℕ) → length t ≤ 65535 → (class_type p t ≡ Some (types.Object (record { 0 = t }))) ⊎ IsArrayText p t → IsSome (option_and_then array_made (class_meant p (Some t)))
array_sum p t short (inl h) = array_either p t _ h (over_object (record { 0 = t }))
array_sum p t short (inr a) =
    let few : suc a.depth ≤ 65535 = omega (arith, short, a.short) in
    array_either p t _ a.is (over_array a.depth a.element few)

array_text : (p : Program) (from : List ℕ) (o : Option (List ℕ)) → ((t : List ℕ) → o ≡ Some t → length t ≤ 65535) → IsSome o → operand_test (class_use p from (or_empty o)) ≡ None → IsSome (option_and_then array_made (class_meant p o))
array_text p from None short has none = absurd cc
array_text p from (Some t) short has none = array_sum p t (short t refl) (class_is p from t none)

pub array_there : (p : Program) (from : List ℕ) (es : List Entry) → NamesTexts es → ((i : ℕ) (t : List ℕ) → utf8_at es i ≡ Some t → length t ≤ 65535) → (n : ℕ) → is_some (option_and_then class_parts (slice_get es n)) ≡ true
    → option_and_then operand_test (class_in (slice_get (map (judge p from es) es) n)) ≡ None → IsSome (array_meant p es n)
unfolding array_meant
array_there p from es named short n kind none =
    class_means p from es array_made operand_test (λ i has e. array_text p from (utf8_at es i) (short i) has e) (slice_get es n) (named n) kind (class_at p from es operand_test n none)
