-- The member of a meaning is the one to which its entry is resolved.
use Rattle.std.proofs.Common.{◌≡◌, ℕ, Bool, List, Option, Some, None, refl, sym, subst, ◌∙◌}
use Rattle.std.specs.Prelude.{option_and_then, option_map, slice_get}
use Rattle.jparts.specs.declared.jpool.entry.Entry.{Entry}
use Rattle.jparts.specs.declared.jpool.entry.Entry.TheVariants as entries
use Rattle.jparts.specs.jpool.ConstantPools.{name_and_type_at}
use Rattle.jparts.specs.declared.jcode.names.CallOp.{CallOp}
use Rattle.jparts.specs.declared.jcode.names.CastOp.{CastOp}
use Rattle.jparts.specs.declared.jcode.names.FieldOp.{FieldOp}
use Rattle.jparts.specs.declared.jcode.op_form.PoolForm.{PoolForm}
use Rattle.jparts.specs.declared.jcode.op_form.PoolForm.TheVariants as forms
use Rattle.jtypes.specs.declared.vtype.Name.{Name}
use Rattle.jtypes.specs.declared.vtype.VType.{VType}
use Rattle.jtypes.specs.declared.vtype.VType.TheVariants as types
use Rattle.jresolution.specs.declared.jprogram.member.Member.{Member}
use Rattle.jresolution.specs.jprogram.ClassFileParts.{class_text, text}
use Rattle.jresolution.specs.jprogram.ProgramClasses.{Program}
use Rattle.jresolution.specs.jprogram.MemberResolution.{looked_up, referred, resolve_field, resolve_method, resolved}
use Rattle.jresolution.specs.juses.DescriptorTypes.{Typed, Untyped, Held, Called, name, typed}
use Rattle.jresolution.specs.juses.InstructionMeanings as meanings
use Rattle.jresolution.specs.ProofNames
use Rattle.jresolution.specs.juses.InstructionMeanings.{AClass, AConstant, AField, AMethod, EntryMeaning, Meaning, call_as, call_meant, entry_meant, field_as, field_entry, field_meant, index_of, meant, member_meant, method_entry, reference, used}
use Rattle.jresolution.specs.juses.PoolTables.{pool_at}
use Rattle.jresolution.proofs.JusesProofs.EntryCaches.{resolved_in}

-- ---- entries

-- a field or a method stands for this member
abbrev Agrees : Option EntryMeaning → Option Member → Type 0
Agrees (Some (AField f)) o = o ≡ Some f.member
Agrees (Some (AMethod is_init c)) o = o ≡ Some c.member
Agrees e o = Unit {0}

field_agrees : (owner : Name) (o : Option Member) (t : Typed) → Agrees (option_map AField (field_as owner o t)) o
field_agrees owner None t = tt
field_agrees owner (Some m) Untyped = tt
field_agrees owner (Some m) (Held t) = refl
field_agrees owner (Some m) (Called params ret) = tt

method_agrees : (is_init : Bool) (owner : Name) (o : Option Member) (t : Typed) → Agrees (option_map (AMethod is_init) (call_as owner o t)) o
method_agrees is_init owner None t = tt
method_agrees is_init owner (Some m) Untyped = tt
method_agrees is_init owner (Some m) (Held t) = tt
method_agrees is_init owner (Some m) (Called params ret) = refl

field_both : (p : Program) (pool : List Entry) (class : ℕ) (o : Option (ℕ × ℕ)) → Agrees (option_and_then (λ b. field_entry p (reference pool class b)) o) (option_and_then (looked_up pool class (resolve_field p)) o)
unfolding field_meant
field_both p pool class None = tt
field_both p pool class (Some b) = field_agrees (name (class_text pool class)) (resolve_field p (class_text pool class) (text pool b.0) (text pool b.1)) (typed p (text pool b.1))

method_both : (p : Program) (pool : List Entry) (class : ℕ) (o : Option (ℕ × ℕ)) → Agrees (option_and_then (λ b. method_entry p (reference pool class b)) o) (option_and_then (looked_up pool class (resolve_method p)) o)
unfolding call_meant
method_both p pool class None = tt
method_both p pool class (Some b) = method_agrees _ (name (class_text pool class)) (resolve_method p (class_text pool class) (text pool b.0) (text pool b.1)) (typed p (text pool b.1))

class_agrees : (t : Option VType) → Agrees (option_map AClass t) None
class_agrees None = tt
class_agrees (Some t) = tt

entry_agrees : (p : Program) (pool : List Entry) (e : Option Entry) → Agrees (entry_meant p pool e) (referred p pool e)
unfolding entry_meant
entry_agrees p pool None = tt
entry_agrees p pool (Some entries.Unused) = tt
entry_agrees p pool (Some (entries.Utf8 t)) = tt
entry_agrees p pool (Some (entries.Integer n)) = tt
entry_agrees p pool (Some (entries.Float n)) = tt
entry_agrees p pool (Some (entries.Long n)) = tt
entry_agrees p pool (Some (entries.Double n)) = tt
entry_agrees p pool (Some (entries.Class i)) = class_agrees _
entry_agrees p pool (Some (entries.Str i)) = tt
entry_agrees p pool (Some (entries.Field class both)) = field_both p pool class (name_and_type_at pool both)
entry_agrees p pool (Some (entries.Method class both)) = method_both p pool class (name_and_type_at pool both)
entry_agrees p pool (Some (entries.InterfaceMethod class both)) = method_both p pool class (name_and_type_at pool both)
entry_agrees p pool (Some (entries.NameAndType i d)) = tt
entry_agrees p pool (Some (entries.MethodHandle k i)) = tt
entry_agrees p pool (Some (entries.MethodType i)) = tt
entry_agrees p pool (Some (entries.InvokeDynamic i both)) = tt

-- ---- what an instruction makes of it

abbrev Follows : Option Meaning → Option Member → Type 0
Follows (Some (meanings.Field op f)) o = o ≡ Some f.member
Follows (Some (meanings.Call by c)) o = o ≡ Some c.member
Follows m o = Unit {0}

short_follows : (e : EntryMeaning) (o : Option Member) → Follows (ProofNames.short_constant e) o
short_follows (AConstant (meanings.Int n)) o = tt
short_follows (AConstant (meanings.Long n)) o = tt
short_follows (AConstant (meanings.Text t)) o = tt
short_follows (AClass t) o = tt
short_follows (AField f) o = tt
short_follows (AMethod is_init c) o = tt

long_follows : (e : EntryMeaning) (o : Option Member) → Follows (ProofNames.long_constant e) o
long_follows (AConstant (meanings.Int n)) o = tt
long_follows (AConstant (meanings.Long n)) o = tt
long_follows (AConstant (meanings.Text t)) o = tt
long_follows (AClass t) o = tt
long_follows (AField f) o = tt
long_follows (AMethod is_init c) o = tt

field_follows : (op : FieldOp) (e : EntryMeaning) (o : Option Member) → Agrees (Some e) o → Follows (ProofNames.field_used op e) o
field_follows op (AConstant n) o h = tt
field_follows op (AClass t) o h = tt
field_follows op (AField f) o h = h
field_follows op (AMethod is_init c) o h = tt

call_follows : (op : CallOp) (e : EntryMeaning) (o : Option Member) → Agrees (Some e) o → Follows (ProofNames.called_by op e) o
call_follows op (AConstant n) o h = tt
call_follows op (AClass t) o h = tt
call_follows op (AField f) o h = tt
call_follows op (AMethod is_init c) o h = h

interface_follows : (e : EntryMeaning) (o : Option Member) → Agrees (Some e) o → Follows (ProofNames.called_by_interface e) o
interface_follows (AConstant n) o h = tt
interface_follows (AClass t) o h = tt
interface_follows (AField f) o h = tt
interface_follows (AMethod is_init c) o h = h

class_follows : (t : VType) (o : Option Member) → Follows (ProofNames.made (AClass t)) o
class_follows types.Top o = tt
class_follows types.Int o = tt
class_follows types.Long o = tt
class_follows types.Null o = tt
class_follows types.UninitThis o = tt
class_follows (types.Uninit at) o = tt
class_follows (types.Object c) o = tt
class_follows (types.Array a) o = tt
class_follows types.Ctx o = tt

made_follows : (e : EntryMeaning) (o : Option Member) → Follows (ProofNames.made e) o
made_follows (AConstant n) o = tt
made_follows (AClass t) o = class_follows t o
made_follows (AField f) o = tt
made_follows (AMethod is_init c) o = tt

cast_follows : (op : CastOp) (e : EntryMeaning) (o : Option Member) → Follows (ProofNames.cast_by op e) o
cast_follows op (AConstant n) o = tt
cast_follows op (AClass t) o = tt
cast_follows op (AField f) o = tt
cast_follows op (AMethod is_init c) o = tt

used_follows : (f : PoolForm) (e : EntryMeaning) (o : Option Member) → Agrees (Some e) o → Follows (used f e) o
used_follows (forms.Constant i) e o h = short_follows e o
used_follows (forms.LongConstant i) e o h = long_follows e o
used_follows (forms.Field op i) e o h = field_follows op e o h
used_follows (forms.Call op i) e o h = call_follows op e o h
used_follows (forms.CallInterface i slots) e o h = interface_follows e o h
used_follows (forms.New i) e o h = made_follows e o
used_follows (forms.Cast op i) e o h = cast_follows op e o

all_follows : (f : PoolForm) (e : Option EntryMeaning) (o : Option Member) → Agrees e o → Follows (option_and_then (used f) e) o
all_follows f None o h = tt
all_follows f (Some e) o h = used_follows f e o h

meant_follows : (p : Program) (pool : List Entry) (f : PoolForm) → Follows (meant p pool f) (referred p pool (slice_get pool (index_of f)))
unfolding meant
meant_follows p pool f = all_follows f (entry_meant p pool (slice_get pool (index_of f))) (referred p pool (slice_get pool (index_of f))) (entry_agrees p pool (slice_get pool (index_of f)))

-- ---- the law

told : (m : Meaning) (o : Option Member) (x : Member) → Follows (Some m) o → member_meant m ≡ Some x → o ≡ Some x
told (meanings.Push c) o x h e = absurd cc
told (meanings.Field op f) o x h e = h ∙ e
told (meanings.Call by c) o x h e = h ∙ e
told (meanings.Make c) o x h e = absurd cc
told (meanings.MakeArray t) o x h e = absurd cc
told (meanings.Cast op t) o x h e = absurd cc

pub member_resolved : (p : Program) (class : ℕ) (f : PoolForm) (m : Meaning) (x : Member) → meant p (pool_at p class) f ≡ Some m → member_meant m ≡ Some x → resolved p class (index_of f) ≡ Some x
unfolding resolved
member_resolved p class f m x is e =
    let follows : Follows (Some m) (referred p (pool_at p class) (slice_get (pool_at p class) (index_of f)))
    = subst (λ (q : Option Meaning). Follows q (referred p (pool_at p class) (slice_get (pool_at p class) (index_of f)))) is (meant_follows p (pool_at p class) f) in
    sym (resolved_in p (index_of f) (slice_get p.parts class)) ∙ told m _ x follows e
