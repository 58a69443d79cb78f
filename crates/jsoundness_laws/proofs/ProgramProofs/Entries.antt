-- What an entry of a pool is that stands for a field, for a method or for a class.
use Rattle.std.proofs.Common.{◌≡◌, ◌∙◌, ℕ, Bool, List, Option, Some, None, refl, ap, subst}
use Rattle.std.specs.Prelude.{option_and_then}
use Rattle.std.specs.Str.{bytes_eq}
use Rattle.jparts.specs.declared.jpool.entry.Entry.{Entry}
use Rattle.jparts.specs.declared.jpool.entry.Entry.TheVariants as entries
use Rattle.jparts.specs.jpool.ConstantPools.{name_and_type_at, utf8_at}
use Rattle.jtypes.specs.declared.vtype.VType.{VType}
use Rattle.jresolution.specs.declared.jprogram.member.Member.{Member}
use Rattle.jresolution.specs.jprogram.ProgramClasses.{Program}
use Rattle.jresolution.specs.jprogram.MemberResolution.{init, looked_up, referred, resolve_field, resolve_method}
use Rattle.jresolution.specs.juses.InstructionMeanings.{AClass, AField, AMethod, CallMeaning, EntryMeaning, FieldMeaning, Reference, call_as, call_meant, entry_meant, field_as}
use Rattle.jresolution.specs.ProofNames.{class_meant}
use Rattle.jresolution.specs.juses.InstructionMeanings.{field_entry, field_meant, method_entry, reference}
use Rattle.jresolution.specs.juses.DescriptorTypes.{Called, Held, Typed, Untyped, class_type, name, typed}
use Rattle.jlinking.specs.declared.jreferring.judged.Sort.{Sort}
use Rattle.jlinking.specs.declared.jreferring.judged.Sort.TheVariants as sort
use Rattle.jlinking.specs.jreferring.PoolEntryMeanings.{entry_of}
use Rattle.jlinking.proofs.JlinkProofs.PresentValues.{map_is, then_is}

-- ---- references

-- what a reference says of a field
pub record IsField (p : Program) (r : Reference) (f : FieldMeaning) : Type 0 where
  pub found : resolve_field p r.owner r.name r.desc ≡ Some f.member
  pub says : typed p r.desc ≡ Held f.held
  pub owned : f.owner ≡ name r.owner

record SaysField (owner : List ℕ) (o : Option Member) (t : Typed) (f : FieldMeaning) : Type 0 where
  found : o ≡ Some f.member
  says : t ≡ Held f.held
  owned : f.owner ≡ name owner

says_field : (owner : List ℕ) (o : Option Member) (t : Typed) (f : FieldMeaning) → field_as (name owner) o t ≡ Some f → SaysField owner o t f
says_field owner None t f e = absurd cc
says_field owner (Some m) Untyped f e = absurd cc
says_field owner (Some m) (Called params ret) f e = absurd cc
says_field owner (Some m) (Held t) f e =
    let made_of : FieldMeaning = record { owner = name owner; held = t; member = m } in
    let same : made_of ≡ f = cc in
    subst (SaysField owner (Some m) (Held t)) same (record { found = refl; says = refl; owned = refl })

field_is : (p : Program) (r : Reference) (f : FieldMeaning) → field_meant p r ≡ Some f → IsField p r f
unfolding field_meant
field_is p r f e =
    let s = says_field r.owner (resolve_field p r.owner r.name r.desc) (typed p r.desc) f e in
    record { found = s.found; says = s.says; owned = s.owned }

-- of a method
pub record IsMethod (p : Program) (r : Reference) (c : CallMeaning) : Type 0 where
  pub found : resolve_method p r.owner r.name r.desc ≡ Some c.member
  pub says : typed p r.desc ≡ Called c.params c.ret
  pub owned : c.owner ≡ name r.owner

record SaysMethod (owner : List ℕ) (o : Option Member) (t : Typed) (c : CallMeaning) : Type 0 where
  found : o ≡ Some c.member
  says : t ≡ Called c.params c.ret
  owned : c.owner ≡ name owner

says_method : (owner : List ℕ) (o : Option Member) (t : Typed) (c : CallMeaning) → call_as (name owner) o t ≡ Some c → SaysMethod owner o t c
says_method owner None t c e = absurd cc
says_method owner (Some m) Untyped c e = absurd cc
says_method owner (Some m) (Held t) c e = absurd cc
says_method owner (Some m) (Called params ret) c e =
    let made_of : CallMeaning = record { owner = name owner; params = params; ret = ret; member = m } in
    let same : made_of ≡ c = cc in
    subst (SaysMethod owner (Some m) (Called params ret)) same (record { found = refl; says = refl; owned = refl })

method_is : (p : Program) (r : Reference) (c : CallMeaning) → call_meant p r ≡ Some c → IsMethod p r c
unfolding call_meant
method_is p r c e =
    let s = says_method r.owner (resolve_method p r.owner r.name r.desc) (typed p r.desc) c e in
    record { found = s.found; says = s.says; owned = s.owned }

-- ---- entries

pub record IsFieldEntry (p : Program) (es : List Entry) (e : Option Entry) (f : FieldMeaning) : Type 0 where
  pub class : ℕ
  pub both : ℕ
  pub is : e ≡ Some (entries.Field class both)
  pub named : ℕ × ℕ
  pub at : name_and_type_at es both ≡ Some named
  pub says : IsField p (reference es class named) f

pub record IsCallEntry (p : Program) (es : List Entry) (e : Option Entry) (begun : Bool) (c : CallMeaning) : Type 0 where
  pub kind : Sort
  pub class : ℕ
  pub both : ℕ
  pub is : e ≡ Some (entry_of kind class both)
  pub refers : referred p es e ≡ option_and_then (looked_up es class (resolve_method p)) (name_and_type_at es both)
  pub named : ℕ × ℕ
  pub at : name_and_type_at es both ≡ Some named
  pub begins : bytes_eq (reference es class named).name init ≡ begun
  pub says : IsMethod p (reference es class named) c

pub record IsClassEntry (p : Program) (es : List Entry) (e : Option Entry) (t : VType) : Type 0 where
  pub class : ℕ
  pub is : e ≡ Some (entries.Class class)
  pub text : List ℕ
  pub at : utf8_at es class ≡ Some text
  pub says : class_type p text ≡ Some t

field_said : (p : Program) (es : List Entry) (class both : ℕ) (f : FieldMeaning)
    → option_and_then (λ b. field_entry p (reference es class b)) (name_and_type_at es both) ≡ Some (AField f)
    → IsFieldEntry p es (Some (entries.Field class both)) f
field_said p es class both f h =
    let b = then_is (λ b. field_entry p (reference es class b)) (name_and_type_at es both) (AField f) h in
    let g = map_is AField (field_meant p (reference es class b.0)) (AField f) b.2 in
    let is : AField g.0 ≡ AField f = g.2 in
    let same : g.0 ≡ f = cc in
    record { class = class; both = both; is = refl; named = b.0; at = b.1; says = field_is p (reference es class b.0) f (g.1 ∙ ap (λ (x : FieldMeaning). Some x) same) }

-- what the entry of a method says
record SaysCall (p : Program) (es : List Entry) (class : ℕ) (o : Option (ℕ × ℕ)) (begun : Bool) (c : CallMeaning) : Type 0 where
  named : ℕ × ℕ
  at : o ≡ Some named
  begins : bytes_eq (reference es class named).name init ≡ begun
  says : IsMethod p (reference es class named) c

call_said : (p : Program) (es : List Entry) (class : ℕ) (o : Option (ℕ × ℕ)) (begun : Bool) (c : CallMeaning)
    → option_and_then (λ b. method_entry p (reference es class b)) o ≡ Some (AMethod begun c) → SaysCall p es class o begun c
call_said p es class o begun c e =
    let b = then_is (λ b. method_entry p (reference es class b)) o (AMethod begun c) e in
    let r = reference es class b.0 in
    let g = map_is (AMethod (bytes_eq r.name init)) (call_meant p r) (AMethod begun c) b.2 in
    let is : AMethod (bytes_eq r.name init) g.0 ≡ AMethod begun c = g.2 in
    let says : bytes_eq r.name init ≡ begun = cc in
    let same : g.0 ≡ c = cc in
    record { named = b.0; at = b.1; begins = says; says = method_is p r c (g.1 ∙ ap (λ (x : CallMeaning). Some x) same) }

class_said : (p : Program) (es : List Entry) (class : ℕ) (t : VType) → class_meant p (utf8_at es class) ≡ Some (AClass t) → IsClassEntry p es (Some (entries.Class class)) t
class_said p es class t e =
    let g = map_is AClass (option_and_then (class_type p) (utf8_at es class)) (AClass t) e in
    let is : AClass g.0 ≡ AClass t = g.2 in
    let same : g.0 ≡ t = cc in
    let b = then_is (class_type p) (utf8_at es class) g.0 g.1 in
    record { class = class; is = refl; text = b.0; at = b.1; says = b.2 ∙ ap (λ (x : VType). Some x) same }

-- an entry of another kind

class_apart : (p : Program) (t : Option (List ℕ)) (x : EntryMeaning) → class_meant p t ≡ Some x → ((y : VType) → AClass y ≡ x → ⊥) → ⊥
class_apart p t x e never = let r = map_is AClass (option_and_then (class_type p) t) x e in never r.0 r.2

field_apart : (p : Program) (es : List Entry) (class : ℕ) (o : Option (ℕ × ℕ)) (x : EntryMeaning) → option_and_then (λ b. field_entry p (reference es class b)) o ≡ Some x
    → ((f : FieldMeaning) → AField f ≡ x → ⊥) → ⊥
field_apart p es class o x e never =
    let b = then_is (λ b. field_entry p (reference es class b)) o x e in
    let r = map_is AField (field_meant p (reference es class b.0)) x b.2 in
    never r.0 r.2

method_apart : (p : Program) (es : List Entry) (class : ℕ) (o : Option (ℕ × ℕ)) (x : EntryMeaning) → option_and_then (λ b. method_entry p (reference es class b)) o ≡ Some x
    → ((begun : Bool) (c : CallMeaning) → AMethod begun c ≡ x → ⊥) → ⊥
method_apart p es class o x e never =
    let b = then_is (λ b. method_entry p (reference es class b)) o x e in
    let r = map_is (AMethod (bytes_eq (reference es class b.0).name init)) (call_meant p (reference es class b.0)) x b.2 in
    never (bytes_eq (reference es class b.0).name init) r.0 r.2

pub field_entry_is : (p : Program) (es : List Entry) (e : Option Entry) (f : FieldMeaning) → entry_meant p es e ≡ Some (AField f) → IsFieldEntry p es e f
unfolding entry_meant
field_entry_is p es None f h = absurd cc
field_entry_is p es (Some entries.Unused) f h = absurd cc
field_entry_is p es (Some (entries.Utf8 a)) f h = absurd cc
field_entry_is p es (Some (entries.Integer a)) f h = absurd cc
field_entry_is p es (Some (entries.Float a)) f h = absurd cc
field_entry_is p es (Some (entries.Long a)) f h = absurd cc
field_entry_is p es (Some (entries.Double a)) f h = absurd cc
field_entry_is p es (Some (entries.Class a)) f h = absurd (class_apart p (utf8_at es a) (AField f) h (λ y same. cc))
field_entry_is p es (Some (entries.Str a)) f h = absurd cc
field_entry_is p es (Some (entries.NameAndType a b)) f h = absurd cc
field_entry_is p es (Some (entries.MethodHandle a b)) f h = absurd cc
field_entry_is p es (Some (entries.MethodType a)) f h = absurd cc
field_entry_is p es (Some (entries.InvokeDynamic a b)) f h = absurd cc
field_entry_is p es (Some (entries.Method class both)) f h = absurd (method_apart p es class (name_and_type_at es both) (AField f) h (λ b c same. cc))
field_entry_is p es (Some (entries.InterfaceMethod class both)) f h = absurd (method_apart p es class (name_and_type_at es both) (AField f) h (λ b c same. cc))
field_entry_is p es (Some (entries.Field class both)) f h = field_said p es class both f h

pub call_entry_is : (p : Program) (es : List Entry) (e : Option Entry) (begun : Bool) (c : CallMeaning) → entry_meant p es e ≡ Some (AMethod begun c) → IsCallEntry p es e begun c
unfolding entry_meant
call_entry_is p es None begun c h = absurd cc
call_entry_is p es (Some entries.Unused) begun c h = absurd cc
call_entry_is p es (Some (entries.Utf8 a)) begun c h = absurd cc
call_entry_is p es (Some (entries.Integer a)) begun c h = absurd cc
call_entry_is p es (Some (entries.Float a)) begun c h = absurd cc
call_entry_is p es (Some (entries.Long a)) begun c h = absurd cc
call_entry_is p es (Some (entries.Double a)) begun c h = absurd cc
call_entry_is p es (Some (entries.Class a)) begun c h = absurd (class_apart p (utf8_at es a) (AMethod begun c) h (λ y same. cc))
call_entry_is p es (Some (entries.Str a)) begun c h = absurd cc
call_entry_is p es (Some (entries.NameAndType a b)) begun c h = absurd cc
call_entry_is p es (Some (entries.MethodHandle a b)) begun c h = absurd cc
call_entry_is p es (Some (entries.MethodType a)) begun c h = absurd cc
call_entry_is p es (Some (entries.InvokeDynamic a b)) begun c h = absurd cc
call_entry_is p es (Some (entries.Field class both)) begun c h = absurd (field_apart p es class (name_and_type_at es both) (AMethod begun c) h (λ f same. cc))
call_entry_is p es (Some (entries.Method class both)) begun c h =
    let s = call_said p es class (name_and_type_at es both) begun c h in
    record { kind = sort.Method; class = class; both = both; is = refl; refers = refl; named = s.named; at = s.at; begins = s.begins; says = s.says }
call_entry_is p es (Some (entries.InterfaceMethod class both)) begun c h =
    let s = call_said p es class (name_and_type_at es both) begun c h in
    record { kind = sort.InterfaceMethod; class = class; both = both; is = refl; refers = refl; named = s.named; at = s.at; begins = s.begins; says = s.says }

pub class_entry_is : (p : Program) (es : List Entry) (e : Option Entry) (t : VType) → entry_meant p es e ≡ Some (AClass t) → IsClassEntry p es e t
unfolding entry_meant
class_entry_is p es None t h = absurd cc
class_entry_is p es (Some entries.Unused) t h = absurd cc
class_entry_is p es (Some (entries.Utf8 a)) t h = absurd cc
class_entry_is p es (Some (entries.Integer a)) t h = absurd cc
class_entry_is p es (Some (entries.Float a)) t h = absurd cc
class_entry_is p es (Some (entries.Long a)) t h = absurd cc
class_entry_is p es (Some (entries.Double a)) t h = absurd cc
class_entry_is p es (Some (entries.Class a)) t h = class_said p es a t h
class_entry_is p es (Some (entries.Str a)) t h = absurd cc
class_entry_is p es (Some (entries.NameAndType a b)) t h = absurd cc
class_entry_is p es (Some (entries.MethodHandle a b)) t h = absurd cc
class_entry_is p es (Some (entries.MethodType a)) t h = absurd cc
class_entry_is p es (Some (entries.InvokeDynamic a b)) t h = absurd cc
class_entry_is p es (Some (entries.Field class both)) t h = absurd (field_apart p es class (name_and_type_at es both) (AClass t) h (λ f same. cc))
class_entry_is p es (Some (entries.Method class both)) t h = absurd (method_apart p es class (name_and_type_at es both) (AClass t) h (λ b c same. cc))
class_entry_is p es (Some (entries.InterfaceMethod class both)) t h = absurd (method_apart p es class (name_and_type_at es both) (AClass t) h (λ b c same. cc))
