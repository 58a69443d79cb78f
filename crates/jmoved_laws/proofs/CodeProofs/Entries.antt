-- What the entries of a moved class's pool stand for: each of the old ones for what it stood for; the new references for the calls with a
-- context besides, and for the methods of `sps/Rt`.
use Rattle.std.proofs.Common.{◌≡◌, ℕ, Bool, true, false, List, [], ◌∷◌, ◌++◌, Option, Some, None, refl, ap, sym, ◌∙◌}
use Rattle.std.specs.Prelude.{IsTrue, option_and_then, option_map, slice_get}
use Rattle.std.specs.Str.{bytes_eq}
use Rattle.jground.specs.jformat.Format.{is_good}
use Rattle.jparts.specs.declared.jpool.descriptor.Descriptor.TheVariants as descriptors
use Rattle.jparts.specs.jpool.Descriptors.{descriptor_of}
use Rattle.jparts.specs.declared.jpool.entry.Entry.{Entry}
use Rattle.jparts.specs.declared.jpool.entry.Entry.TheVariants.{Unused, Utf8, Integer, Float, Long, Double, Class, Str, Field, Method, InterfaceMethod, NameAndType, MethodHandle, MethodType, InvokeDynamic}
use Rattle.jparts.specs.declared.jpool.fault.PoolFault.TheVariants.{BadIndex}
use Rattle.jparts.specs.jpool.ConstantPools as pools
use Rattle.jparts.specs.jpool.ConstantPools.{is_utf8, name_and_type_at, utf8_at}
use Rattle.jclass.specs.declared.class.ClassParts.{ClassParts}
use Rattle.jmove.specs.PoolAdditions.{context_type}
use Rattle.jmove.specs.declared.method.Expand.TheVariants as kinds
use Rattle.jmoveclass.specs.CallExpansion.{calling}
use Rattle.jmoveclass.proofs.PoolStability.{at_front, same_text}
use Rattle.jmoveclass.proofs.DemandPreservation.{good_is}
use Rattle.jrewriting.proofs.JmoveclassLawsProofs.Texts.{longer_well}
use Rattle.jrewriting.proofs.JmoveclassLawsProofs.AddedReferences.{reference as entry_of}
use Rattle.jtypes.specs.declared.vtype.Name.{Name}
use Rattle.jtypes.specs.declared.vtype.VType.{VType}
use Rattle.jresolution.specs.declared.jprogram.member.Member.{Member}
use Rattle.jresolution.specs.jprogram.ProgramClasses.{Program}
use Rattle.jresolution.specs.jprogram.MemberResolution.{init, resolve_field, resolve_method}
use Rattle.jresolution.specs.jprogram.NameChecks.{class_reserved, text_reserved}
use Rattle.jresolution.specs.jprogram.ClassFileParts.{or_empty, text}
use Rattle.jresolution.specs.juses.InstructionMeanings.{AClass, AConstant, AField, AMethod, CallMeaning, EntryMeaning, Reference, Text, call_as, call_meant, entry_meant, field_as, field_entry, field_meant, method_entry, reference}
use Rattle.jresolution.specs.ProofNames.{class_meant}
use Rattle.jresolution.specs.juses.DescriptorTypes.{Called, Held, Typed, Untyped, name, typed}
use Rattle.jrewriting.specs.jrewrite.RewrittenPrograms.{moved}
use Rattle.jrewriting.proofs.JrewriteProofs.Calls.{Known, Takes, target_on}
use Rattle.jrewriting.proofs.JrewriteProofs.CodeNames.{stands_for}
use Rattle.jrewriting.proofs.JrewriteProofs.PoolEntries.{Says, desc_kept, entry_kept, field_says, owner_kept, says_on, stays}
use Rattle.jrewriting.proofs.JmoveclassLawsProofs.CallReferences.{no_entry_fault}
use Rattle.jrewriting.proofs.JrewriteProofs.PlainPrograms.{is_plain}
use Rattle.jrewriting.proofs.JrewriteProofs.Targets.{Change, Target, changed_desc, referred_is}
use Rattle.jsimulation_laws.specs.relation.InstructionExpansion.{handed, moved_member}
use Rattle.jmoved_laws.proofs.CodeProofs.ReferenceResolution.{change_resolved, field_resolved, method_resolved}
use Rattle.jmoved_laws.proofs.NamesProofs.Types.{typed_same}
use Rattle.jmoved_laws.proofs.CodeProofs.Types.{class_type_same, typed_handed}

-- ---- what a reference says

abbrev pub said : List ℕ → List ℕ → List ℕ → Reference
said owner called desc = record { owner = owner; name = called; desc = desc }

read : (f : Reference → Option EntryMeaning) (pool : List Entry) (class two : ℕ) (s : Says pool class two) → option_and_then (λ b. f (reference pool class b)) (name_and_type_at pool two) ≡ f (said s.owner s.name s.desc)
read f pool class two s =
    ap (option_and_then (λ b. f (reference pool class b))) s.both
    ∙ ap (λ (o : Option (List ℕ)). f (said (or_empty o) (text pool s.n) (text pool s.d))) s.owner_there
    ∙ ap (λ (o : Option (List ℕ)). f (said s.owner (or_empty o) (text pool s.d))) s.name_there
    ∙ ap (λ (o : Option (List ℕ)). f (said s.owner s.name (or_empty o))) s.desc_there

method_by : (q : Program) (pool : List Entry) (b : Bool) (class two : ℕ) (s : Says pool class two) → entry_meant q pool (Some (entry_of b class two)) ≡ method_entry q (said s.owner s.name s.desc)
unfolding entry_meant
method_by q pool true class two s = read (method_entry q) pool class two s
method_by q pool false class two s = read (method_entry q) pool class two s

-- a reference to a method
pub method_at : (q : Program) (pool : List Entry) (i : ℕ) (t : Target pool i) → entry_meant q pool (slice_get pool i) ≡ method_entry q (said t.says.owner t.says.name t.says.desc)
method_at q pool i t = ap (entry_meant q pool) t.there ∙ method_by q pool t.interface t.class t.two t.says

-- ---- entries that stay

class_by : (p : Program) (c d : ClassParts) → Known p c d → (o : Option (List ℕ)) → class_reserved (or_empty o) ≡ false → class_meant (moved p) o ≡ class_meant p o
class_by p c d k None plain = refl
class_by p c d k (Some t) plain = ap (option_map AClass) (class_type_same p (is_plain p k.linked) t plain)

field_same : (p : Program) (c d : ClassParts) → Known p c d → (owner called desc : List ℕ) → class_reserved owner ≡ false → text_reserved desc ≡ false → field_entry (moved p) (said owner called desc) ≡ field_entry p (said owner called desc)
unfolding field_meant
field_same p c d k owner called desc plain kept =
    ap (λ (o : Option Member). option_map (λ f. AField f) (field_as (name owner) o (typed (moved p) desc))) (field_resolved p k.linked owner called desc plain)
    ∙ ap (λ (t : Typed). option_map (λ f. AField f) (field_as (name owner) (resolve_field p owner called desc) t)) (typed_same p (is_plain p k.linked) desc kept)

text_named : (pool : List Entry) (n : ℕ) → IsTrue (is_good (pools.entry_fault pool (Str n))) → IsTrue (is_utf8 pool n)
unfolding pools.entry_fault
text_named pool n h = good_is (is_utf8 pool n) BadIndex h

kept_by : (p : Program) (c d : ClassParts) → Known p c d → (i : ℕ) (e : Entry) → slice_get c.pool i ≡ Some e → stays e ≡ true → entry_meant (moved p) d.pool (Some e) ≡ entry_meant p c.pool (Some e)
unfolding entry_meant
kept_by p c d k i (Class n) at h =
    ap (class_meant (moved p)) (same_text c.pool d.pool k.pair.front n (k.pair.sound.is_pool.named i n at)) ∙ class_by p c d k (utf8_at c.pool n) (entry_kept c i (Class n) k.pair.kept at)
kept_by p c d k i (Str n) at h =
    ap (λ (o : Option (List ℕ)). Some (AConstant (Text (or_empty o)))) (same_text c.pool d.pool k.pair.front n (text_named c.pool n (no_entry_fault c.pool i (Str n) k.pair.sound at)))
kept_by p c d k i (Field class two) at h =
    let s = field_says c.pool i class two k.pair.sound at in
    read (field_entry (moved p)) d.pool class two (says_on c.pool d.pool k.pair.front class two s)
    ∙ field_same p c d k s.owner s.name s.desc (owner_kept c class two k.pair.kept s) (desc_kept c class two k.pair.kept s)
    ∙ sym (read (field_entry p) c.pool class two s)
kept_by p c d k i (Method class two) at h = absurd cc
kept_by p c d k i (InterfaceMethod class two) at h = absurd cc
kept_by p c d k i Unused at h = refl
kept_by p c d k i (Utf8 t) at h = refl
kept_by p c d k i (Integer m) at h = refl
kept_by p c d k i (Float m) at h = refl
kept_by p c d k i (Long m) at h = refl
kept_by p c d k i (Double m) at h = refl
kept_by p c d k i (NameAndType m e) at h = refl
kept_by p c d k i (MethodHandle m e) at h = refl
kept_by p c d k i (MethodType m) at h = refl
kept_by p c d k i (InvokeDynamic m e) at h = refl

-- an entry that is no reference to a method
pub entry_same : (p : Program) (c d : ClassParts) → Known p c d → (i : ℕ) (e : Entry) → slice_get c.pool i ≡ Some e → stays e ≡ true → entry_meant (moved p) d.pool (slice_get d.pool i) ≡ entry_meant p c.pool (slice_get c.pool i)
entry_same p c d k i e at h = ap (entry_meant (moved p) d.pool) (at_front c.pool d.pool k.pair.front i e at) ∙ kept_by p c d k i e at h ∙ ap (entry_meant p c.pool) (sym at)

-- ---- calls

call_same : (p : Program) (c d : ClassParts) → Known p c d → (owner called desc : List ℕ) → text_reserved desc ≡ false → resolve_method (moved p) owner called desc ≡ resolve_method p owner called desc
    → method_entry (moved p) (said owner called desc) ≡ method_entry p (said owner called desc)
unfolding call_meant
call_same p c d k owner called desc kept e =
    ap (λ (o : Option Member). option_map (AMethod (bytes_eq called init)) (call_as (name owner) o (typed (moved p) desc))) e
    ∙ ap (λ (t : Typed). option_map (AMethod (bytes_eq called init)) (call_as (name owner) (resolve_method p owner called desc) t)) (typed_same p (is_plain p k.linked) desc kept)

-- one that stays as it is
pub method_same : (p : Program) (c d : ClassParts) → Known p c d → (n : ℕ) (t : Target c.pool n) → calling n (stands_for p c n) ≡ kinds.Same → entry_meant (moved p) d.pool (slice_get d.pool n) ≡ entry_meant p c.pool (slice_get c.pool n)
method_same p c d k n t h =
    let owner = owner_kept c t.class t.two k.pair.kept t.says in
    let desc = desc_kept c t.class t.two k.pair.kept t.says in
    method_at (moved p) d.pool n (target_on c.pool d.pool k.pair.front n t)
    ∙ call_same p c d k t.says.owner t.says.name t.says.desc desc (method_resolved p c d k n t.says.owner t.says.name t.says.desc owner desc (ap (calling n) (sym (referred_is p c.pool n t)) ∙ h))
    ∙ sym (method_at p c.pool n t)

-- what a call's meaning is made of
record Parts (owner : Name) (x : Member) (t : Typed) (m : CallMeaning) : Type 0 where
  pub params : List VType
  pub ret : Option VType
  pub types : t ≡ Called params ret
  pub is : record { owner = owner; params = params; ret = ret; member = x } ≡ m

parts : (owner : Name) (x : Member) (t : Typed) (m : CallMeaning) → call_as owner (Some x) t ≡ Some m → Parts owner x t m
parts owner x Untyped m h = absurd cc
parts owner x (Held v) m h = absurd cc
parts owner x (Called params ret) m h = record { params = params; ret = ret; types = refl; is = cc }

new_entry : (p : Program) (c d : ClassParts) → Known p c d → (i : ℕ) (t : Target c.pool i) (k : Change p c i t) (m : CallMeaning) → call_meant p (said t.says.owner t.says.name t.says.desc) ≡ Some m
    → method_entry (moved p) (said t.says.owner t.says.name (changed_desc c i t)) ≡ Some (AMethod (bytes_eq t.says.name init) (handed m))
unfolding call_meant
new_entry p c d k i t change m h =
    let owner = t.says.owner in
    let called = t.says.name in
    let desc = t.says.desc in
    let x = parts (name owner) change.member (typed p desc) m (ap (λ (o : Option Member). call_as (name owner) o (typed p desc)) (sym change.at) ∙ h) in
    let reads : descriptor_of (changed_desc c i t) ≡ Some (descriptors.Method (change.ps ++ context_type ∷ []) change.ret) = ap descriptor_of change.new ∙ longer_well desc change.ps change.ret change.old change.few in
    let new = typed_handed p (is_plain p k.linked) k.passing desc (changed_desc c i t) change.ps change.ret change.old reads (desc_kept c t.class t.two k.pair.kept t.says) x.params x.ret x.types in
    ap (λ (o : Option Member). option_map (AMethod (bytes_eq called init)) (call_as (name owner) o (typed (moved p) (changed_desc c i t)))) (change_resolved p c d k i t change)
    ∙ ap (λ (y : Typed). option_map (AMethod (bytes_eq called init)) (call_as (name owner) (Some (moved_member change.member)) y)) new
    ∙ ap (λ (y : CallMeaning). Some (AMethod (bytes_eq called init) (handed y))) x.is

-- what an entry of a method stands for
record OfMethod (p : Program) (r : Reference) (b : Bool) (m : CallMeaning) : Type 0 where
  pub call : call_meant p r ≡ Some m
  pub begins : bytes_eq r.name init ≡ b

of_method : (p : Program) (r : Reference) (o : Option CallMeaning) (b : Bool) (m : CallMeaning) → call_meant p r ≡ o → option_map (AMethod (bytes_eq r.name init)) o ≡ Some (AMethod b m) → OfMethod p r b m
of_method p r None b m e h = absurd cc
of_method p r (Some n) b m e h =
    let one : AMethod (bytes_eq r.name init) n ≡ AMethod b m = cc in
    let same : n ≡ m = cc in
    record { call = e ∙ ap (λ (y : CallMeaning). Some y) same; begins = cc }

-- the new reference stands for the call with a context besides
pub method_handed : (p : Program) (c d : ClassParts) → Known p c d → (i j : ℕ) (t : Takes p c d.pool i j) (b : Bool) (m : CallMeaning) → entry_meant p c.pool (slice_get c.pool i) ≡ Some (AMethod b m)
    → entry_meant (moved p) d.pool (slice_get d.pool j) ≡ Some (AMethod b (handed m))
method_handed p c d k i j t b m h =
    let says = t.old.says in
    let r = said says.owner says.name says.desc in
    let one = of_method p r (call_meant p r) b m refl (sym (method_at p c.pool i t.old) ∙ h) in
    method_at (moved p) d.pool j t.new
    ∙ ap (λ (o : List ℕ). method_entry (moved p) (said o t.new.says.name t.new.says.desc)) t.owner
    ∙ ap (λ (o : List ℕ). method_entry (moved p) (said says.owner o t.new.says.desc)) t.name
    ∙ ap (λ (o : List ℕ). method_entry (moved p) (said says.owner says.name o)) t.desc
    ∙ new_entry p c d k i t.old t.change m one.call
    ∙ ap (λ (x : Bool). Some (AMethod x (handed m))) one.begins

resolved_to : (owner : Name) (o : Option Member) (t : Typed) (m : CallMeaning) → call_as owner o t ≡ Some m → o ≡ Some m.member
resolved_to owner None Untyped m h = absurd cc
resolved_to owner None (Held v) m h = absurd cc
resolved_to owner None (Called params ret) m h = absurd cc
resolved_to owner (Some x) t m h = ap (λ (y : CallMeaning). Some y.member) (parts owner x t m h).is

-- the member that a call means is the one for which its reference stands
pub member_is : (p : Program) (c : ClassParts) (n : ℕ) (t : Target c.pool n) (b : Bool) (m : CallMeaning) → entry_meant p c.pool (slice_get c.pool n) ≡ Some (AMethod b m) → stands_for p c n ≡ Some m.member
unfolding call_meant
member_is p c n t b m h =
    let r = said t.says.owner t.says.name t.says.desc in
    let one = of_method p r (call_meant p r) b m refl (sym (method_at p c.pool n t) ∙ h) in
    referred_is p c.pool n t ∙ resolved_to (name t.says.owner) (resolve_method p t.says.owner t.says.name t.says.desc) (typed p t.says.desc) m one.call
