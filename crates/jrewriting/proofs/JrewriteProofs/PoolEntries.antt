-- What entries of a pool stand for: in a moved class as in the class, but for references to methods.
use Rattle.std.proofs.Common.{◌≡◌, ℕ, Bool, true, false, ◌&&◌, List, map, Option, Some, None, refl, ap, sym, ◌∙◌}
use Rattle.std.specs.Prelude.{IsTrue, is_some, option_map, slice_get, option_and_then}
use Rattle.std.specs.List.{list_any}
use Rattle.std.specs.Str.{bytes_eq}
use Rattle.std.proofs.lemmas.Option.{slice_get-map}
use Rattle.jground.specs.jformat.Format.{is_good}
use Rattle.jground.proofs.JformatProofs.ReadingSteps.{first_true, second_true}
use Rattle.jparts.specs.declared.jpool.entry.Entry.{Entry}
use Rattle.jparts.specs.declared.jpool.entry.Entry.TheVariants.{Unused, Utf8, Integer, Float, Long, Double, Class, Str, Field, Method, InterfaceMethod, NameAndType, MethodHandle, MethodType, InvokeDynamic}
use Rattle.jparts.specs.declared.jpool.fault.PoolFault.TheVariants.{BadIndex}
use Rattle.jparts.specs.jpool.Descriptors.{descriptor_of, method_slots}
use Rattle.jparts.specs.jpool.ConstantPools as pools
use Rattle.jparts.specs.jpool.ConstantPools.{class_name_at, is_class, is_name_and_type, is_utf8, member_fault, name_and_type_at, utf8_at}
use Rattle.jclass.specs.declared.class.ClassParts.{ClassParts}
use Rattle.jmove.specs.PoolAdditions.{IsFront}
use Rattle.jresolution.specs.declared.jprogram.fault.LinkKind.{LinkKind}
use Rattle.jresolution.specs.declared.jprogram.member.Member.{Member}
use Rattle.jresolution.specs.jprogram.ProgramClasses.{Program, extends, find, holds, is_interface}
use Rattle.jresolution.specs.jprogram.MemberResolution.{init, resolve_field}
use Rattle.jresolution.specs.jprogram.NameChecks.{class_reserved, entry_reserved, is_reserved, names_reserved, text_reserved}
use Rattle.jresolution.specs.jprogram.ClassFileParts.{or_empty, text, this_name}
use Rattle.jlinking.specs.declared.jreferring.judged.Judged.{Judged}
use Rattle.jlinking.specs.declared.jreferring.judged.Judged.TheVariants as judged
use Rattle.jlinking.specs.declared.jreferring.judged.MemberFacts.{MemberFacts}
use Rattle.jlinking.specs.declared.jreferring.judged.MemberUse.{MemberUse}
use Rattle.jlinking.specs.declared.jreferring.judged.Sort.{Sort}
use Rattle.jlinking.specs.declared.jreferring.judged.Sort.TheVariants as sort
use Rattle.jlinking.specs.jreferring.PoolEntryMeanings.{judge, judge_pool, reference}
use Rattle.jlinking.specs.jreferring.MemberLookUp.{named_use}
use Rattle.jlinking.specs.jreferring.ClassNameAccess.{type_named}
use Rattle.jlinking.specs.jreferring.ClassEntryUses.{class_use}
use Rattle.jlinking.specs.jreferring.ReferenceUses.{facts_of, is_crossed, is_enter, member_use}
use Rattle.jlinking.specs.ProofNames.{is_barred, is_of_interface, names_test}
use Rattle.jlinking.proofs.JreferringProofs.IndexedReferences.{reference_named}
use Rattle.jlinking.proofs.JlinkProofs.PresentValues.{then_is}
use Rattle.jmoveclass.proofs.PoolStability.{class_name_stays, kept_test, same_text, text_stays}
use Rattle.jmoveclass.proofs.DemandPreservation.{good_is}
use Rattle.jrewriting.proofs.JmoveclassLawsProofs.CallReferences.{named_in, some_is, two_entry, class_entry, no_entry_fault, two_good}
use Rattle.jrewriting.proofs.JmoveclassLawsProofs.SoundPools.{IsSound, desc_text}
use Rattle.jrewriting.specs.jrewrite.LinkageLaws.{IsLinked}
use Rattle.jrewriting.specs.jrewrite.RewrittenPrograms.{moved}
use Rattle.jrewriting.proofs.JrewriteProofs.DeclarationChecks.{first_false}
use Rattle.jrewriting.proofs.JrewriteProofs.FieldLookup.{any, fields_found}
use Rattle.jrewriting.proofs.JrewriteProofs.FinalOverrides.{Likewise}
use Rattle.jrewriting.proofs.JrewriteProofs.PlainPrograms.{is_plain}
use Rattle.jrewriting.proofs.JrewriteProofs.MemberResolution.{Finds, facts_same, field_finds}
use Rattle.jresolution.proofs.JprogramProofs.ReservedNames.{any_false}
use Rattle.jrewriting.proofs.JrewriteProofs.HierarchyPhases.{IsPlain}
use Rattle.jrewriting.proofs.JrewriteProofs.SupertypeChains.{class_use_same, desc_test_same, extends_same, interface_name, named_plain, type_test_same}
use Rattle.jparts.specs.jpool.PoolEntries.{utf8_parts, class_parts, name_and_type_parts}

-- ---- entries of a sound pool

text_in_pool : (pool : List Entry) (i : ℕ) → IsTrue (is_utf8 pool i) → (t : List ℕ) × (utf8_at pool i ≡ Some t)
unfolding is_utf8 utf8_at
text_in_pool pool i h = some_is (option_and_then utf8_parts (slice_get pool i)) h

both_there : (pool : List Entry) (i : ℕ) → IsTrue (is_name_and_type pool i) → (x : ℕ × ℕ) × (name_and_type_at pool i ≡ Some x)
unfolding is_name_and_type name_and_type_at
both_there pool i h = some_is (option_and_then name_and_type_parts (slice_get pool i)) h

both_entry : (pool : List Entry) (i : ℕ) (x : ℕ × ℕ) → name_and_type_at pool i ≡ Some x → slice_get pool i ≡ Some (NameAndType x.0 x.1)
unfolding name_and_type_at
both_entry pool i x h = two_entry (slice_get pool i) x h

-- ---- what a reference says

pub record Says (pool : List Entry) (class two : ℕ) : Type 0 where
  pub n : ℕ
  pub d : ℕ
  pub owner : List ℕ
  pub name : List ℕ
  pub desc : List ℕ
  pub owner_there : class_name_at pool class ≡ Some owner
  pub both : name_and_type_at pool two ≡ Some (n, d)
  pub name_there : utf8_at pool n ≡ Some name
  pub desc_there : utf8_at pool d ≡ Some desc

pub says_of : (pool : List Entry) (class two : ℕ) → IsSound pool → IsTrue (is_good (member_fault pool class two)) → Says pool class two
says_of pool class two s h =
    let good = good_is (is_class pool class && is_name_and_type pool two) BadIndex h in
    let owner = named_in pool class s (first_true (is_class pool class) (is_name_and_type pool two) good) in
    let x = both_there pool two (second_true (is_class pool class) (is_name_and_type pool two) good) in
    let at = both_entry pool two x.0 x.1 in
    let texts = two_good pool x.0.0 x.0.1 (no_entry_fault pool two (NameAndType x.0.0 x.0.1) s at) in
    let name = text_in_pool pool x.0.0 texts.0 in
    let desc = some_is (utf8_at pool x.0.1) (desc_text (utf8_at pool x.0.1) texts.1) in
    record { n = x.0.0; d = x.0.1; owner = owner.0; name = name.0; desc = desc.0; owner_there = owner.1; both = x.1; name_there = name.1; desc_there = desc.1 }

pub both_stays : (pool whole : List Entry) → IsFront pool whole → (i : ℕ) (x : ℕ × ℕ) → name_and_type_at pool i ≡ Some x → name_and_type_at whole i ≡ Some x
unfolding name_and_type_at
both_stays pool whole f i x h = ap (option_and_then name_and_type_parts) (kept_test pool whole f (λ o. is_some (option_and_then name_and_type_parts o)) refl i (ap is_some h)) ∙ h

abbrev pub says_on : (pool whole : List Entry) → IsFront pool whole → (class two : ℕ) (s : Says pool class two) → Says whole class two
says_on pool whole f class two s = record {
  n = s.n;
  d = s.d;
  owner = s.owner;
  name = s.name;
  desc = s.desc;
  owner_there = class_name_stays pool whole f class s.owner s.owner_there;
  both = both_stays pool whole f two (s.n, s.d) s.both;
  name_there = text_stays pool whole f s.n s.name s.name_there;
  desc_there = text_stays pool whole f s.d s.desc s.desc_there;
}

pub says_use : (p : Program) (from : List ℕ) (pool : List Entry) (kind : Sort) (class two : ℕ) (s : Says pool class two) → reference p from pool kind class two ≡ named_use p from kind s.owner s.name s.desc
says_use p from pool kind class two s =
    sym (reference_named p from pool kind class two s.n s.d s.both)
    ∙ ap (λ (o : List ℕ). named_use p from kind o (text pool s.n) (text pool s.d)) (ap or_empty s.owner_there)
    ∙ ap (λ (o : List ℕ). named_use p from kind s.owner o (text pool s.d)) (ap or_empty s.name_there)
    ∙ ap (λ (o : List ℕ). named_use p from kind s.owner s.name o) (ap or_empty s.desc_there)

-- ---- what isn't kept

pub entry_kept : (c : ClassParts) (i : ℕ) (e : Entry) → names_reserved c ≡ false → slice_get c.pool i ≡ Some e → entry_reserved c.pool e ≡ false
entry_kept c i e h at = any_false (entry_reserved c.pool) c.pool i e (first_false (list_any (entry_reserved c.pool) c.pool) _ h) at

pub class_kept : (c : ClassParts) (i : ℕ) (name : List ℕ) → names_reserved c ≡ false → class_name_at c.pool i ≡ Some name → class_reserved name ≡ false
unfolding class_name_at
class_kept c i name h e =
    let r = then_is (utf8_at c.pool) (option_and_then class_parts (slice_get c.pool i)) name e in
    ap (λ (o : Option (List ℕ)). class_reserved (or_empty o)) (sym r.2) ∙ entry_kept c i (Class r.0) h (class_entry (slice_get c.pool i) r.0 r.1)

pub desc_kept : (c : ClassParts) (class two : ℕ) → names_reserved c ≡ false → (s : Says c.pool class two) → text_reserved s.desc ≡ false
desc_kept c class two h s =
    ap (λ (o : Option (List ℕ)). text_reserved (or_empty o)) (sym s.desc_there) ∙ entry_kept c two (NameAndType s.n s.d) h (both_entry c.pool two (s.n, s.d) s.both)

pub owner_kept : (c : ClassParts) (class two : ℕ) → names_reserved c ≡ false → (s : Says c.pool class two) → class_reserved s.owner ≡ false
owner_kept c class two h s = class_kept c class s.owner h s.owner_there

-- ---- what a reference may be used for

abbrev use_of : Sort → List ℕ → List ℕ → List ℕ → Option LinkKind → Bool → Bool → Option MemberFacts → MemberUse
use_of kind owner name desc names interface upward member = record {
  names = names;
  barred = is_barred (type_named owner) (is_enter owner name desc) (descriptor_of desc);
  of_interface = is_of_interface kind;
  crossed = is_crossed kind interface;
  upward = upward;
  init = bytes_eq name init;
  slots = method_slots desc;
  member = member;
}

plain_owner : (owner : List ℕ) → class_reserved owner ≡ false → is_reserved owner ≡ false
plain_owner owner h = first_false (is_reserved owner) (text_reserved owner) h

names_same : (p : Program) → IsPlain p → (from owner desc : List ℕ) → class_reserved owner ≡ false → text_reserved desc ≡ false
    → names_test (moved p) from (type_named owner) (descriptor_of desc) ≡ names_test p from (type_named owner) (descriptor_of desc)
unfolding text_reserved
names_same p is from owner desc h k = rw (type_test_same p is from (type_named owner) (named_plain owner h), desc_test_same p is from (descriptor_of desc) k) refl

pub use_same : (p : Program) → IsPlain p → (from : List ℕ) → is_reserved from ≡ false → (kind : Sort) (o q : Option Member) (owner name desc : List ℕ) → class_reserved owner ≡ false → text_reserved desc ≡ false
    → option_map (facts_of (moved p) from) q ≡ option_map (facts_of p from) o → member_use (moved p) from kind q owner name desc ≡ member_use p from kind o owner name desc
use_same p is from plain kind o q owner name desc h k facts =
    let names = names_test p from (type_named owner) (descriptor_of desc) in
    let face = holds is_interface (find p owner) in
    let make : Option LinkKind → Bool → Bool → Option MemberFacts → MemberUse = use_of kind owner name desc in
    let now = option_map (facts_of (moved p) from) q in
    ap (λ (n : Option LinkKind). make n (holds is_interface (find (moved p) owner)) (extends (moved p) from owner) now) (names_same p is from owner desc h k)
    ∙ ap (λ (b : Bool). make names b (extends (moved p) from owner) now) (interface_name p is owner (plain_owner owner h))
    ∙ ap (λ (b : Bool). make names face b now) (extends_same p is from owner plain)
    ∙ ap (make names face (extends p from owner)) facts

facts_by : (p : Program) → IsPlain p → (from : List ℕ) → is_reserved from ≡ false → (o q : Option Member) → Finds (Likewise p) any o q → option_map (facts_of (moved p) from) q ≡ option_map (facts_of p from) o
facts_by p is from plain None q f = ap (option_map (facts_of (moved p) from)) (f.none refl)
facts_by p is from plain (Some x) q f =
    let k = f.some x refl refl in
    ap (option_map (facts_of (moved p) from)) k.is ∙ ap (λ (m : MemberFacts). Some m) (facts_same p is from x k.other plain k.like)

field_use : (p : Program) → IsLinked p → (from : List ℕ) → is_reserved from ≡ false → (owner name desc : List ℕ) → class_reserved owner ≡ false → text_reserved desc ≡ false → named_use (moved p) from sort.Field owner name desc ≡ named_use p from sort.Field owner name desc
unfolding named_use
field_use p is from plain owner name desc h k =
    let plainly = is_plain p is in
    use_same p plainly from plain sort.Field (resolve_field p owner name desc) (resolve_field (moved p) owner name desc) owner name desc h k
    (facts_by p plainly from plain (resolve_field p owner name desc) (resolve_field (moved p) owner name desc) (field_finds p plainly (Likewise p) any owner name desc (plain_owner owner h) (fields_found p is name desc)))

-- ---- a class and the moved one

pub record Pair (c d : ClassParts) : Type 0 where
  pub front : IsFront c.pool d.pool
  pub sound : IsSound c.pool
  pub kept : names_reserved c ≡ false
  pub this : this_name d ≡ this_name c
  pub plain : is_reserved (this_name c) ≡ false

-- an entry that is no reference to a method
abbrev pub stays : Entry → Bool
stays (Method c b) = false
stays (InterfaceMethod c b) = false
stays _ = true

pub field_says : (pool : List Entry) (i class two : ℕ) → IsSound pool → slice_get pool i ≡ Some (Field class two) → Says pool class two
unfolding pools.entry_fault
field_says pool i class two s at = says_of pool class two s (no_entry_fault pool i (Field class two) s at)

pub field_judged : (p : Program) → IsLinked p → (c d : ClassParts) → Pair c d → (i class two : ℕ) → slice_get c.pool i ≡ Some (Field class two) → reference (moved p) (this_name c) d.pool sort.Field class two ≡ reference p (this_name c) c.pool sort.Field class two
field_judged p is c d k i class two at =
    let s = field_says c.pool i class two k.sound at in
    says_use (moved p) (this_name c) d.pool sort.Field class two (says_on c.pool d.pool k.front class two s)
    ∙ field_use p is (this_name c) k.plain s.owner s.name s.desc (owner_kept c class two k.kept s) (desc_kept c class two k.kept s)
    ∙ sym (says_use p (this_name c) c.pool sort.Field class two s)

class_judged : (p : Program) → IsPlain p → (c d : ClassParts) → Pair c d → (i name : ℕ) → slice_get c.pool i ≡ Some (Class name) → class_use (moved p) (this_name c) (text d.pool name) ≡ class_use p (this_name c) (text c.pool name)
class_judged p is c d k i name at =
    let there = k.sound.is_pool.named i name at in
    ap (λ (o : Option (List ℕ)). class_use (moved p) (this_name c) (or_empty o)) (same_text c.pool d.pool k.front name there)
    ∙ class_use_same p is (this_name c) (text c.pool name) (entry_kept c i (Class name) k.kept at)

judged_by : (p : Program) → IsLinked p → (c d : ClassParts) → Pair c d → (i : ℕ) (e : Entry) → slice_get c.pool i ≡ Some e → stays e ≡ true → judge (moved p) (this_name c) d.pool e ≡ judge p (this_name c) c.pool e
unfolding judge
judged_by p is c d k i (Class name) at h = ap judged.Class (class_judged p (is_plain p is) c d k i name at)
judged_by p is c d k i (Field class two) at h = ap judged.Member (field_judged p is c d k i class two at)
judged_by p is c d k i (Method class two) at h = absurd cc
judged_by p is c d k i (InterfaceMethod class two) at h = absurd cc
judged_by p is c d k i Unused at h = refl
judged_by p is c d k i (Utf8 t) at h = refl
judged_by p is c d k i (Integer m) at h = refl
judged_by p is c d k i (Float m) at h = refl
judged_by p is c d k i (Long m) at h = refl
judged_by p is c d k i (Double m) at h = refl
judged_by p is c d k i (Str m) at h = refl
judged_by p is c d k i (NameAndType m e) at h = refl
judged_by p is c d k i (MethodHandle m e) at h = refl
judged_by p is c d k i (MethodType m) at h = refl
judged_by p is c d k i (InvokeDynamic m e) at h = refl

-- an entry at its index, in a pool
pub judged_at : (p : Program) (from : List ℕ) (pool : List Entry) (i : ℕ) (e : Entry) → slice_get pool i ≡ Some e → slice_get (map (judge p from pool) pool) i ≡ Some (judge p from pool e)
judged_at p from pool i e at = slice_get-map (judge p from pool) pool i ∙ ap (option_map (judge p from pool)) at

get_on : (pool whole : List Entry) → IsFront pool whole → (i : ℕ) (e : Entry) → slice_get pool i ≡ Some e → slice_get whole i ≡ Some e
get_on pool whole f i e at = kept_test pool whole f is_some refl i (ap is_some at) ∙ at

-- where an entry stays, it stands for what it stood for
pub table_same : (p : Program) → IsLinked p → (c d : ClassParts) → Pair c d → (i : ℕ) (e : Entry) → slice_get c.pool i ≡ Some e → stays e ≡ true → slice_get (judge_pool (moved p) d) i ≡ slice_get (judge_pool p c) i
table_same p is c d k i e at h =
    judged_at (moved p) (this_name d) d.pool i e (get_on c.pool d.pool k.front i e at)
    ∙ ap (λ (from : List ℕ). Some (judge (moved p) from d.pool e)) k.this
    ∙ ap (λ (j : Judged). Some j) (judged_by p is c d k i e at h)
    ∙ sym (judged_at p (this_name c) c.pool i e at)
