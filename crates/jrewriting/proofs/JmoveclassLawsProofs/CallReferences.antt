-- What moved code calls and names, as it is put into a pool: the pool meets the demands on pools still, and each index names a reference
-- of its kind.
use Rattle.std.proofs.Common.{◌≡◌, ℕ, ◌≤◌, ◌<◌, Bool, true, false, ◌&&◌, List, [], ◌∷◌, length, Option, Some, None, refl, ap, sym, ◌∙◌, subst, arith}
use Rattle.std.specs.Prelude.{IsTrue, is_some, slice_get, option_map, option_and_then, nat_le, codes, if◌then◌else◌}
use Rattle.std.proofs.lemmas.Bool.{leb-true}
use Rattle.jground.specs.jformat.Format.{is_good}
use Rattle.jground.proofs.JformatProofs.ReadingSteps.{first_true, second_true}
use Rattle.jparts.specs.declared.jpool.descriptor.Descriptor.{Descriptor}
use Rattle.jparts.specs.declared.jpool.descriptor.Descriptor.TheVariants as descriptors
use Rattle.jparts.specs.declared.jpool.descriptor.FieldType.{FieldType}
use Rattle.jparts.specs.declared.jpool.entry.Entry.{Entry}
use Rattle.jparts.specs.declared.jpool.entry.Entry.TheVariants.{Unused, Utf8, Integer, Float, Long, Double, Class, Str, Field, Method, InterfaceMethod, NameAndType, MethodHandle, MethodType, InvokeDynamic}
use Rattle.jparts.specs.declared.jpool.fault.PoolFault.TheVariants.{BadIndex}
use Rattle.jparts.specs.jpool.Descriptors.{descriptor_of, is_field_descriptor, is_method_descriptor}
use Rattle.jparts.specs.jpool.ConstantPools as pools
use Rattle.jparts.specs.jpool.ConstantPools.{class_name_at, descriptor_fault, is_class, is_name_and_type, is_utf8, member_fault, name_and_type_at, utf8_at}
use Rattle.jparts.proofs.JpoolProofs.PoolLaws.{at_index}
use Rattle.jclass.specs.IndexFormats.{pool_fault}
use Rattle.jclass.specs.PoolChecks.{entry_fault, no_fault, text_fault}
use Rattle.jparts.specs.declared.jmaps.types.FullFrame.{FullFrame}
use Rattle.jmove.specs.declared.method.Expand.{Expand}
use Rattle.jmove.specs.declared.method.Expand.TheVariants.{Same, Call, Check, Snapshot, Privileged, PrivilegedWith, PrivilegedLimited}
use Rattle.jmove.specs.declared.naming.Named.{Named}
use Rattle.jmove.specs.declared.naming.Reference.{Reference}
use Rattle.jmove.specs.declared.naming.Security.{Security}
use Rattle.jmove.specs.declared.naming.Security.TheVariants as security
use Rattle.jmove.specs.PoolAdditions.{IsFront, changed_text, moved_descriptor, numbered, reference_at, reference_by, reference_in, short, with_body, with_call, with_changed, with_class, with_context, with_descriptor, with_entry, with_expansions, with_frames, with_number, with_reference, with_security, with_text, ◌>>◌}
use Rattle.jmove.proofs.PoolGrowth.{expansions_grow, frames_grow, front_on, number_grows, security_grows}
use Rattle.jmoveclass.proofs.PoolStability.{at_front, class_name_stays, same_at, same_text, text_utf8}
use Rattle.jmoveclass.proofs.DemandPreservation.{good_is}
use Rattle.jrewriting.specs.jmoveclass_laws.MovedFiles.{HasRoom}
use Rattle.jrewriting.proofs.JmoveclassLawsProofs.AddedNames.{context_name, context_text}
use Rattle.jrewriting.proofs.JmoveclassLawsProofs.AddedReferences.{put_reference, put_security, reference}
use Rattle.jrewriting.proofs.JmoveclassLawsProofs.SoundPools.{IsSound, IsText, desc_text, entry_front, front_length, good_if, index_small, map_good, or_good, put_both, put_class, put_text}
use Rattle.jrewriting.proofs.JmoveclassLawsProofs.Texts.{is_named, longer, longer_is_method, longer_text, pool_text, text_entry, or_second}
use Rattle.jparts.specs.jpool.PoolEntries.{utf8_parts, class_parts, name_and_type_parts}

-- ---- entries by what they hold

-- whether a method's reference is one of an interface
abbrev pub kind_in : Option Entry → Option Bool
kind_in (Some (Method class both)) = Some false
kind_in (Some (InterfaceMethod class both)) = Some true
kind_in _ = None

pub record IsReference (o : Option Entry) (b : Bool) : Type 0 where
  pub class : ℕ
  pub two : ℕ
  pub is : o ≡ Some (reference b class two)

pub reference_of : (o : Option Entry) (b : Bool) → kind_in o ≡ Some b → IsReference o b
reference_of (Some (Method c d)) false h = record { class = c; two = d; is = refl }
reference_of (Some (Method c d)) true h = absurd cc
reference_of (Some (InterfaceMethod c d)) true h = record { class = c; two = d; is = refl }
reference_of (Some (InterfaceMethod c d)) false h = absurd cc
reference_of None b h = absurd cc
reference_of (Some Unused) b h = absurd cc
reference_of (Some (Utf8 t)) b h = absurd cc
reference_of (Some (Integer n)) b h = absurd cc
reference_of (Some (Float n)) b h = absurd cc
reference_of (Some (Long n)) b h = absurd cc
reference_of (Some (Double n)) b h = absurd cc
reference_of (Some (Class n)) b h = absurd cc
reference_of (Some (Str n)) b h = absurd cc
reference_of (Some (Field c d)) b h = absurd cc
reference_of (Some (NameAndType n d)) b h = absurd cc
reference_of (Some (MethodHandle k m)) b h = absurd cc
reference_of (Some (MethodType d)) b h = absurd cc
reference_of (Some (InvokeDynamic k d)) b h = absurd cc

pub kind_of_reference : (b : Bool) (c d : ℕ) → kind_in (Some (reference b c d)) ≡ Some b
kind_of_reference true c d = refl
kind_of_reference false c d = refl

pub class_entry : (o : Option Entry) (n : ℕ) → option_and_then class_parts o ≡ Some n → o ≡ Some (Class n)
class_entry (Some (Class m)) n h = let same : m ≡ n = cc in ap (λ (k : ℕ). Some (Class k)) same
class_entry None n h = absurd cc
class_entry (Some Unused) n h = absurd cc
class_entry (Some (Utf8 t)) n h = absurd cc
class_entry (Some (Integer m)) n h = absurd cc
class_entry (Some (Float m)) n h = absurd cc
class_entry (Some (Long m)) n h = absurd cc
class_entry (Some (Double m)) n h = absurd cc
class_entry (Some (Str m)) n h = absurd cc
class_entry (Some (Field c d)) n h = absurd cc
class_entry (Some (Method c d)) n h = absurd cc
class_entry (Some (InterfaceMethod c d)) n h = absurd cc
class_entry (Some (NameAndType m d)) n h = absurd cc
class_entry (Some (MethodHandle k m)) n h = absurd cc
class_entry (Some (MethodType d)) n h = absurd cc
class_entry (Some (InvokeDynamic k d)) n h = absurd cc

pub two_entry : (o : Option Entry) (x : ℕ × ℕ) → option_and_then name_and_type_parts o ≡ Some x → o ≡ Some (NameAndType x.0 x.1)
two_entry (Some (NameAndType m d)) x h =
    let first : m ≡ x.0 = cc in
    let second : d ≡ x.1 = cc in
    ap (λ (k : ℕ). Some (NameAndType k d)) first ∙ ap (λ (k : ℕ). Some (NameAndType x.0 k)) second
two_entry None x h = absurd cc
two_entry (Some Unused) x h = absurd cc
two_entry (Some (Utf8 t)) x h = absurd cc
two_entry (Some (Integer m)) x h = absurd cc
two_entry (Some (Float m)) x h = absurd cc
two_entry (Some (Long m)) x h = absurd cc
two_entry (Some (Double m)) x h = absurd cc
two_entry (Some (Class m)) x h = absurd cc
two_entry (Some (Str m)) x h = absurd cc
two_entry (Some (Field c d)) x h = absurd cc
two_entry (Some (Method c d)) x h = absurd cc
two_entry (Some (InterfaceMethod c d)) x h = absurd cc
two_entry (Some (MethodHandle k m)) x h = absurd cc
two_entry (Some (MethodType d)) x h = absurd cc
two_entry (Some (InvokeDynamic k d)) x h = absurd cc

pub some_is : {A : Type 0} (o : Option A) → IsTrue (is_some o) → (x : A) × (o ≡ Some x)
some_is None h = absurd cc
some_is (Some x) h = (x, refl)

kind_there : (o : Option Entry) (b : Bool) → kind_in o ≡ Some b → IsTrue (is_some o)
kind_there None b h = absurd cc
kind_there (Some e) b h = refl

pub kind_stays : (pool whole : List Entry) → IsFront pool whole → (i : ℕ) (b : Bool) → kind_in (slice_get pool i) ≡ Some b → kind_in (slice_get whole i) ≡ Some b
kind_stays pool whole f i b h = ap kind_in (same_at pool whole f i (kind_there (slice_get pool i) b h)) ∙ h

-- ---- what entries of a sound pool name

-- an entry's own faults
pub no_entry_fault : (pool : List Entry) (i : ℕ) (e : Entry) → IsSound pool → slice_get pool i ≡ Some e → IsTrue (is_good (pools.entry_fault pool e))
unfolding no_fault entry_fault
no_entry_fault pool i e s at =
    let good = at_index (λ one. is_good (entry_fault pool one)) pool i e s.good at in
    map_good (pools.entry_fault pool e) (or_good (text_fault e) (option_map pool_fault (pools.entry_fault pool e)) good).1

member_good : (pool : List Entry) (b : Bool) (c d : ℕ) → IsTrue (is_good (pools.entry_fault pool (reference b c d))) → IsTrue (is_good (member_fault pool c d))
unfolding pools.entry_fault
member_good pool true c d h = h
member_good pool false c d h = h

pub two_good : (pool : List Entry) (n d : ℕ) → IsTrue (is_good (pools.entry_fault pool (NameAndType n d))) → IsTrue (is_utf8 pool n) × IsTrue (is_good (descriptor_fault (utf8_at pool d)))
unfolding pools.entry_fault
two_good pool n d h = good_if (is_utf8 pool n) (descriptor_fault (utf8_at pool d)) h

pub named_in : (pool : List Entry) (c : ℕ) → IsSound pool → IsTrue (is_class pool c) → (name : List ℕ) × (class_name_at pool c ≡ Some name)
unfolding is_class class_name_at utf8_at is_utf8
named_in pool c s h =
    let n = some_is (option_and_then class_parts (slice_get pool c)) h in
    let at = class_entry (slice_get pool c) n.0 n.1 in
    let t = some_is (option_and_then utf8_parts (slice_get pool n.0)) (s.is_pool.named c n.0 at) in
    (t.0, ap (option_and_then (λ i. option_and_then utf8_parts (slice_get pool i))) n.1 ∙ t.1)

text_in_pool : (pool : List Entry) (i : ℕ) → IsTrue (is_utf8 pool i) → (text : List ℕ) × (utf8_at pool i ≡ Some text)
unfolding is_utf8 utf8_at
text_in_pool pool i h = some_is (option_and_then utf8_parts (slice_get pool i)) h

-- what the reference at an index of a sound pool names
record IsGood (pool : List Entry) (b : Bool) (r : Reference) : Type 0 where
  pub interface : r.interface ≡ b
  pub class : IsTrue (is_class pool r.class)
  pub name : IsTrue (is_utf8 pool r.name)
  pub desc : IsTrue (is_utf8 pool r.descriptor)

made_by : (pool : List Entry) (b : Bool) (c : ℕ) (o : Option (ℕ × ℕ)) (r : Reference) → reference_by b c o ≡ Some r → IsTrue (is_class pool c)
    → ((x : ℕ × ℕ) → o ≡ Some x → IsTrue (is_utf8 pool x.0) × IsTrue (is_utf8 pool x.1)) → IsGood pool b r
made_by pool b c None r h class texts = absurd cc
made_by pool b c (Some x) r h class texts =
    let t = texts x refl in
    let made : Reference = record { interface = b; class = c; name = x.0; descriptor = x.1 } in
    let same : made ≡ r = cc in
    subst (λ (q : Reference). IsGood pool b q) same (record { interface = refl; class = class; name = t.0; desc = t.1 })

pub in_by : (pool : List Entry) (b : Bool) (c d : ℕ) → reference_in pool (Some (reference b c d)) ≡ reference_by b c (name_and_type_at pool d)
in_by pool true c d = refl
in_by pool false c d = refl

texts_of : (pool : List Entry) (d : ℕ) (x : ℕ × ℕ) → IsSound pool → name_and_type_at pool d ≡ Some x → IsTrue (is_utf8 pool x.0) × IsTrue (is_utf8 pool x.1)
unfolding name_and_type_at
texts_of pool d x s h =
    let at = two_entry (slice_get pool d) x h in
    let g = two_good pool x.0 x.1 (no_entry_fault pool d (NameAndType x.0 x.1) s at) in
    let t = some_is (utf8_at pool x.1) (desc_text (utf8_at pool x.1) g.1) in
    (g.0, text_utf8 pool x.1 t.0 t.1)

good_reference : (pool : List Entry) (i : ℕ) (b : Bool) (r : Reference) → IsSound pool → kind_in (slice_get pool i) ≡ Some b → reference_at pool i ≡ Some r → IsGood pool b r
unfolding reference_at
good_reference pool i b r s k h =
    let e = reference_of (slice_get pool i) b k in
    let member = good_is (is_class pool e.class && is_name_and_type pool e.two) BadIndex (member_good pool b e.class e.two (no_entry_fault pool i (reference b e.class e.two) s e.is)) in
    let is : reference_by b e.class (name_and_type_at pool e.two) ≡ Some r = sym (in_by pool b e.class e.two) ∙ ap (reference_in pool) (sym e.is) ∙ h in
    made_by pool b e.class (name_and_type_at pool e.two) r is (first_true (is_class pool e.class) (is_name_and_type pool e.two) member) (λ x at. texts_of pool e.two x s at)

-- the reference stays where the pool grows
both_there : (o : Option Entry) → IsTrue (is_some (option_and_then name_and_type_parts o)) → IsTrue (is_some o)
both_there None h = absurd cc
both_there (Some e) h = refl

two_same : (base pool : List Entry) → IsFront base pool → (d : ℕ) → IsTrue (is_name_and_type base d) → name_and_type_at pool d ≡ name_and_type_at base d
unfolding name_and_type_at is_name_and_type
two_same base pool f d h = ap (option_and_then name_and_type_parts) (same_at base pool f d (both_there (slice_get base d) h))

same_reference : (base pool : List Entry) → IsFront base pool → IsSound base → (i : ℕ) (b : Bool) → kind_in (slice_get base i) ≡ Some b → reference_at pool i ≡ reference_at base i
unfolding reference_at
same_reference base pool f s i b k =
    let e = reference_of (slice_get base i) b k in
    let member = good_is (is_class base e.class && is_name_and_type base e.two) BadIndex (member_good base b e.class e.two (no_entry_fault base i (reference b e.class e.two) s e.is)) in
    let two = two_same base pool f e.two (second_true (is_class base e.class) (is_name_and_type base e.two) member) in
    ap (reference_in pool) (same_at base pool f i (kind_there (slice_get base i) b k) ∙ e.is) ∙ in_by pool b e.class e.two ∙ ap (reference_by b e.class) two ∙ sym (in_by base b e.class e.two) ∙ ap (reference_in base) (sym e.is)

-- ---- a changed call

room_on : (base pool : List Entry) → IsFront base pool → IsSound base → (i : ℕ) (b : Bool) → kind_in (slice_get base i) ≡ Some b → HasRoom base i → HasRoom pool i
room_on base pool f s i b k room r text ps ret at there is =
    let here : reference_at base i ≡ Some r = sym (same_reference base pool f s i b k) ∙ at in
    let g = good_reference base i b r s k here in
    room r text ps ret here (sym (same_text base pool f r.descriptor g.desc) ∙ there) is

-- a reference of this kind
pub record IsCalled (b : Bool) (x : ℕ × List Entry) : Type 0 where
  pub sound : IsSound x.1
  pub kind : kind_in (slice_get x.1 x.0) ≡ Some b
  pub small : x.0 ≤ 0xffff

called_at : (pool : List Entry) (i : ℕ) (b : Bool) → IsSound pool → kind_in (slice_get pool i) ≡ Some b → IsCalled b (i, pool)
called_at pool i b s k =
    let e = reference_of (slice_get pool i) b k in
    let less : i < 65536 = index_small pool i (reference b e.class e.two) s e.is in
    record { sound = s; kind = k; small = omega arith }

put_changed : (r : Reference) (text : List ℕ) (pool : List Entry) → IsSound pool → IsTrue (is_class pool r.class) → IsTrue (is_utf8 pool r.name) → IsText text → IsTrue (is_method_descriptor text)
    → length (with_changed r text pool).1 ≤ 65535 → IsCalled r.interface (with_changed r text pool)
unfolding with_changed ◌>>◌
put_changed r text pool s class name t good few =
    let x = with_text text pool in
    let y = with_entry (NameAndType r.name x.0) x.1 in
    let z = with_entry (reference r.interface r.class y.0) y.1 in
    let f = entry_front (Utf8 text) pool in
    let g = entry_front (NameAndType r.name x.0) x.1 in
    let last : length y.1 ≤ length z.1 = front_length y.1 z.1 (entry_front (reference r.interface r.class y.0) y.1) in
    let first : length x.1 ≤ length y.1 = front_length x.1 y.1 g in
    let p = put_text text pool s t (omega arith) in
    let n = text_in_pool pool r.name name in
    let c = named_in pool r.class s class in
    let q = put_both r.name x.0 n.0 text x.1 p.sound (at_front pool x.1 f r.name (Utf8 n.0) (text_entry pool r.name n.0 n.1)) p.there (or_second (is_field_descriptor text) (is_method_descriptor text) good) (omega arith) in
    let w = put_reference r.interface r.class y.0 q.n q.d c.0 n.0 text y.1 q.sound (class_name_stays pool y.1 (front_on pool x.1 y.1 f g) r.class c.0 c.1) q.there q.name_there q.desc_there few in
    called_at z.1 z.0 r.interface w.sound (ap kind_in w.there ∙ kind_of_reference r.interface w.c w.b)

-- the new descriptor
record IsChanged (pool : List Entry) (r : Reference) (text : List ℕ) : Type 0 where
  pub old : List ℕ
  pub there : utf8_at pool r.descriptor ≡ Some old
  pub ps : List FieldType
  pub ret : Option FieldType
  pub is : descriptor_of old ≡ Some (descriptors.Method ps ret)
  pub new : longer ps ret ≡ text
  pub few : length text ≤ 65535

short_is : (b : Bool) (t text : List ℕ) → nat_le (length t) 65535 ≡ b → (if b then Some t else None) ≡ Some text → (t ≡ text) × (length t ≤ 65535)
short_is true t text e h = (cc, leb-true (length t) 65535 e)
short_is false t text e h = absurd cc

changed_desc : (pool : List Entry) (r : Reference) (text old : List ℕ) (d : Option Descriptor) → utf8_at pool r.descriptor ≡ Some old → descriptor_of old ≡ d → option_and_then short (option_and_then with_context d) ≡ Some text → IsChanged pool r text
changed_desc pool r text old None there e h = absurd cc
changed_desc pool r text old (Some (descriptors.Field t)) there e h = absurd cc
changed_desc pool r text old (Some (descriptors.Method ps ret)) there e h =
    let s = short_is (nat_le (length (longer ps ret)) 65535) (longer ps ret) text refl h in
    let few : length (longer ps ret) ≤ 65535 = s.1 in
    record { old = old; there = there; ps = ps; ret = ret; is = e; new = s.0; few = subst (λ (l : List ℕ). length l ≤ 65535) s.0 few }

changed_from : (pool : List Entry) (r : Reference) (text : List ℕ) (o : Option (List ℕ)) → utf8_at pool r.descriptor ≡ o → option_and_then short (option_and_then moved_descriptor o) ≡ Some text → IsChanged pool r text
unfolding moved_descriptor
changed_from pool r text None e h = absurd cc
changed_from pool r text (Some old) e h = changed_desc pool r text old (descriptor_of old) e refl h

changed_is : (pool : List Entry) (r : Reference) (text : List ℕ) → changed_text pool r ≡ Some text → IsChanged pool r text
unfolding changed_text
changed_is pool r text h = changed_from pool r text (utf8_at pool r.descriptor) refl h

put_descriptor : (i : ℕ) (b : Bool) (r : Reference) (o : Option (List ℕ)) (pool : List Entry) → IsSound pool → kind_in (slice_get pool i) ≡ Some b → HasRoom pool i → reference_at pool i ≡ Some r → changed_text pool r ≡ o
    → length (with_descriptor i r o pool).1 ≤ 65535 → IsCalled b (with_descriptor i r o pool)
put_descriptor i b r None pool s k room at e few = called_at pool i b s k
put_descriptor i b r (Some text) pool s k room at e few =
    let g = good_reference pool i b r s k at in
    let c = changed_is pool r text e in
    let old = pool_text pool r.descriptor c.old s (text_entry pool r.descriptor c.old c.there) in
    let slots = room r c.old c.ps c.ret at c.there c.is in
    let t = longer_text c.old c.ps c.ret old c.is (subst (λ (l : List ℕ). length l ≤ 65535) (sym c.new) c.few) in
    let m = longer_is_method c.old c.ps c.ret c.is slots in
    subst (λ (d : Bool). IsCalled d (with_changed r text pool)) g.interface
    (put_changed r text pool s g.class g.name (subst IsText c.new t) (subst (λ (l : List ℕ). IsTrue (is_method_descriptor l)) c.new m) few)

put_by : (i : ℕ) (b : Bool) (o : Option Reference) (pool : List Entry) → IsSound pool → kind_in (slice_get pool i) ≡ Some b → HasRoom pool i → reference_at pool i ≡ o
    → length (with_reference i o pool).1 ≤ 65535 → IsCalled b (with_reference i o pool)
put_by i b None pool s k room e few = called_at pool i b s k
put_by i b (Some r) pool s k room e few = put_descriptor i b r (changed_text pool r) pool s k room e refl few

pub put_call : (i : ℕ) (b : Bool) (pool : List Entry) → IsSound pool → kind_in (slice_get pool i) ≡ Some b → HasRoom pool i → length (with_call i pool).1 ≤ 65535 → IsCalled b (with_call i pool)
unfolding with_call
put_call i b pool s k room few = put_by i b (reference_at pool i) pool s k room refl few

-- ---- what instructions call

-- a reference takes the place of one of its kind,
abbrev pub IsKept : List Entry → List Entry → ℕ → ℕ → Type 0
IsKept base whole i j = (j ≤ 0xffff) × ((b : Bool) × ((kind_in (slice_get base i) ≡ Some b) × (kind_in (slice_get whole j) ≡ Some b)))

-- or names a method of a class
abbrev pub IsRt : List Entry → ℕ → Type 0
IsRt whole j = (j ≤ 0xffff) × (kind_in (slice_get whole j) ≡ Some false)

-- the number of an expansion in a pool
abbrev pub IsNumber : List Entry → List Entry → Expand → ℕ → Type 0
IsNumber base whole Same j = Unit {0}
IsNumber base whole (Call i) j = IsKept base whole i j
IsNumber base whole (Check i) j = IsRt whole j
IsNumber base whole (Snapshot i) j = IsRt whole j
IsNumber base whole (Privileged i) j = IsRt whole j
IsNumber base whole (PrivilegedWith i) j = IsRt whole j
IsNumber base whole (PrivilegedLimited i) j = IsRt whole j

abbrev pub AreNumbered : List Entry → List Entry → List Expand → List Expand → Type 0
AreNumbered base whole [] [] = Unit {0}
AreNumbered base whole (k ∷ ks) (m ∷ ms) = ((j : ℕ) × ((m ≡ numbered k j) × IsNumber base whole k j)) × AreNumbered base whole ks ms
AreNumbered base whole _ _ = ⊥

rt_on : (mid whole : List Entry) → IsFront mid whole → (j : ℕ) → IsRt mid j → IsRt whole j
rt_on mid whole f j h = (h.0, kind_stays mid whole f j false h.1)

number_on : (base mid whole : List Entry) → IsFront mid whole → (k : Expand) (j : ℕ) → IsNumber base mid k j → IsNumber base whole k j
number_on base mid whole f Same j h = tt
number_on base mid whole f (Call i) j h = (h.0, (h.1.0, (h.1.1.0, kind_stays mid whole f j h.1.0 h.1.1.1)))
number_on base mid whole f (Check i) j h = rt_on mid whole f j h
number_on base mid whole f (Snapshot i) j h = rt_on mid whole f j h
number_on base mid whole f (Privileged i) j h = rt_on mid whole f j h
number_on base mid whole f (PrivilegedWith i) j h = rt_on mid whole f j h
number_on base mid whole f (PrivilegedLimited i) j h = rt_on mid whole f j h

pub numbers_on : (base mid whole : List Entry) → IsFront mid whole → (ks ms : List Expand) → AreNumbered base mid ks ms → AreNumbered base whole ks ms
numbers_on base mid whole f [] [] h = tt
numbers_on base mid whole f (k ∷ ks) (m ∷ ms) h = ((h.0.0, (h.0.1.0, number_on base mid whole f k h.0.0 h.0.1.1)), numbers_on base mid whole f ks ms h.1)
numbers_on base mid whole f [] (m ∷ ms) h = absurd h
numbers_on base mid whole f (k ∷ ks) [] h = absurd h

-- what is asked of the calls that change
abbrev pub IsCall : List Entry → Expand → Type 0
IsCall base (Call i) = (b : Bool) × ((kind_in (slice_get base i) ≡ Some b) × HasRoom base i)
IsCall base k = Unit {0}

abbrev pub AreCalls : List Entry → List Expand → Type 0
AreCalls base [] = Unit {0}
AreCalls base (k ∷ ks) = IsCall base k × AreCalls base ks

rt_put : (m : Security) (pool : List Entry) → IsSound pool → length (with_security m pool).1 ≤ 65535 → IsSound (with_security m pool).1 × IsRt (with_security m pool).1 (with_security m pool).0
rt_put m pool s few =
    let w = put_security m pool s few in
    let c = called_at (with_security m pool).1 (with_security m pool).0 false w.sound (ap kind_in w.there) in
    (w.sound, (c.small, c.kind))

put_number : (base : List Entry) (k : Expand) (pool : List Entry) → IsFront base pool → IsSound base → IsSound pool → IsCall base k → length (with_number k pool).1 ≤ 65535
    → IsSound (with_number k pool).1 × IsNumber base (with_number k pool).1 k (with_number k pool).0
put_number base Same pool f sb s call few = (s, tt)
put_number base (Call i) pool f sb s call few =
    let c = put_call i call.0 pool s (kind_stays base pool f i call.0 call.1.0) (room_on base pool f sb i call.0 call.1.0 call.1.1) few in
    (c.sound, (c.small, (call.0, (call.1.0, c.kind))))
put_number base (Check i) pool f sb s call few = rt_put security.Check pool s few
put_number base (Snapshot i) pool f sb s call few = rt_put security.Snapshot pool s few
put_number base (Privileged i) pool f sb s call few = rt_put security.Privileged pool s few
put_number base (PrivilegedWith i) pool f sb s call few = rt_put security.PrivilegedWith pool s few
put_number base (PrivilegedLimited i) pool f sb s call few = rt_put security.PrivilegedLimited pool s few

put_expansions : (base : List Entry) (ks : List Expand) (pool : List Entry) → IsFront base pool → IsSound base → IsSound pool → AreCalls base ks → length (with_expansions ks pool).1 ≤ 65535
    → IsSound (with_expansions ks pool).1 × AreNumbered base (with_expansions ks pool).1 ks (with_expansions ks pool).0
unfolding with_expansions ◌>>◌
put_expansions base [] pool f sb s calls few = (s, tt)
put_expansions base (k ∷ ks) pool f sb s calls few =
    let x = with_number k pool in
    let y = with_expansions ks x.1 in
    let grown = (number_grows k).on pool in
    let later = (expansions_grow ks).on x.1 in
    let le : length x.1 ≤ length y.1 = front_length x.1 y.1 later in
    let p = put_number base k pool f sb s calls.0 (omega arith) in
    let q = put_expansions base ks x.1 (front_on base pool x.1 f grown) sb p.0 calls.1 few in
    (q.0, ((x.0, (refl, number_on base x.1 y.1 later k x.0 p.1)), q.1))

-- ---- a body

-- the class of contexts, where there are frames
abbrev pub IsContext : List Entry → List FullFrame → ℕ → Type 0
IsContext pool [] n = Unit {0}
IsContext pool (f ∷ fs) n = (n ≤ 0xffff) × IsTrue (is_class pool n)

some_before : {A B : Type 0} (g : A → Option B) (o : Option A) (b : B) → option_and_then g o ≡ Some b → IsTrue (is_some o)
some_before g None b h = absurd cc
some_before g (Some a) b h = refl

class_there : (pool : List Entry) (c : ℕ) (name : List ℕ) → IsSound pool → class_name_at pool c ≡ Some name → (c ≤ 0xffff) × IsTrue (is_class pool c)
unfolding class_name_at is_class
class_there pool c name s h =
    let n = some_is (option_and_then class_parts (slice_get pool c)) (some_before (utf8_at pool) (option_and_then class_parts (slice_get pool c)) name h) in
    let less : c < 65536 = index_small pool c (Class n.0) s (class_entry (slice_get pool c) n.0 n.1) in
    (omega arith, ap is_some n.1)

pub put_named : (name : List ℕ) (pool : List Entry) → IsSound pool → IsText name → IsTrue (is_named name) → length (with_class name pool).1 ≤ 65535
    → IsSound (with_class name pool).1 × ((with_class name pool).0 ≤ 0xffff) × IsTrue (is_class (with_class name pool).1 (with_class name pool).0)
put_named name pool s t good few =
    let p = put_class name pool s t good few in
    let c = class_there (with_class name pool).1 (with_class name pool).0 name p.sound p.named in
    (p.sound, c.0, c.1)

put_frames : (fs : List FullFrame) (pool : List Entry) → IsSound pool → length (with_frames fs pool).1 ≤ 65535 → IsSound (with_frames fs pool).1 × IsContext (with_frames fs pool).1 fs (with_frames fs pool).0
put_frames [] pool s few = (s, tt)
put_frames (f ∷ fs) pool s few = let p = put_named (codes "sps/Ctx") pool s context_text context_name few in (p.0, (p.1, p.2))

-- what a body names stands in a pool
pub record IsBody (base : List Entry) (ks : List Expand) (fs : List FullFrame) (x : Named × List Entry) : Type 0 where
  pub sound : IsSound x.1
  pub enter : IsRt x.1 x.0.enter
  pub kinds : AreNumbered base x.1 ks x.0.kinds
  pub context : IsContext x.1 fs x.0.context

pub put_body : (base : List Entry) (ks : List Expand) (fs : List FullFrame) (pool : List Entry) → IsFront base pool → IsSound base → IsSound pool → AreCalls base ks → length (with_body ks fs pool).1 ≤ 65535 → IsBody base ks fs (with_body ks fs pool)
unfolding with_body ◌>>◌
put_body base ks fs pool f sb s calls few =
    let x = with_security security.Enter pool in
    let y = with_expansions ks x.1 in
    let z = with_frames fs y.1 in
    let g = (security_grows security.Enter).on pool in
    let h = (expansions_grow ks).on x.1 in
    let k = (frames_grow fs).on y.1 in
    let second : length y.1 ≤ length z.1 = front_length y.1 z.1 k in
    let first : length x.1 ≤ length y.1 = front_length x.1 y.1 h in
    let p = rt_put security.Enter pool s (omega arith) in
    let q = put_expansions base ks x.1 (front_on base pool x.1 f g) sb p.0 calls (omega arith) in
    let w = put_frames fs y.1 q.0 few in
    record {
      sound = w.0;
      enter = rt_on x.1 z.1 (front_on x.1 y.1 z.1 h k) x.0 p.1;
      kinds = numbers_on base y.1 z.1 k ks y.0 q.1;
      context = w.1;
    }
