-- What is kept of entries.
use Rattle.std.proofs.Common.{◌≡◌, ℕ, ◌+◌, ◌<◌, ◌≤◌, Bool, true, false, List, [], ◌∷◌, ◌++◌, length, get_or, take, map, Option, Some, None, refl, sym, ap, subst, ◌∙◌}
use Rattle.std.specs.Prelude.{is_some, option_and_then, option_map, slice_get, if◌then◌else◌}
use Rattle.std.specs.Str.{bytes_eq}
use Rattle.jparts.specs.declared.jpool.entry.Entry.{Entry}
use Rattle.jparts.specs.declared.jpool.entry.Entry.TheVariants as entries
use Rattle.jparts.specs.jpool.ConstantPools.{name_and_type_at, utf8_at}
use Rattle.jparts.specs.declared.jcode.op_form.PoolForm.{PoolForm}
use Rattle.jtypes.specs.declared.vtype.Name.{Name}
use Rattle.jresolution.specs.declared.jprogram.member.Member.{Member}
use Rattle.jresolution.specs.declared.jprogram.part.ClassRef.{ClassRef}
use Rattle.jresolution.specs.declared.jprogram.part.CodePart.{CodePart}
use Rattle.jresolution.specs.jprogram.ClassFileParts.{class_text, text}
use Rattle.jresolution.specs.jprogram.ProgramClasses.{Program, find}
use Rattle.jresolution.specs.jprogram.MemberResolution.{init, looked_up, referred, resolve_field, resolve_method, resolved}
use Rattle.jresolution.specs.declared.juses.types.TypeRef.{TypeRef}
use Rattle.jresolution.specs.declared.juses.descriptors.DescUse.{DescUse}
use Rattle.jresolution.specs.declared.juses.entries.Kept.{Kept}
use Rattle.jresolution.specs.declared.juses.entries.Kept.TheVariants as kept
use Rattle.jresolution.specs.declared.juses.uses.Uses.{Uses}
use Rattle.jresolution.specs.juses.InternedTypes.{class_named, named}
use Rattle.jresolution.specs.juses.DescriptorTypes.{Typed, class_type, name, there, typed}
use Rattle.jresolution.specs.juses.InstructionMeanings.{AClass, AField, AMethod, array_meant, call_as, call_meant, class_at, entry_meant, field_as, field_entry, field_meant, index_of, meant, method_entry, reference, used}
use Rattle.jresolution.specs.ProofNames.{array_made, as_class, class_meant}
use Rattle.jresolution.specs.juses.PoolTables.{AreKept, ArePartsKept, Grows, KeptWithin, KeptIs, desc_named, entries_at, entries_in, kept_in, kept_named, member_of, pool_at, pool_in}
use Rattle.jresolution.specs.juses.EntryUses.{AreUses}
use Rattle.jresolution.proofs.JusesProofs.NameLookup.{find_none, no_field, no_method}
use Rattle.jresolution.proofs.JusesProofs.Spans.{Both, pairs_at, pairs_end, pairs_map, pairs_step, spanned_more, within_more}

-- ---- what is looked up

pub looked_up_at : (f : List ℕ → List ℕ → List ℕ → Option Member) (m : Option Member) (a b c x y z : List ℕ) → a ≡ x → b ≡ y → c ≡ z → m ≡ f a b c → m ≡ f x y z
looked_up_at f m a b c x y z ax by cz is = is ∙ ap (λ (t : List ℕ). f t b c) ax ∙ ap (λ (t : List ℕ). f x t c) by ∙ ap (f x y) cz

-- ---- the class by which a member is named

name_is : (text : List ℕ) (b : Bool) (n : Name) → Some n ≡ (if b then Some (name text) else None) → n ≡ name text
name_is text true n e = cc
name_is text false n e = absurd cc

there_name : (p : Program) (text : List ℕ) (n : Name) → Some n ≡ there p text → n ≡ name text
there_name p text n e = name_is text (is_some (find p text)) n e

-- ---- fields

pub field_no_pair : (p : Program) (pool : List Entry) (types : List TypeRef) (class both : ℕ) (k : Kept) → k ≡ kept.Nothing → None ≡ name_and_type_at pool both → KeptIs p pool types k (Some (entries.Field class both))
unfolding entry_meant
field_no_pair p pool types class both k is e = subst (λ (k : Kept). KeptIs p pool types k (Some (entries.Field class both))) (sym is) (record {
  member = ap (option_and_then (looked_up pool class (resolve_field p))) e;
  means = ap (option_and_then (λ b. field_entry p (reference pool class b))) e;
  within = tt;
})

pub field_no_class : (p : Program) (pool : List Entry) (types : List TypeRef) (class both : ℕ) (b : ℕ × ℕ) (k : Kept) → k ≡ kept.Nothing → Some b ≡ name_and_type_at pool both → None ≡ there p (class_text pool class) → KeptIs p pool types k (Some (entries.Field class both))
unfolding entry_meant field_meant
field_no_class p pool types class both b k is e none =
    let no : resolve_field p (class_text pool class) (text pool b.0) (text pool b.1) ≡ None = no_field p (class_text pool class) (text pool b.0) (text pool b.1) (find_none p (class_text pool class) (sym none)) in
    subst (λ (k : Kept). KeptIs p pool types k (Some (entries.Field class both))) (sym is) (record {
      member = sym no ∙ ap (option_and_then (looked_up pool class (resolve_field p))) e;
      means = ap (λ (m : Option Member). option_map AField (field_as (name (class_text pool class)) m (typed p (text pool b.1)))) (sym no) ∙ ap (option_and_then (λ b. field_entry p (reference pool class b))) e;
      within = tt;
    })

pub field_found : (p : Program) (pool : List Entry) (types : List TypeRef) (class both : ℕ) (b : ℕ × ℕ) (owner : ClassRef) (member : Option Member) (d : DescUse) (k : Kept)
    → Some b ≡ name_and_type_at pool both → Some (class_named p owner) ≡ there p (class_text pool class)
    → member ≡ resolve_field p (class_text pool class) (text pool b.0) (text pool b.1) → desc_named p types d ≡ typed p (text pool b.1)
    → kept_named p pool types k ≡ option_map AField (field_as (class_named p owner) member (desc_named p types d)) → member_of k ≡ member → KeptWithin (length types) k
    → KeptIs p pool types k (Some (entries.Field class both))
unfolding entry_meant field_meant
field_found p pool types class both b owner member d k e own is says means whose within = record {
  member = whose ∙ is ∙ ap (option_and_then (looked_up pool class (resolve_field p))) e;
  means = means
      ∙ ap (λ (n : Name). option_map AField (field_as n member (desc_named p types d))) (there_name p (class_text pool class) (class_named p owner) own)
      ∙ ap (λ (m : Option Member). option_map AField (field_as (name (class_text pool class)) m (desc_named p types d))) is
      ∙ ap (λ (t : Typed). option_map AField (field_as (name (class_text pool class)) (resolve_field p (class_text pool class) (text pool b.0) (text pool b.1)) t)) says
      ∙ ap (option_and_then (λ b. field_entry p (reference pool class b))) e;
  within = within;
}

-- ---- methods

pub method_no_pair : (p : Program) (pool : List Entry) (types : List TypeRef) (class both : ℕ) (k : Kept) → k ≡ kept.Nothing → None ≡ name_and_type_at pool both → KeptIs p pool types k (Some (entries.Method class both))
unfolding entry_meant
method_no_pair p pool types class both k is e = subst (λ (k : Kept). KeptIs p pool types k (Some (entries.Method class both))) (sym is) (record {
  member = ap (option_and_then (looked_up pool class (resolve_method p))) e;
  means = ap (option_and_then (λ b. method_entry p (reference pool class b))) e;
  within = tt;
})

pub method_no_class : (p : Program) (pool : List Entry) (types : List TypeRef) (class both : ℕ) (b : ℕ × ℕ) (k : Kept) → k ≡ kept.Nothing → Some b ≡ name_and_type_at pool both → None ≡ there p (class_text pool class) → KeptIs p pool types k (Some (entries.Method class both))
unfolding entry_meant call_meant
method_no_class p pool types class both b k is e none =
    let no : resolve_method p (class_text pool class) (text pool b.0) (text pool b.1) ≡ None = no_method p (class_text pool class) (text pool b.0) (text pool b.1) (find_none p (class_text pool class) (sym none)) in
    subst (λ (k : Kept). KeptIs p pool types k (Some (entries.Method class both))) (sym is) (record {
      member = sym no ∙ ap (option_and_then (looked_up pool class (resolve_method p))) e;
      means = ap (λ (m : Option Member). option_map (AMethod (bytes_eq (text pool b.0) init)) (call_as (name (class_text pool class)) m (typed p (text pool b.1)))) (sym no) ∙ ap (option_and_then (λ b. method_entry p (reference pool class b))) e;
      within = tt;
    })

pub method_found : (p : Program) (pool : List Entry) (types : List TypeRef) (class both : ℕ) (b : ℕ × ℕ) (owner : ClassRef) (member : Option Member) (d : DescUse) (is_init : Bool) (k : Kept)
    → Some b ≡ name_and_type_at pool both → Some (class_named p owner) ≡ there p (class_text pool class)
    → member ≡ resolve_method p (class_text pool class) (text pool b.0) (text pool b.1) → desc_named p types d ≡ typed p (text pool b.1) → is_init ≡ bytes_eq (text pool b.0) init
    → kept_named p pool types k ≡ option_map (AMethod is_init) (call_as (class_named p owner) member (desc_named p types d)) → member_of k ≡ member → KeptWithin (length types) k
    → KeptIs p pool types k (Some (entries.Method class both))
unfolding entry_meant call_meant
method_found p pool types class both b owner member d is_init k e own is says so means whose within = record {
  member = whose ∙ is ∙ ap (option_and_then (looked_up pool class (resolve_method p))) e;
  means = means
      ∙ ap (λ (i : Bool). option_map (AMethod i) (call_as (class_named p owner) member (desc_named p types d))) so
      ∙ ap (λ (n : Name). option_map (AMethod (bytes_eq (text pool b.0) init)) (call_as n member (desc_named p types d))) (there_name p (class_text pool class) (class_named p owner) own)
      ∙ ap (λ (m : Option Member). option_map (AMethod (bytes_eq (text pool b.0) init)) (call_as (name (class_text pool class)) m (desc_named p types d))) is
      ∙ ap (λ (t : Typed). option_map (AMethod (bytes_eq (text pool b.0) init)) (call_as (name (class_text pool class)) (resolve_method p (class_text pool class) (text pool b.0) (text pool b.1)) t)) says
      ∙ ap (option_and_then (λ b. method_entry p (reference pool class b))) e;
  within = within;
}

pub interface_is : (p : Program) (pool : List Entry) (types : List TypeRef) (class both : ℕ) (k : Kept) → KeptIs p pool types k (Some (entries.Method class both)) → KeptIs p pool types k (Some (entries.InterfaceMethod class both))
unfolding entry_meant
interface_is p pool types class both k h = record { member = h.member; means = h.means; within = h.within }

-- ---- classes

pub class_no_text : (p : Program) (pool : List Entry) (types : List TypeRef) (i : ℕ) (k : Kept) → k ≡ kept.Nothing → None ≡ utf8_at pool i → KeptIs p pool types k (Some (entries.Class i))
unfolding entry_meant
class_no_text p pool types i k is e = subst (λ (k : Kept). KeptIs p pool types k (Some (entries.Class i))) (sym is) (record {
  member = refl;
  means = ap (class_meant p) e;
  within = tt;
})

pub class_no_type : (p : Program) (pool : List Entry) (types : List TypeRef) (i : ℕ) (t : List ℕ) (k : Kept) → k ≡ kept.Nothing → Some t ≡ utf8_at pool i → option_map (named p) None ≡ class_type p t → KeptIs p pool types k (Some (entries.Class i))
unfolding entry_meant
class_no_type p pool types i t k is e none = subst (λ (k : Kept). KeptIs p pool types k (Some (entries.Class i))) (sym is) (record {
  member = refl;
  means = ap (option_map AClass) none ∙ ap (class_meant p) e;
  within = tt;
})

pub class_found : (p : Program) (pool : List Entry) (types : List TypeRef) (i : ℕ) (t : List ℕ) (c : TypeRef) (k : Kept) → k ≡ kept.Class c → Some t ≡ utf8_at pool i → option_map (named p) (Some c) ≡ class_type p t → KeptIs p pool types k (Some (entries.Class i))
unfolding entry_meant
class_found p pool types i t c k is e h = subst (λ (k : Kept). KeptIs p pool types k (Some (entries.Class i))) (sym is) (record {
  member = refl;
  means = ap (option_map AClass) h ∙ ap (class_meant p) e;
  within = tt;
})

-- ---- all of a pool

pub entries_begin : (p : Program) (pool : List Entry) (types : List TypeRef) → AreKept p pool types (take 0 pool) []
entries_begin p pool types = record { each = tt }

pub entries_step : (p : Program) (pool : List Entry) (types : List TypeRef) (i : ℕ) (e : Entry) (all : List Kept) (k : Kept) → i < length pool → e ≡ get_or pool i e → AreKept p pool types (take i pool) all → KeptIs p pool types k (Some e) → AreKept p pool types (take (i + 1) pool) (all ++ k ∷ [])
entries_step p pool types i e all k lt is so_far one = record { each = pairs_step (λ (e : Entry) (k : Kept). KeptIs p pool types k (Some e)) pool i e all k lt is so_far.each one }

pub entries_end : (p : Program) (pool : List Entry) (types : List TypeRef) (i : ℕ) (all : List Kept) → length pool ≤ i → AreKept p pool types (take i pool) all → AreKept p pool types pool all
entries_end p pool types i all le h = record { each = pairs_end (λ (e : Entry) (k : Kept). KeptIs p pool types k (Some e)) pool i all le h.each }

-- ---- all parts

kept_more : (p : Program) (pool : List Entry) (types more : List TypeRef) (k : Kept) → KeptWithin (length types) k → kept_named p pool (types ++ more) k ≡ kept_named p pool types k
kept_more p pool types more kept.Nothing h = refl
kept_more p pool types more (kept.Member m) h = refl
kept_more p pool types more (kept.Constant c) h = refl
kept_more p pool types more (kept.Class t) h = refl
kept_more p pool types more (kept.Field f) h = refl
kept_more p pool types more (kept.Method is_init c) h =
    ap (λ (l : List TypeRef). Some (AMethod is_init (record { owner = class_named p c.owner; params = map (named p) l; ret = option_map (named p) c.ret; member = c.member }))) (spanned_more types more c.params h)

kept_within_more : (types more : List TypeRef) (k : Kept) → KeptWithin (length types) k → KeptWithin (length (types ++ more)) k
kept_within_more types more kept.Nothing h = tt
kept_within_more types more (kept.Member m) h = tt
kept_within_more types more (kept.Constant c) h = tt
kept_within_more types more (kept.Class t) h = tt
kept_within_more types more (kept.Field f) h = tt
kept_within_more types more (kept.Method is_init c) h = within_more types more c.params h

entry_more : (p : Program) (pool : List Entry) (types more : List TypeRef) (k : Kept) (e : Option Entry) → KeptIs p pool types k e → KeptIs p pool (types ++ more) k e
entry_more p pool types more k e h = record { member = h.member; means = kept_more p pool types more k h.within ∙ h.means; within = kept_within_more types more k h.within }

entries_grow : (p : Program) (pool : List Entry) (old new : List TypeRef) → Grows old new → (entries : List Entry) (all : List Kept) → AreKept p pool old entries all → AreKept p pool new entries all
entries_grow p pool old new g entries all h = record {
  each = pairs_map (λ (e : Entry) (k : Kept). KeptIs p pool old k (Some e)) (λ (e : Entry) (k : Kept). KeptIs p pool new k (Some e))
      (λ e k one. subst (λ (l : List TypeRef). KeptIs p pool l k (Some e)) (sym g.1) (entry_more p pool old g.0 k (Some e) one)) entries all h.each;
}

pub parts_begin : (p : Program) (types : List TypeRef) → ArePartsKept p types (take 0 p.parts) []
parts_begin p types = record { each = tt }

pub parts_step : (p : Program) (old new : List TypeRef) (i : ℕ) (part : CodePart) (tables : List (List Kept)) (ks : List Kept) → i < length p.parts → part ≡ get_or p.parts i part → ArePartsKept p old (take i p.parts) tables → AreKept p part.class.pool new part.class.pool ks → Grows old new → ArePartsKept p new (take (i + 1) p.parts) (tables ++ ks ∷ [])
parts_step p old new i part tables ks lt is so_far one g = record {
  each = pairs_step (λ (part : CodePart) (ks : List Kept). AreKept p part.class.pool new part.class.pool ks) p.parts i part tables ks lt is
      (pairs_map (λ (part : CodePart) (ks : List Kept). AreKept p part.class.pool old part.class.pool ks) (λ (part : CodePart) (ks : List Kept). AreKept p part.class.pool new part.class.pool ks)
      (λ part ks h. entries_grow p part.class.pool old new g part.class.pool ks h) (take i p.parts) tables so_far.each)
      one;
}

pub parts_end : (p : Program) (types : List TypeRef) (i : ℕ) (tables : List (List Kept)) → length p.parts ≤ i → ArePartsKept p types (take i p.parts) tables → ArePartsKept p types p.parts tables
parts_end p types i tables le h = record { each = pairs_end (λ (part : CodePart) (ks : List Kept). AreKept p part.class.pool types part.class.pool ks) p.parts i tables le h.each }

-- ---- look-ups

entry_either : (p : Program) (pool : List Entry) (types : List TypeRef) (o : Option Entry) (q : Option Kept) → Both (λ e k. KeptIs p pool types k (Some e)) o q → KeptIs p pool types (kept_in q) o
unfolding entry_meant
entry_either p pool types None None h = record { member = refl; means = refl; within = tt }
entry_either p pool types None (Some k) h = absurd h
entry_either p pool types (Some e) None h = absurd h
entry_either p pool types (Some e) (Some k) h = h

part_either : (p : Program) (types : List TypeRef) (o : Option CodePart) (q : Option (List Kept)) → Both (λ part ks. AreKept p part.class.pool types part.class.pool ks) o q → AreKept p (pool_in o) types (pool_in o) (entries_in q)
part_either p types None None h = record { each = tt }
part_either p types None (Some ks) h = absurd h
part_either p types (Some part) None h = absurd h
part_either p types (Some part) (Some ks) h = h

-- what is kept at an index of a part's pool
pub entry_is : (p : Program) (u : Uses) (class i : ℕ) → AreUses p u → KeptIs p (pool_at p class) u.types (kept_in (slice_get (entries_at u.parts class) i)) (slice_get (pool_at p class) i)
entry_is p u class i h =
    let part : AreKept p (pool_at p class) u.types (pool_at p class) (entries_at u.parts class)
    = part_either p u.types (slice_get p.parts class) (slice_get u.parts class) (pairs_at (λ (part : CodePart) (ks : List Kept). AreKept p part.class.pool u.types part.class.pool ks) p.parts u.parts class h.each) in
    entry_either p (pool_at p class) u.types (slice_get (pool_at p class) i) (slice_get (entries_at u.parts class) i)
    (pairs_at (λ (e : Entry) (k : Kept). KeptIs p (pool_at p class) u.types k (Some e)) (pool_at p class) (entries_at u.parts class) i part.each)

pub resolved_in : (p : Program) (i : ℕ) (o : Option CodePart) → referred p (pool_in o) (slice_get (pool_in o) i) ≡ option_and_then (λ part. referred p part.class.pool (slice_get part.class.pool i)) o
resolved_in p i None = refl
resolved_in p i (Some part) = refl

pub member_is : (p : Program) (u : Uses) (class i : ℕ) (k : Kept) → k ≡ kept_in (slice_get (entries_at u.parts class) i) → AreUses p u → member_of k ≡ resolved p class i
unfolding resolved
member_is p u class i k is h = ap member_of is ∙ (entry_is p u class i h).member ∙ resolved_in p i (slice_get p.parts class)

pub means_is : (p : Program) (u : Uses) (class i : ℕ) (k : Kept) → k ≡ kept_in (slice_get (entries_at u.parts class) i) → AreUses p u → kept_named p (pool_at p class) u.types k ≡ entry_meant p (pool_at p class) (slice_get (pool_at p class) i)
means_is p u class i k is h = ap (λ (k : Kept). kept_named p (pool_at p class) u.types k) is ∙ (entry_is p u class i h).means

pub use_is : (p : Program) (u : Uses) (class i : ℕ) (form : PoolForm) (k : Kept) → i ≡ index_of form → k ≡ kept_in (slice_get (entries_at u.parts class) i) → AreUses p u → option_and_then (used form) (kept_named p (pool_at p class) u.types k) ≡ meant p (pool_at p class) form
unfolding meant
use_is p u class i form k at is h = ap (option_and_then (used form)) (means_is p u class i k is h ∙ ap (λ (n : ℕ). entry_meant p (pool_at p class) (slice_get (pool_at p class) n)) at)

pub array_is : (p : Program) (u : Uses) (class i : ℕ) (k : Kept) → k ≡ kept_in (slice_get (entries_at u.parts class) i) → AreUses p u → option_and_then array_made (kept_named p (pool_at p class) u.types k) ≡ array_meant p (pool_at p class) i
unfolding array_meant
array_is p u class i k is h = ap (option_and_then array_made) (means_is p u class i k is h)

pub class_is : (p : Program) (u : Uses) (class i : ℕ) (k : Kept) → k ≡ kept_in (slice_get (entries_at u.parts class) i) → AreUses p u → option_and_then as_class (kept_named p (pool_at p class) u.types k) ≡ class_at p (pool_at p class) i
unfolding class_at
class_is p u class i k is h = ap (option_and_then as_class) (means_is p u class i k is h)
