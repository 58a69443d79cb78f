-- What is noted stays right.
use Rattle.std.proofs.Common.{◌≡◌, ℕ, Bool, true, cond, List, Option, Some, None, sym, ap, subst, ◌∙◌, inl, inr, arith}
use Rattle.std.specs.Prelude.{option_and_then, slice_get}
use Rattle.std.specs.Ordering.{is_eq, nat_cmp}
use Rattle.std.specs.BTreeMap as tree
use Rattle.std.specs.BTreeMap.{BTreeMap}
use Rattle.std.specs.Map.{lookup}
use Rattle.std.proofs.lemmas.Bool.{cases_Bool}
use Rattle.std.proofs.lemmas.Bool.Decides.{nat_tests}
use Rattle.jparts.specs.declared.jpool.entry.Entry.{Entry}
use Rattle.jparts.specs.jpool.ConstantPools.{class_name_at, name_and_type_at, utf8_at}
use Rattle.jresolution.specs.declared.jprogram.member.Member.{Member}
use Rattle.jresolution.specs.jprogram.ProgramClasses.{Program}
use Rattle.jresolution.specs.jprogram.MemberResolution.{looked_up, referred, resolve_field, resolve_method}
use Rattle.jresolution.specs.jprogram.ClassFileParts.{class_text, or_empty, text}
use Rattle.jresolution.specs.declared.juses.entries.Kept.{Kept}
use Rattle.jresolution.specs.declared.juses.indices.Indices.{Indices}
use Rattle.jresolution.specs.declared.juses.kept_reference.Refers.{Refers}
use Rattle.jresolution.specs.declared.juses.kept_reference.Refers.TheVariants as refers
use Rattle.jresolution.specs.declared.juses.types.TypeRef.{TypeRef}
use Rattle.jresolution.specs.juses.EntryTextCache.{AllAre, HasTexts, entry_of}
use Rattle.jresolution.specs.juses.InstructionMeanings.{entry_meant, field_entry, method_entry, reference}
use Rattle.jresolution.specs.juses.PoolTables.{KeptIs}
use Rattle.jparts.specs.jpool.PoolEntries.{class_parts}

same_number : (a b : ℕ) → is_eq (nat_cmp a b) ≡ true → a ≡ b
same_number a b e = grind (arith, nat_tests)

-- nothing is noted
pub all_none : {X : Type 0} (right : ℕ → X → Type 0) (noted : BTreeMap ℕ X) → tree.IsEmpty noted → AllAre right noted
all_none {X} right noted e i x at =
    let none : tree.get nat_cmp noted i ≡ None = ap (lookup (tree.is_at (nat_cmp i))) e in
    absurd cc

-- one more is noted
pub all_more : {X : Type 0} (right : ℕ → X → Type 0) (i : ℕ) (x : X) (old new : BTreeMap ℕ X) → AllAre right old → right i x → tree.UpdatesBy nat_cmp (nat_cmp i) old new (Some x) → AllAre right new
all_more {X} right i x old new all one h j y at = elim (cases_Bool (is_eq (nat_cmp i j))) [
  | inl here ↦
      let same : i ≡ j = same_number i j here in
      let now : tree.get nat_cmp new j ≡ Some x = h.0 j ∙ ap (λ (b : Bool). cond b (Some x) (tree.get nat_cmp old j)) here in
      let is : x ≡ y = cc in
      subst (λ (k : ℕ). right k y) same (subst (λ (z : X). right i z) is one)
  | inr apart ↦
      let now : tree.get nat_cmp new j ≡ tree.get nat_cmp old j = h.0 j ∙ ap (λ (b : Bool). cond b (Some x) (tree.get nat_cmp old j)) apart in
      all j y (sym now ∙ at)
]

-- ---- references of the same texts

-- the class at an index is called by the text that it names
pub class_named : (pool : List Entry) (class owner : ℕ) → option_and_then class_parts (slice_get pool class) ≡ Some owner → class_text pool class ≡ text pool owner
unfolding class_name_at
class_named pool class owner is = ap (λ (o : Option ℕ). or_empty (option_and_then (utf8_at pool) o)) is

-- two of them stand for one member
members_same : (look : List ℕ → List ℕ → List ℕ → Option Member) (pool : List Entry) (c d a b : ℕ) → class_text pool c ≡ class_text pool d → name_and_type_at pool a ≡ name_and_type_at pool b
    → option_and_then (looked_up pool c look) (name_and_type_at pool a) ≡ option_and_then (looked_up pool d look) (name_and_type_at pool b)
members_same look pool c d a b classes boths =
    ap (option_and_then (looked_up pool c look)) boths
    ∙ ap (λ (owner : List ℕ). option_and_then (λ (x : ℕ × ℕ). look owner (text pool x.0) (text pool x.1)) (name_and_type_at pool b)) classes

meanings_same : (p : Program) (pool : List Entry) (to : Refers) (c d a b : ℕ) → class_text pool c ≡ class_text pool d → name_and_type_at pool a ≡ name_and_type_at pool b
    → entry_meant p pool (Some (entry_of to c a)) ≡ entry_meant p pool (Some (entry_of to d b))
unfolding entry_meant
meanings_same p pool refers.ToField c d a b classes boths =
    ap (option_and_then (λ b. field_entry p (reference pool c b))) boths
    ∙ ap (λ (owner : List ℕ). option_and_then (λ (x : ℕ × ℕ). field_entry p (record { owner = owner; name = text pool x.0; desc = text pool x.1 })) (name_and_type_at pool b)) classes
meanings_same p pool refers.ToMethod c d a b classes boths =
    ap (option_and_then (λ b. method_entry p (reference pool c b))) boths
    ∙ ap (λ (owner : List ℕ). option_and_then (λ (x : ℕ × ℕ). method_entry p (record { owner = owner; name = text pool x.0; desc = text pool x.1 })) (name_and_type_at pool b)) classes

referred_same : (p : Program) (pool : List Entry) (to : Refers) (c d a b : ℕ) → class_text pool c ≡ class_text pool d → name_and_type_at pool a ≡ name_and_type_at pool b
    → referred p pool (Some (entry_of to c a)) ≡ referred p pool (Some (entry_of to d b))
referred_same p pool refers.ToField c d a b classes boths = members_same (resolve_field p) pool c d a b classes boths
referred_same p pool refers.ToMethod c d a b classes boths = members_same (resolve_method p) pool c d a b classes boths

-- so what is kept of one of them is kept of all
pub noted_same : (p : Program) (pool : List Entry) (types : List TypeRef) (to : Refers) (c a : ℕ) (at : Indices) (k : Kept) → HasTexts pool c a at → KeptIs p pool types k (Some (entry_of to c a))
    → (d b : ℕ) → HasTexts pool d b at → KeptIs p pool types k (Some (entry_of to d b))
noted_same p pool types to c a at k one kept d b other =
    let classes : class_text pool c ≡ class_text pool d = class_named pool c at.owner one.named ∙ sym (class_named pool d at.owner other.named) in
    let boths : name_and_type_at pool a ≡ name_and_type_at pool b = one.says ∙ sym other.says in
    record {
      member = kept.member ∙ referred_same p pool to c d a b classes boths;
      means = kept.means ∙ meanings_same p pool to c d a b classes boths;
      within = kept.within;
    }
