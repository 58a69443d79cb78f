-- What is found along the chains of the keys of an asked permission is what the whole list says of it.
use Rattle.std.proofs.Common.{◌≡◌, ℕ, zero, suc, ◌<◌, ◌==◌, Bool, true, false, ◌&&◌, ◌||◌, if◌then◌else◌, List, [], ◌∷◌, length, get_or, fold, Option, Some, None, refl, sym, ap, ap₂, subst, ◌∙◌, arith, inl, inr, ◌⊎◌, eqb-true}
use Rattle.std.specs.Prelude.{slice_get}
use Rattle.std.specs.List.{Contains, list_any}
use Rattle.std.proofs.lemmas.Bool.{cases_Bool}
use Rattle.std.proofs.lemmas.List.Folds.{Any-from_list_any, list_any-from_Any}
use Rattle.jperm.specs.declared.chains.Chains.{Chains}
use Rattle.jperm.specs.declared.permission.Permission.{Permission}
use Rattle.jperm.specs.declared.permission.Permission.TheVariants.{All, Basic, Property, File, Unresolved}
use Rattle.jperm.specs.declared.permission.BasicClass.{BasicClass}
use Rattle.jperm.specs.Actions.{has_all}
use Rattle.jperm.specs.PermissionChains.{AreChains, enough, has_place, looked, noted, noted_at, noted_if, places, suffices}
use Rattle.jperm.specs.PermissionKeys.{class_kind, key_of, keys_of, named_key, named_keys}
use Rattle.jperm.specs.NameCoverage.{name_covers}
use Rattle.jperm.specs.Permissions.{covers, gives, implies, one_implies, same_class, stands_alone, together, united}
use Rattle.jperm.proofs.Bits.{has_all-both, has_all-itself, has_all-left, has_all-none, has_all-right, has_all-trans}
use Rattle.jperm.proofs.Cover.{either, fold_has, fold_within, or_left, or_right}
use Rattle.jperm.proofs.NameKeys.{name_found}
use Rattle.jperm.proofs.PermissionEquality.{and_left, and_right, same_class-true}

-- what was found is found still
abbrev Keeps : Bool × ℕ → Bool × ℕ → Type 0
Keeps old new = (old.0 ≡ true → new.0 ≡ true) × (has_all new.1 old.1 ≡ true)

-- an entry has been taken in
abbrev Counts : Permission → Permission → Bool × ℕ → Type 0
Counts asked m found = ((stands_alone m && implies m asked) ≡ true → found.0 ≡ true) × (has_all found.1 (gives m asked) ≡ true)

-- nothing was found that the list doesn't say
abbrev IsOf : List Permission → Permission → Bool × ℕ → Type 0
IsOf list asked found = (found.0 ≡ true → one_implies list asked ≡ true) × (has_all (united list asked) found.1 ≡ true)

false_true : {Q : Type 0} → false ≡ true → Q
false_true e = absurd cc

-- ---- along a list of numbers

keeps_on : (a b c : Bool × ℕ) → Keeps a b → Keeps b c → Keeps a c
keeps_on a b c h k = ((λ e. k.0 (h.0 e)), has_all-trans c.1 b.1 a.1 k.1 h.1)

counts_on : (asked m : Permission) (a b : Bool × ℕ) → Counts asked m a → Keeps a b → Counts asked m b
counts_on asked m a b h k = ((λ e. k.0 (h.0 e)), has_all-trans b.1 a.1 (gives m asked) k.1 h.1)

all_keep : (f : Bool × ℕ → ℕ → Bool × ℕ) → ((g : Bool × ℕ) (p : ℕ) → Keeps g (f g p)) → (g : Bool × ℕ) (ps : List ℕ) → Keeps g (fold f g ps)
all_keep f each g [] = ((λ e. e), has_all-itself g.1)
all_keep f each g (p ∷ ps) = keeps_on g (f g p) (fold f (f g p) ps) (each g p) (all_keep f each (f g p) ps)

all_of : (list : List Permission) (asked : Permission) (f : Bool × ℕ → ℕ → Bool × ℕ) → ((g : Bool × ℕ) (p : ℕ) → IsOf list asked g → IsOf list asked (f g p))
    → (g : Bool × ℕ) (ps : List ℕ) → IsOf list asked g → IsOf list asked (fold f g ps)
all_of list asked f each g [] of = of
all_of list asked f each g (p ∷ ps) of = all_of list asked f each (f g p) ps (each g p of)

one_counts : (asked m : Permission) (f : Bool × ℕ → ℕ → Bool × ℕ) → ((g : Bool × ℕ) (p : ℕ) → Keeps g (f g p)) → (p : ℕ) → ((g : Bool × ℕ) → Counts asked m (f g p))
    → (g : Bool × ℕ) (ps : List ℕ) → has_place ps p ≡ true → Counts asked m (fold f g ps)
one_counts asked m f each p counts g [] h = false_true h
one_counts asked m f each p counts g (q ∷ ps) h =
    either (q == p) (has_place ps p) h
    (λ e.
    let here : Counts asked m (f g q) = subst (λ (t : ℕ). Counts asked m (f g t)) (sym (eqb-true q p e)) (counts g) in
    counts_on asked m (f g q) (fold f (f g q) ps) here (all_keep f each (f g q) ps))
    (λ e. one_counts asked m f each p counts (f g q) ps e)

-- ---- one entry

noted_keeps : (asked m : Permission) (g : Bool × ℕ) → Keeps g (noted asked g m)
noted_keeps asked m g = ((λ e. or_left g.0 (stands_alone m && implies m asked) e), has_all-left g.1 (gives m asked))

noted_counts : (asked m : Permission) (g : Bool × ℕ) → Counts asked m (noted asked g m)
noted_counts asked m g = ((λ e. or_right g.0 (stands_alone m && implies m asked) e), has_all-right g.1 (gives m asked))

noted_of : (list : List Permission) (asked m : Permission) (g : Bool × ℕ) → Contains list m → IsOf list asked g → IsOf list asked (noted asked g m)
noted_of list asked m g c of = (
  (λ h. either g.0 (stands_alone m && implies m asked) h of.0
      (λ e. list_any-from_Any (λ member. stands_alone member && implies member asked) list (c.0, m, c.1, c.2, e))),
  has_all-both (united list asked) g.1 (gives m asked) of.1 (fold_has asked 0 list m c.0 c.1 c.2),
)

member_at : (list : List Permission) (p : ℕ) (m : Permission) → slice_get list p ≡ Some m → (p < length list) × (get_or list p m ≡ m)
member_at [] p m h = absurd cc
member_at (x ∷ list) zero m h = (omega arith, cc)
member_at (x ∷ list) (suc p) m h = let there = member_at list p m h in (omega (arith, there.0), there.1)

at_member : (list : List Permission) (p : ℕ) (m : Permission) → p < length list → get_or list p m ≡ m → slice_get list p ≡ Some m
at_member [] p m lt is = absurd (omega (arith, lt))
at_member (x ∷ list) zero m lt is = ap (λ (t : Permission). Some t) is
at_member (x ∷ list) (suc p) m lt is = at_member list p m (omega (arith, lt)) is

-- ---- the entry at a place

if_keeps : (asked : Permission) (g : Bool × ℕ) (o : Option Permission) → Keeps g (noted_if asked g o)
if_keeps asked g None = ((λ e. e), has_all-itself g.1)
if_keeps asked g (Some m) = noted_keeps asked m g

if_of : (list : List Permission) (asked : Permission) (g : Bool × ℕ) (p : ℕ) (o : Option Permission) → slice_get list p ≡ o → IsOf list asked g → IsOf list asked (noted_if asked g o)
if_of list asked g p None at of = of
if_of list asked g p (Some m) at of = let c = member_at list p m at in noted_of list asked m g (p, c.0, c.1) of

at_keeps : (asked : Permission) (list : List Permission) (g : Bool × ℕ) (p : ℕ) → Keeps g (noted_at asked list g p)
at_keeps asked list g p = if_keeps asked g (slice_get list p)

at_counts : (asked : Permission) (list : List Permission) (m : Permission) (p : ℕ) → slice_get list p ≡ Some m → (g : Bool × ℕ) → Counts asked m (noted_at asked list g p)
at_counts asked list m p at g = subst (λ (o : Option Permission). Counts asked m (noted_if asked g o)) (sym at) (noted_counts asked m g)

-- ---- the chain of a key

looked_keeps : (list : List Permission) (chains : Chains) (asked : Permission) (g : Bool × ℕ) (key : ℕ) → Keeps g (looked list chains asked g key)
looked_keeps list chains asked g key = all_keep (noted_at asked list) (at_keeps asked list) g (places chains.heads chains.older key)

looked_of : (list : List Permission) (chains : Chains) (asked : Permission) (g : Bool × ℕ) (key : ℕ) → IsOf list asked g → IsOf list asked (looked list chains asked g key)
looked_of list chains asked g key of =
    all_of list asked (noted_at asked list) (λ f p h. if_of list asked f p (slice_get list p) refl h) g (places chains.heads chains.older key) of

looked_counts : (list : List Permission) (chains : Chains) (asked m : Permission) (p : ℕ) → AreChains list chains → slice_get list p ≡ Some m
    → (g : Bool × ℕ) → Counts asked m (looked list chains asked g (key_of m))
looked_counts list chains asked m p are at g =
    one_counts asked m (noted_at asked list) (at_keeps asked list) p (at_counts asked list m p at) g (places chains.heads chains.older (key_of m)) (are.1 p m at)

-- ---- all that can cover

-- an entry's key is among those that are looked at, or it says nothing of what is asked for
abbrev IsFound : Permission → Permission → Type 0
IsFound m asked = (has_place (keys_of asked) (key_of m) ≡ true) ⊎ (((stands_alone m && implies m asked) ≡ false) × (gives m asked ≡ 0))

not_given : (b : Bool) (actions : ℕ) → b ≡ false → (if b then actions else 0) ≡ 0
not_given true actions e = absurd cc
not_given false actions e = refl

basic_found : (class other : BasicClass) (name wanted : List ℕ) → IsFound (Basic class name) (Basic other wanted)
basic_found class other name wanted = elim (cases_Bool (same_class class other && name_covers name wanted)) [
  | inl y ↦
      let same : class ≡ other = same_class-true class other (and_left (same_class class other) (name_covers name wanted) y) in
      let there : has_place (named_keys (class_kind class) wanted) (named_key (class_kind class) name) ≡ true =
      name_found (class_kind class) name wanted (and_right (same_class class other) (name_covers name wanted) y) in
      inl (or_right (0 == named_key (class_kind class) name) (has_place (named_keys (class_kind other) wanted) (named_key (class_kind class) name))
      (subst (λ (t : BasicClass). has_place (named_keys (class_kind t) wanted) (named_key (class_kind class) name) ≡ true) same there))
  | inr n ↦ inr (n, refl)
]

property_found : (name wanted : List ℕ) (actions all : ℕ) → IsFound (Property name actions) (Property wanted all)
property_found name wanted actions all = elim (cases_Bool (name_covers name wanted)) [
  | inl y ↦ inl (or_right (0 == named_key 3 name) (has_place (named_keys 3 wanted) (named_key 3 name)) (name_found 3 name wanted y))
  | inr n ↦ inr (refl, not_given (name_covers name wanted) actions n)
]

each_found : (m asked : Permission) → IsFound m asked
each_found All asked = inl refl
each_found (Basic class name) (Basic other wanted) = basic_found class other name wanted
each_found (Property name actions) (Property wanted all) = property_found name wanted actions all
each_found (File path name actions) (File wanted other all) = inl refl
each_found m asked = inr (refl, refl)

entry_counts : (list : List Permission) (chains : Chains) (asked m : Permission) → AreChains list chains → Contains list m
    → Counts asked m (fold (looked list chains asked) (false, 0) (keys_of asked))
entry_counts list chains asked m are c = elim (each_found m asked) [
  | inl key ↦
      one_counts asked m (looked list chains asked) (looked_keeps list chains asked) (key_of m)
      (looked_counts list chains asked m c.0 are (at_member list c.0 m c.1 c.2)) (false, 0) (keys_of asked) key
  | inr nothing ↦ (
    (λ e. false_true (sym nothing.0 ∙ e)),
    subst (λ (n : ℕ). has_all (fold (looked list chains asked) (false, 0) (keys_of asked)).1 n ≡ true) (sym nothing.1) (has_all-none (fold (looked list chains asked) (false, 0) (keys_of asked)).1),
  )
]

-- ---- the answer

same_truth : (a b : Bool) → (a ≡ true → b ≡ true) → (b ≡ true → a ≡ true) → a ≡ b
same_truth true true f g = refl
same_truth false false f g = refl
same_truth true false f g = false_true (f refl)
same_truth false true f g = false_true (g refl)

alone_same : (list : List Permission) (asked : Permission) (found : Bool × ℕ) → ((m : Permission) → Contains list m → Counts asked m found) → IsOf list asked found → found.0 ≡ one_implies list asked
alone_same list asked found each of = same_truth found.0 (one_implies list asked) of.0 (λ h.
    let any = Any-from_list_any (λ member. stands_alone member && implies member asked) list h in
    (each any.1 (any.0, any.2, any.3)).0 any.4)

actions_same : (list : List Permission) (asked : Permission) (found : Bool × ℕ) (wanted : ℕ) → ((m : Permission) → Contains list m → Counts asked m found) → IsOf list asked found
    → has_all found.1 wanted ≡ has_all (united list asked) wanted
actions_same list asked found wanted each of = same_truth (has_all found.1 wanted) (has_all (united list asked) wanted)
    (λ h. has_all-trans (united list asked) found.1 wanted of.1 h)
    (λ h. has_all-trans found.1 (united list asked) wanted (fold_within asked found.1 0 list (λ q c. (each q c).1) (has_all-none found.1)) h)

enough_same : (list : List Permission) (asked : Permission) (found : Bool × ℕ) → ((m : Permission) → Contains list m → Counts asked m found) → IsOf list asked found
    → enough found.1 asked ≡ together list asked
enough_same list (Property wanted all) found each of = actions_same list (Property wanted all) found all each of
enough_same list (File wanted name all) found each of = actions_same list (File wanted name all) found all each of
enough_same list All found each of = refl
enough_same list (Basic class name) found each of = refl
enough_same list (Unresolved class) found each of = refl

pub answered : (list : List Permission) (chains : Chains) (asked : Permission) → AreChains list chains
    → suffices (fold (looked list chains asked) (false, 0) (keys_of asked)) asked ≡ covers list asked
answered list chains asked are =
    let found : Bool × ℕ = fold (looked list chains asked) (false, 0) (keys_of asked) in
    let each : (m : Permission) → Contains list m → Counts asked m found = λ m c. entry_counts list chains asked m are c in
    let of : IsOf list asked found = all_of list asked (looked list chains asked) (λ g key h. looked_of list chains asked g key h) (false, 0) (keys_of asked) ((λ e. false_true e), has_all-none (united list asked)) in
    ap₂ (λ (a b : Bool). a || b) (alone_same list asked found each of) (enough_same list asked found each of)
