-- The set of the members that were met.
use Rattle.std.proofs.Common.{◌≡◌, ℕ, ◌+◌, ◌<◌, ◌&&◌, ◌||◌, Bool, true, false, cond, List, [], ◌∷◌, ◌++◌, length, get_or, take, refl, sym, ap, ◌∙◌, arith, add-one}
use Rattle.std.specs.Prelude.{not}
use Rattle.std.specs.List.{list_any}
use Rattle.std.specs.Str.{bytes_eq}
use Rattle.std.specs.declared.cmp.Ordering.{Ordering}
use Rattle.std.specs.declared.cmp.Ordering.TheVariants.{Less, Equal, Greater}
use Rattle.std.specs.Ordering.{is_eq, nat_cmp, ordering_then}
use Rattle.std.specs.BTreeSet as sorted
use Rattle.std.specs.BTreeSet.{BTreeSet, Updates, contains}
use Rattle.std.proofs.lemmas.Bool.{eq-eqb, le-ltb}
use Rattle.std.proofs.lemmas.Map.Lookups.{exact_unsigned}
use Rattle.std.proofs.lemmas.List.Folds.{list_any-append}
use Rattle.std.proofs.lemmas.Slice.Eq.{bytes_eq-Decides}
use Rattle.std.proofs.Math.Seq.{take-suc}
use Rattle.jparts.specs.declared.jpool.entry.Entry.{Entry}
use Rattle.jclass.specs.declared.class.ClassParts.{ClassParts}
use Rattle.jclass.specs.declared.class.MemberInfo.{MemberInfo}
use Rattle.jresolution.specs.jprogram.ClassFileParts.{is_called, text}
use Rattle.jlinking.specs.jmembers.MemberDeclarations.{is_again}
use Rattle.jlinking.specs.jmembers.PoolTexts.{number_of}
use Rattle.jlinking.specs.jmembers.MemberSets.{HasMet, pair_cmp, pair_of}
use Rattle.jlinking.proofs.JmembersProofs.TextNumbers.{same_text}

same_both : (p q : Bool) → (p ≡ true → q ≡ true) → (q ≡ true → p ≡ true) → p ≡ q
same_both true true f g = refl
same_both true false f g = sym (f refl)
same_both false true f g = g refl
same_both false false f g = refl

equal_is : (o : Ordering) → is_eq o ≡ true → o ≡ Equal
equal_is Less e = absurd cc
equal_is Equal e = refl
equal_is Greater e = absurd cc

same_number : (n : ℕ) → is_eq (nat_cmp n n) ≡ true
same_number n = rw (le-ltb n n (omega arith), eq-eqb n n refl) refl

number_eq : (pool : List Entry) (i j : ℕ) → is_eq (nat_cmp (number_of pool (text pool i)) (number_of pool (text pool j))) ≡ bytes_eq (text pool i) (text pool j)
number_eq pool i j =
    same_both (is_eq (nat_cmp (number_of pool (text pool i)) (number_of pool (text pool j)))) (bytes_eq (text pool i) (text pool j))
    (λ e. (bytes_eq-Decides (text pool i) (text pool j)).1 (same_text pool i j (exact_unsigned (number_of pool (text pool i)) (number_of pool (text pool j)) (equal_is (nat_cmp (number_of pool (text pool i)) (number_of pool (text pool j))) e))))
    (λ e. ap (λ (t : List ℕ). is_eq (nat_cmp (number_of pool (text pool i)) (number_of pool t))) (sym ((bytes_eq-Decides (text pool i) (text pool j)).0 e)) ∙ same_number (number_of pool (text pool i)))

both_eq : (a b : Ordering) → is_eq (ordering_then a b) ≡ (is_eq a && is_eq b)
both_eq Less b = refl
both_eq Equal b = refl
both_eq Greater b = refl

-- a member's pair is that of a name and a descriptor where it is called so
pair_eq : (c : ClassParts) (m : MemberInfo) (name desc : ℕ) → is_eq (pair_cmp (pair_of c.pool m.name m.desc) (pair_of c.pool name desc)) ≡ is_called c (text c.pool name) (text c.pool desc) m
pair_eq c m name desc =
    both_eq (nat_cmp (number_of c.pool (text c.pool m.name)) (number_of c.pool (text c.pool name))) (nat_cmp (number_of c.pool (text c.pool m.desc)) (number_of c.pool (text c.pool desc)))
    ∙ rw (number_eq c.pool m.name name, number_eq c.pool m.desc desc) refl

or_new : (new had : Bool) → cond new true had ≡ (had || (new || false))
or_new true true = refl
or_new true false = refl
or_new false true = refl
or_new false false = refl

-- ---- one more

pub met_none : (c : ClassParts) (met : BTreeSet (ℕ × ℕ)) → sorted.IsEmpty met → HasMet c [] met
met_none c met e name desc = ap (list_any (λ k. is_eq (pair_cmp (pair_of c.pool name desc) k))) e

pair_is : (c : ClassParts) (m : MemberInfo) (n d : ℕ) → n ≡ number_of c.pool (text c.pool m.name) → d ≡ number_of c.pool (text c.pool m.desc) → (n, d) ≡ pair_of c.pool m.name m.desc
pair_is c m n d en ed = ap (λ (x : ℕ). (x, d)) en ∙ ap (λ (x : ℕ). (number_of c.pool (text c.pool m.name), x)) ed

twice : (b : Bool) → not (not b) ≡ b
twice true = refl
twice false = refl

pub met_again : (c : ClassParts) (before : List MemberInfo) (m : MemberInfo) (met : BTreeSet (ℕ × ℕ)) (n d : ℕ) (fresh : Bool) → HasMet c before met → n ≡ number_of c.pool (text c.pool m.name) → d ≡ number_of c.pool (text c.pool m.desc)
    → fresh ≡ not (contains pair_cmp met (n, d)) → is_again c before m ≡ not fresh
met_again c before m met n d fresh has en ed added =
    let found : contains pair_cmp met (n, d) ≡ is_again c before m = ap (contains pair_cmp met) (pair_is c m n d en ed) ∙ has m.name m.desc in
    sym (ap not added ∙ ap (λ (b : Bool). not (not b)) found ∙ twice (is_again c before m))

pub met_more : (c : ClassParts) (before : List MemberInfo) (m : MemberInfo) (old new : BTreeSet (ℕ × ℕ)) (n d : ℕ) → HasMet c before old → n ≡ number_of c.pool (text c.pool m.name) → d ≡ number_of c.pool (text c.pool m.desc)
    → Updates pair_cmp old new (n, d) true → HasMet c (before ++ m ∷ []) new
met_more c before m old new n d has en ed updates name desc =
    let own : is_eq (pair_cmp (n, d) (pair_of c.pool name desc)) ≡ is_called c (text c.pool name) (text c.pool desc) m =
    ap (λ (k : ℕ × ℕ). is_eq (pair_cmp k (pair_of c.pool name desc))) (pair_is c m n d en ed) ∙ pair_eq c m name desc in
    updates.0 (pair_of c.pool name desc)
    ∙ ap (λ (b : Bool). cond b true (contains pair_cmp old (pair_of c.pool name desc))) own
    ∙ ap (λ (b : Bool). cond (is_called c (text c.pool name) (text c.pool desc) m) true b) (has name desc)
    ∙ or_new (is_called c (text c.pool name) (text c.pool desc) m) (list_any (is_called c (text c.pool name) (text c.pool desc)) before)
    ∙ sym (list_any-append (is_called c (text c.pool name) (text c.pool desc)) before (m ∷ []))

-- ---- along a class's members

pub met_next : (c : ClassParts) (members : List MemberInfo) (k : ℕ) (m : MemberInfo) (met : BTreeSet (ℕ × ℕ)) → k < length members → m ≡ get_or members k m → HasMet c (take k members ++ m ∷ []) met → HasMet c (take (k + 1) members) met
met_next c members k m met lt is has name desc =
    let more : take (k + 1) members ≡ take k members ++ m ∷ [] = rw (add-one, take-suc members k m, ← is) refl in
    has name desc ∙ ap (list_any (is_called c (text c.pool name) (text c.pool desc))) (sym more)
