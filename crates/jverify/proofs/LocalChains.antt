-- Chains of locals: each node leads to an older one, and newer ones leave its chain as it is.
use Rattle.std.proofs.Common.{◌≡◌, ℕ, zero, suc, ◌+◌, ◌-◌, ◌*◌, ◌<◌, ◌≤◌, Bool, true, false, ◌==◌, List, [], ◌∷◌, ◌++◌, length, get_or, take, reverse, Option, Some, None, refl, sym, ap, subst, ◌∙◌, arith}
use Rattle.std.specs.Prelude.{if◌then◌else◌, nat_le}
use Rattle.std.specs.List.{list_all, list_any}
use Rattle.std.proofs.lemmas.Bool.{eq-eqb}
use Rattle.std.proofs.lemmas.Bool.Decides.{nat_tests}
use Rattle.std.proofs.lemmas.List.{get_or-reverse, length-append, length-reverse, reverse-append, reverse-reverse, take-append-le, take_all}
use Rattle.jparts.specs.jmaps.ExpandedFrames.{chopped}
use Rattle.jresolution.specs.declared.jprogram.part.ClassRef.{ClassRef}
use Rattle.jresolution.specs.declared.juses.types.TypeRef.{TypeRef}
use Rattle.jresolution.specs.declared.juses.types.TypeRef.TheVariants as refs
use Rattle.jtyping.specs.jrule.OperandSlots.{size, slot_count}
use Rattle.jtyping.specs.jrule.TypeSubstitution.{is_this}
use Rattle.jverify.specs.declared.chains.Node.{Node}
use Rattle.jverify.specs.LocalChains.{AreMade, AreNodes, Extends, IsLink, IsNode, SaysMade, chain, is_made, values}

-- ---- the newest node, and those before it

chain_newest : (n : Node) (older : List Node) → chain (n ∷ older) (suc (length older)) ≡ n.kind ∷ chain older n.parent
unfolding chain
chain_newest n older =
    let same : (suc (length older) == suc (length older)) ≡ true = eq-eqb _ _ refl in
    ap (λ b. if b then n.kind ∷ chain older n.parent else chain older (suc (length older))) same

chain_older : (n : Node) (older : List Node) (k : ℕ) → k ≤ length older → chain (n ∷ older) k ≡ chain older k
unfolding chain
chain_older n older k le =
    let other : (k == suc (length older)) ≡ false = grind (arith, nat_tests) in
    ap (λ b. if b then n.kind ∷ chain older n.parent else chain older k) other

pub chain_root : (nodes : List Node) → chain nodes 0 ≡ []
unfolding chain
chain_root [] = refl
chain_root (n ∷ older) = chain_older n older 0 (omega arith) ∙ chain_root older

pub newer : (n : Node) (older : List Node) → Extends older (n ∷ older)
newer n older = record { more = omega arith; same = λ k le. chain_older n older k le }

pub extends_itself : (nodes : List Node) → Extends nodes nodes
extends_itself nodes = record { more = omega arith; same = λ k le. refl }

pub extends_along : (a b c : List Node) → Extends a b → Extends b c → Extends a c
extends_along a b c e f = record { more = omega (arith, e.more, f.more); same = λ k le. f.same k (omega (arith, e.more)) ∙ e.same k le }

-- ---- the node of a number

newest_link : (n : Node) (older : List Node) → IsNode older n → IsLink (n ∷ older) (suc (length older)) n
unfolding slot_count
newest_link n older is =
    let e = chain_newest n older in
    record {
      parent = omega (arith, is.parent);
      chained = e ∙ ap (λ xs. n.kind ∷ xs) (sym (chain_older n older n.parent is.parent));
      places = is.places ∙ sym (ap slot_count e);
      flag = is.flag ∙ sym (ap (list_any is_this) e);
    }

older_link : (n : Node) (older : List Node) (k : ℕ) (m : Node) → k ≤ length older → IsLink older k m → IsLink (n ∷ older) k m
older_link n older k m le is =
    let e = chain_older n older k le in
    record {
      parent = is.parent;
      chained = e ∙ is.chained ∙ ap (λ xs. m.kind ∷ xs) (sym (chain_older n older m.parent (omega (arith, is.parent))));
      places = is.places ∙ sym (ap slot_count e);
      flag = is.flag ∙ sym (ap (list_any is_this) e);
    }

link_at : (nodes : List Node) (i j : ℕ) (d : Node) → AreNodes nodes → suc (i + j) ≡ length nodes → IsLink nodes (suc j) (get_or nodes i d)
link_at [] i j d are e = absurd (omega arith)
link_at (n ∷ older) zero j d are e =
    let same : length older ≡ j = omega arith in
    subst (λ k. IsLink (n ∷ older) (suc k) n) same (newest_link n older are.0)
link_at (n ∷ older) (suc i) j d are e = older_link n older (suc j) (get_or older i d) (omega arith) (link_at older i j d are.1 (omega arith))

made_at : (makes : ℕ → Option ClassRef) (nodes : List Node) (i j : ℕ) (d : Node) → AreMade makes nodes → suc (i + j) ≡ length nodes → (get_or nodes i d).made ≡ list_all (is_made makes) (chain nodes (suc j))
made_at makes [] i j d are e = absurd (omega arith)
made_at makes (n ∷ older) zero j d are e =
    let same : length older ≡ j = omega arith in
    subst (λ k. n.made ≡ list_all (is_made makes) (chain (n ∷ older) (suc k))) same (are.0 ∙ sym (ap (list_all (is_made makes)) (chain_newest n older)))
made_at makes (n ∷ older) (suc i) j d are e =
    made_at makes older i j d are.1 (omega arith) ∙ sym (ap (list_all (is_made makes)) (chain_older n older (suc j) (omega arith)))

-- as they lie in memory, the oldest first
from_oldest : (items : List Node) (k : ℕ) (n : Node) → 0 < k → k ≤ length items → n ≡ get_or items (k - 1) n → n ≡ get_or (reverse items) (length items - k) n
from_oldest items k n some le is =
    let back : get_or (reverse (reverse items)) (k - 1) n ≡ get_or (reverse items) (length (reverse items) - 1 - (k - 1)) n = get_or-reverse (reverse items) (k - 1) n (omega (arith, length-reverse items)) in
    let place : length (reverse items) - 1 - (k - 1) ≡ length items - k = omega (arith, length-reverse items) in
    is ∙ ap (λ xs. get_or xs (k - 1) n) (sym (reverse-reverse items)) ∙ back ∙ ap (λ i. get_or (reverse items) i n) place

pub read_link : (items : List Node) (k : ℕ) (n : Node) → AreNodes (reverse items) → 0 < k → k ≤ length items → n ≡ get_or items (k - 1) n → IsLink (reverse items) k n
read_link items k n are some le is =
    let from = from_oldest items k n some le is in
    let number : suc (k - 1) ≡ k = omega arith in
    let found : IsLink (reverse items) (suc (k - 1)) (get_or (reverse items) (length items - k) n) = link_at (reverse items) (length items - k) (k - 1) n are (omega (arith, length-reverse items)) in
    subst (λ i. IsLink (reverse items) i n) number (subst (λ m. IsLink (reverse items) (suc (k - 1)) m) (sym from) found)

pub read_made : (items : List Node) (k : ℕ) (n : Node) → 0 < k → k ≤ length items → n ≡ get_or items (k - 1) n → SaysMade (reverse items) k n
read_made items k n some le is makes are =
    let from = from_oldest items k n some le is in
    let number : suc (k - 1) ≡ k = omega arith in
    let found : (get_or (reverse items) (length items - k) n).made ≡ list_all (is_made makes) (chain (reverse items) (suc (k - 1))) = made_at makes (reverse items) (length items - k) (k - 1) n are (omega (arith, length-reverse items)) in
    subst (λ i. n.made ≡ list_all (is_made makes) (chain (reverse items) i)) number (subst (λ (m : Node). m.made ≡ list_all (is_made makes) (chain (reverse items) (suc (k - 1)))) (sym from) found)

-- ---- how many places there can be

size_few : (k : TypeRef) → size k ≤ 2
size_few refs.Top = omega arith
size_few refs.Int = omega arith
size_few refs.Long = omega arith
size_few refs.Null = omega arith
size_few refs.UninitThis = omega arith
size_few (refs.Uninit o) = omega arith
size_few (refs.Object c) = omega arith
size_few (refs.Array a) = omega arith
size_few refs.Ctx = omega arith

few_where : (b : Bool) (n : Node) (older : List Node) (k : ℕ) → slot_count (chain older n.parent) ≤ 2 * length older → slot_count (chain older k) ≤ 2 * length older
    → slot_count (if b then n.kind ∷ chain older n.parent else chain older k) ≤ 2 * suc (length older)
unfolding slot_count
few_where true n older k h g = omega (arith, size_few n.kind, h)
few_where false n older k h g = omega (arith, g)

pub few_places : (nodes : List Node) (k : ℕ) → slot_count (chain nodes k) ≤ 2 * length nodes
unfolding slot_count chain
few_places [] k = omega arith
few_places (n ∷ older) k = few_where (k == suc (length older)) n older k (few_places older n.parent) (few_places older k)

-- ---- one more

pub values_root : (nodes : List Node) → values nodes 0 ≡ []
values_root nodes = ap reverse (chain_root nodes)

pub reverse_pushed : (items : List Node) (n : Node) → reverse (items ++ n ∷ []) ≡ n ∷ reverse items
reverse_pushed items n = reverse-append items (n ∷ [])

pub values_more : (old new : List Node) (e k : ℕ) (kind : TypeRef) → chain new k ≡ kind ∷ chain old e → values new k ≡ values old e ++ kind ∷ []
values_more old new e k kind is = ap reverse is ∙ reverse-append (kind ∷ []) (chain old e)

pub values_pushed : (n : Node) (old : List Node) (k e : ℕ) (kind : TypeRef) → k ≡ suc (length old) → n.kind ≡ kind → n.parent ≡ e → values (n ∷ old) k ≡ values old e ++ kind ∷ []
values_pushed n old k e kind last is parent =
    values_more old (n ∷ old) e k kind
    (ap (chain (n ∷ old)) last ∙ chain_newest n old ∙ ap (λ t. t ∷ chain old n.parent) is ∙ ap (λ i. kind ∷ chain old i) parent)

-- ---- one fewer

test_less : (n m : ℕ) → nat_le (suc n) (suc m) ≡ nat_le n m
test_less n m = grind (arith, nat_tests)

pub chopped_more : (n : ℕ) (xs : List TypeRef) (x : TypeRef) → chopped (suc n) (xs ++ x ∷ []) ≡ chopped n xs
chopped_more n xs x =
    let len : length (xs ++ x ∷ []) ≡ suc (length xs) = omega (arith, length-append xs (x ∷ [])) in
    let left : length (xs ++ x ∷ []) - suc n ≡ length xs - n = omega arith in
    let test : nat_le (suc n) (length (xs ++ x ∷ [])) ≡ nat_le n (length xs) = ap (nat_le (suc n)) len ∙ test_less n (length xs) in
    let rest : take (length (xs ++ x ∷ []) - suc n) (xs ++ x ∷ []) ≡ take (length xs - n) xs = ap (λ i. take i (xs ++ x ∷ [])) left ∙ take-append-le (length xs - n) xs (x ∷ []) (omega arith) in
    ap (λ b. if b then Some (take (length (xs ++ x ∷ []) - suc n) (xs ++ x ∷ [])) else None) test
    ∙ ap (λ ys. if nat_le n (length xs) then Some ys else None) rest

pub chopped_none : (n : ℕ) → 0 < n → chopped {A = TypeRef} n [] ≡ None
chopped_none n some =
    let test : nat_le n 0 ≡ false = grind (arith, nat_tests) in
    ap (λ b. if b then Some (take {A = TypeRef} (0 - n) []) else None) test

pub chopped_all : (xs : List TypeRef) → chopped 0 xs ≡ Some xs
chopped_all xs =
    let test : nat_le 0 (length xs) ≡ true = grind (arith, nat_tests) in
    let all : take (length xs - 0) xs ≡ xs = take_all (length xs - 0) xs (omega arith) in
    ap (λ b. if b then Some (take (length xs - 0) xs) else None) test ∙ ap Some all
