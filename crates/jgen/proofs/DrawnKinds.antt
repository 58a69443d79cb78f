-- The kinds that a loop draws.
use Rattle.std.proofs.Common.{◌≡◌, ℕ, zero, suc, ◌+◌, ◌*◌, ◌-◌, ◌≤◌, ◌<◌, List, [], ◌∷◌, ◌++◌, length, refl, sym, ap, ◌∙◌, arith, append_assoc, append-nil}
use Rattle.jgen.specs.declared.draws.Kind.{Kind}
use Rattle.jgen.specs.Draws.{kind, kind_by, kinds, kinds_from, next, state}
use Rattle.jgen.specs.ProofNames.{drawn}

-- one state behind another
step : (seed i : ℕ) → next (state seed i) ≡ state seed (i + 1)
unfolding state
step seed i = let e : i + 1 ≡ suc i = omega arith in sym (ap (state seed) e)

pub state_three : (seed i x one two three : ℕ) → x ≡ state seed (3 * i) → one ≡ next x → two ≡ next one → three ≡ next two
    → (one ≡ state seed (3 * i + 1)) × ((two ≡ state seed (3 * i + 2)) × (three ≡ state seed (3 * i + 3)))
state_three seed i x one two three is first second third =
    let a : one ≡ state seed (3 * i + 1) = first ∙ ap next is ∙ step seed (3 * i) in
    let b : two ≡ state seed (3 * i + 2) = second ∙ ap next a ∙ step seed (3 * i + 1) ∙ ap (state seed) (let e : 3 * i + 1 + 1 ≡ 3 * i + 2 = omega arith in e) in
    let c : three ≡ state seed (3 * i + 3) = third ∙ ap next b ∙ step seed (3 * i + 2) ∙ ap (state seed) (let e : 3 * i + 2 + 1 ≡ 3 * i + 3 = omega arith in e) in
    (a, (b, c))

pub state_next : (seed i three : ℕ) → three ≡ state seed (3 * i + 3) → three ≡ state seed (3 * (i + 1))
state_next seed i three is = is ∙ ap (state seed) (let e : 3 * i + 3 ≡ 3 * (i + 1) = omega arith in e)

kind_is : (seed size i one two three : ℕ) → one ≡ state seed (3 * i + 1) → two ≡ state seed (3 * i + 2) → three ≡ state seed (3 * i + 3)
    → kind_by (drawn one) (drawn two) (drawn three) i size ≡ kind seed size i
kind_is seed size i one two three a b c =
    ap (λ (x : ℕ). kind_by (drawn x) (drawn two) (drawn three) i size) a
    ∙ ap (λ (x : ℕ). kind_by (drawn (state seed (3 * i + 1))) (drawn x) (drawn three) i size) b
    ∙ ap (λ (x : ℕ). kind_by (drawn (state seed (3 * i + 1))) (drawn (state seed (3 * i + 2))) (drawn x) i size) c

kinds_step : (seed size i : ℕ) → i < size → kinds_from seed size i (size - i) ≡ kind seed size i ∷ kinds_from seed size (i + 1) (size - (i + 1))
unfolding kinds_from
kinds_step seed size i h = let e : size - i ≡ suc (size - (i + 1)) = omega (arith, h) in ap (kinds_from seed size i) e

pub kinds_next : (seed size i one two three : ℕ) (old new all : List Kind) (k : Kind) → i < size → k ≡ kind_by (drawn one) (drawn two) (drawn three) i size
    → (one ≡ state seed (3 * i + 1)) × ((two ≡ state seed (3 * i + 2)) × (three ≡ state seed (3 * i + 3)))
    → new ≡ old ++ k ∷ [] → old ++ kinds_from seed size i (size - i) ≡ all → new ++ kinds_from seed size (i + 1) (size - (i + 1)) ≡ all
kinds_next seed size i one two three old new all k h is drawn_so put so_far =
    let rest = kinds_from seed size (i + 1) (size - (i + 1)) in
    let e : k ≡ kind seed size i = is ∙ kind_is seed size i one two three drawn_so.0 drawn_so.1.0 drawn_so.1.1 in
    ap (λ (l : List Kind). l ++ rest) put ∙ append_assoc old (k ∷ []) rest ∙ ap (λ (x : Kind). old ++ x ∷ rest) e ∙ sym (ap (λ (l : List Kind). old ++ l) (kinds_step seed size i h)) ∙ so_far

pub kinds_end : (seed size i : ℕ) (found all : List Kind) → size ≤ i → found ++ kinds_from seed size i (size - i) ≡ all → found ≡ all
unfolding kinds_from
kinds_end seed size i found all h so_far =
    let e : size - i ≡ 0 = omega (arith, h) in
    sym (append-nil found) ∙ sym (ap (λ (n : ℕ). found ++ kinds_from seed size i n) e) ∙ so_far

kinds_length : (seed size i n : ℕ) → length (kinds_from seed size i n) ≡ n
unfolding kinds_from
kinds_length seed size i zero = refl
kinds_length seed size i (suc n) = omega (arith, kinds_length seed size (i + 1) n)

pub all_length : (seed size : ℕ) (found : List Kind) → found ≡ kinds seed size → length found ≡ size
all_length seed size found is = ap (λ (l : List Kind). length l) is ∙ kinds_length seed size 0 size
