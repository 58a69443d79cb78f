-- Names that are told apart by their digests.
use Rattle.std.proofs.Common.{◌≡◌, ℕ, zero, suc, ◌+◌, ◌<◌, ◌≤◌, ◌==◌, Bool, true, false, cond, List, [], ◌∷◌, ◌++◌}
use Rattle.std.proofs.Common.{length, take, Option, Some, None, refl, sym, ap, ◌∙◌, subst, arith}
use Rattle.std.specs.Prelude.{nat_le, slice_get, slice_index_or}
use Rattle.std.specs.List.{count_by}
use Rattle.std.specs.List.Sorted.{IsPermutation, IsSorted}
use Rattle.std.specs.Ordering.{nat_cmp}
use Rattle.std.proofs.lemmas.Bool.{eq-eqb, eqb-true, leb-true, leb-false}
use Rattle.std.proofs.lemmas.List.Sorted.{IsNonDecreasingBy-from_sort, sum_by-IsPermutation}
use Rattle.std.proofs.lemmas.List.Sums.{sum_by-cons}
use Rattle.jground.specs.jbase.FirstFaults.{fault_if, first_along, or_else}
use Rattle.jground.proofs.JbaseProofs.Firsts.{all_pass}
use Rattle.jjob.specs.JobNames.{NoneTwice, differ_from, digest, digests_of, first_again, lesser, name_of, names_again, neighbours_differ}
use Rattle.jjob.proofs.JobNames.{before_named}
use Rattle.jjob.proofs.JobParser.{along_both, same_tests, test}

-- ---- going along numbers

pub differ_none : (numbers : List ℕ) → length numbers ≡ 0 → true ≡ neighbours_differ numbers
differ_none [] e = refl
differ_none (x ∷ xs) e = absurd cc

pub differ_begins : (numbers : List ℕ) (first : ℕ) (more : List ℕ) → numbers ≡ first ∷ more → differ_from first more ≡ neighbours_differ numbers
differ_begins numbers first more is = ap neighbours_differ (sym is)

-- ---- numbers in order

-- each number is above the one before it
abbrev Strict : ℕ → List ℕ → Type 0
Strict last [] = Unit {0}
Strict last (x ∷ xs) = (last < x) × Strict x xs

abbrev Up : List ℕ → Type 0
Up xs = (i j : ℕ) (d : ℕ) → i ≤ j → j < length xs → slice_index_or xs i d ≤ slice_index_or xs j d

strict : (last : ℕ) (xs : List ℕ) → Up (last ∷ xs) → differ_from last xs ≡ true → Strict last xs
unfolding differ_from
strict last [] up e = tt
strict last (x ∷ xs) up e = go (last == x) refl e (up 0 1 0 (omega arith) (omega arith))
    (strict x xs (λ i j d le below. up (suc i) (suc j) d (omega (arith, le)) (omega (arith, below))))
  where
    go : (b : Bool) → (last == x) ≡ b → cond b false (differ_from x xs) ≡ true → last ≤ x → (differ_from x xs ≡ true → Strict x xs) → (last < x) × Strict x xs
    go true is e le later = absurd cc
    go false is e le later = (below (λ same. let y : true ≡ false = sym (eq-eqb last x same) ∙ is in cc) le, later e)
      where
        below : (last ≡ x → ⊥) → last ≤ x → last < x
        below other le = omega (arith, other, le)

abbrev bit : Bool → ℕ
bit b = cond b 1 0

tally_more : (x y : ℕ) (ys : List ℕ) → count_by (λ z. z == x) (y ∷ ys) ≡ bit (y == x) + count_by (λ z. z == x) ys
tally_more x y ys = sum_by-cons (λ z. cond (z == x) 1 0) y ys

unequal : (x y : ℕ) → (x ≡ y → ⊥) → (x == y) ≡ false
unequal x y other = go (x == y) refl
  where
    go : (b : Bool) → (x == y) ≡ b → b ≡ false
    go true is = absurd (other (eqb-true x y is))
    go false is = refl

none : (x last : ℕ) (ys : List ℕ) → Strict last ys → x ≤ last → count_by (λ z. z == x) ys ≡ 0
none x last [] up le = refl
none x last (y ∷ ys) up le =
    let head : bit (y == x) ≡ 0 = ap bit (unequal y x (λ e. omega (arith, e, le, up.0))) in
    let rest = none x y ys up.1 (omega (arith, le, up.0)) in
    omega (arith, tally_more x y ys, head, rest)

bit_small : (b : Bool) → bit b ≤ 1
bit_small true = omega arith
bit_small false = omega arith

once : (x last : ℕ) (ys : List ℕ) → Strict last ys → count_by (λ z. z == x) (last ∷ ys) ≤ 1
once x last [] up = let head = bit_small (last == x) in omega (arith, tally_more x last [], head)
once x last (y ∷ ys) up = go (last == x) refl (once x y ys up.1)
  where
    go : (b : Bool) → (last == x) ≡ b → count_by (λ z. z == x) (y ∷ ys) ≤ 1 → count_by (λ z. z == x) (last ∷ y ∷ ys) ≤ 1
    go true is le =
        let head : bit (last == x) ≡ 1 = ap bit is in
        let same : last ≡ x = eqb-true last x is in
        omega (arith, tally_more x last (y ∷ ys), head, none x last (y ∷ ys) up (omega (arith, same)))
    go false is le = let head : bit (last == x) ≡ 0 = ap bit is in omega (arith, tally_more x last (y ∷ ys), head, le)

apart : (xs : List ℕ) → Up xs → neighbours_differ xs ≡ true → (x : ℕ) → count_by (λ z. z == x) xs ≤ 1
apart [] up e x = omega arith
apart (y ∷ ys) up e x = once x y ys (strict y ys up e)

-- numbers that were sorted stand once where no neighbours are equal
pub sorted_apart : (old new : List ℕ) → IsPermutation old new → IsSorted nat_cmp new → neighbours_differ new ≡ true → NoneTwice old
sorted_apart old new moved up e x =
    let same : count_by (λ z. z == x) new ≡ count_by (λ z. z == x) old = sum_by-IsPermutation (λ z. cond (z == x) 1 0) old new moved in
    omega (arith, same, apart new (IsNonDecreasingBy-from_sort (λ y. y) new up) e x)

-- ---- the digests of names

digest_here : (first : List ℕ) (more : List (List ℕ)) (name : List ℕ) → name_of first ≡ Some name → digests_of (first ∷ more) ≡ digest name ∷ digests_of more
digest_here first more name is = rw is refl

grown : (first : List ℕ) (more : List (List ℕ)) (x n : ℕ) → n ≤ count_by (λ z. z == x) (digests_of more) → n ≤ count_by (λ z. z == x) (digests_of (first ∷ more))
grown first more x n le = go (name_of first) refl
  where
    go : (own : Option (List ℕ)) → name_of first ≡ own → n ≤ count_by (λ z. z == x) (digests_of (first ∷ more))
    go None is = rw is le
    go (Some other) is = rw (digest_here first more other is) (omega (arith, tally_more x (digest other) (digests_of more), le))

-- a line that says the name
has_one : (lines : List (List ℕ)) (place : ℕ) (line name : List ℕ) → slice_get lines place ≡ Some line → name_of line ≡ Some name
    → 1 ≤ count_by (λ z. z == digest name) (digests_of lines)
has_one [] place line name there is = cc
has_one (first ∷ more) zero line name there is =
    let same : first ≡ line = (let e = there in cc) in
    let head : bit (digest name == digest name) ≡ 1 = ap bit (eq-eqb (digest name) (digest name) refl) in
    rw (digest_here first more name (ap name_of same ∙ is)) (omega (arith, tally_more (digest name) (digest name) (digests_of more), head))
has_one (first ∷ more) (suc place) line name there is = grown first more (digest name) 1 (has_one more place line name there is)

-- two lines that say the name
has_two : (lines : List (List ℕ)) (p q : ℕ) (one two name : List ℕ) → p < q → slice_get lines p ≡ Some one → name_of one ≡ Some name
    → slice_get lines q ≡ Some two → name_of two ≡ Some name
    → 2 ≤ count_by (λ z. z == digest name) (digests_of lines)
has_two [] p q one two name below a is b same = cc
has_two (first ∷ more) p zero one two name below a is b same = absurd (omega (arith, below))
has_two (first ∷ more) zero (suc q) one two name below a is b same =
    let own : first ≡ one = (let e = a in cc) in
    let head : bit (digest name == digest name) ≡ 1 = ap bit (eq-eqb (digest name) (digest name) refl) in
    rw (digest_here first more name (ap name_of own ∙ is)) (omega (arith, tally_more (digest name) (digest name) (digests_of more), head, has_one more q two name b same))
has_two (first ∷ more) (suc p) (suc q) one two name below a is b same =
    grown first more (digest name) 2 (has_two more p q one two name (omega (arith, below)) a is b same)

-- where digests are apart, no name comes again
pub none_again : (lines : List (List ℕ)) (digests : List ℕ) → NoneTwice digests → digests ≡ digests_of lines → first_again lines ≡ None
unfolding first_again
none_again lines digests apart is = all_pass (test names_again lines) lines (λ k line there. ap (λ (b : Bool). fault_if b (k + 1)) (fresh k line there))
  where
    fresh : (k : ℕ) (line : List ℕ) → slice_get lines k ≡ Some line → names_again (take k lines) line ≡ false
    fresh k line there = go (names_again (take k lines) line) (name_of line) refl refl
      where
        go : (b : Bool) (name : Option (List ℕ)) → names_again (take k lines) line ≡ b → name_of line ≡ name → b ≡ false
        go false name e n = refl
        go true None e n = absurd (let x : false ≡ true = (rw n at e) in cc)
        go true (Some name) e n =
            let before = before_named lines k name (rw n at e) in
            let two = has_two lines before.place k before.line line name before.below before.there before.named there n in
            let one : count_by (λ z. z == digest name) (digests_of lines) ≤ 1 = subst (λ (l : List ℕ). count_by (λ z. z == digest name) l ≤ 1) is (apart (digest name)) in
            absurd (omega (arith, two, one))

-- ---- a line that is bad

found_from : (behind : List (List ℕ) → List ℕ → Bool) (all : List (List ℕ)) (i : ℕ) (xs : List (List ℕ)) (n : ℕ)
    → first_along (test behind all) i xs ≡ Some n → (i + 1 ≤ n) × (n ≤ i + length xs)
unfolding first_along
found_from behind all i [] n e = cc
found_from behind all i (x ∷ xs) n e = go (behind (take i all) x) e (λ h. found_from behind all (i + 1) xs n h)
  where
    go : (b : Bool) → or_else (fault_if b (i + 1)) (first_along (test behind all) (i + 1) xs) ≡ Some n
        → (first_along (test behind all) (i + 1) xs ≡ Some n → (i + 1 + 1 ≤ n) × (n ≤ i + 1 + length xs)) → (i + 1 ≤ n) × (n ≤ i + suc (length xs))
    go true e later = let at : i + 1 ≡ n = (let x = e in cc) in (omega (arith, at), omega (arith, at))
    go false e later = let r = later e in (omega (arith, r.0), omega (arith, r.1))

-- the first name again among all lines, if it isn't behind a line
pub again_to : (all before left : List (List ℕ)) (number : ℕ) → before ++ left ≡ all → number ≡ length before
    → or_else (first_again before) (Some number) ≡ Some (lesser (first_again all) number)
unfolding first_again
again_to all before left number whole at =
    let front : first_along (test names_again all) 0 before ≡ first_along (test names_again before) 0 before = same_tests names_again [] before left all before whole refl in
    let both : first_along (test names_again all) 0 all ≡ or_else (first_along (test names_again before) 0 before) (first_along (test names_again all) (length before) left)
    = ap (first_along (test names_again all) 0) (sym whole)
    ∙ along_both (test names_again all) before left ∙ ap (λ (o : Option ℕ). or_else o (first_along (test names_again all) (length before) left)) front in
    go (first_along (test names_again before) 0 before) (first_along (test names_again all) (length before) left) refl refl
    ∙ ap (λ (o : Option ℕ). Some (lesser o number)) (sym both)
  where
    small : (a b : ℕ) → a ≤ b → cond (nat_le a b) a b ≡ a
    small a b le = pick (nat_le a b) refl
      where
        pick : (t : Bool) → nat_le a b ≡ t → cond t a b ≡ a
        pick true e = refl
        pick false e = absurd (omega (arith, le, leb-false a b e))

    great : (a b : ℕ) → b < a → cond (nat_le a b) a b ≡ b
    great a b lt = pick (nat_le a b) refl
      where
        pick : (t : Bool) → nat_le a b ≡ t → cond t a b ≡ b
        pick true e = absurd (omega (arith, lt, leb-true a b e))
        pick false e = refl

    go : (here later : Option ℕ) → first_along (test names_again before) 0 before ≡ here → first_along (test names_again all) (length before) left ≡ later
        → or_else here (Some number) ≡ Some (lesser (or_else here later) number)
    go (Some k) later h l = let r = found_from names_again before 0 before k h in ap (λ (n : ℕ). Some n) (sym (small k number (omega (arith, r.1, at))))
    go None None h l = refl
    go None (Some n) h l = let r = found_from names_again all (length before) left n l in ap (λ (n : ℕ). Some n) (sym (great n number (omega (arith, r.0, at))))
