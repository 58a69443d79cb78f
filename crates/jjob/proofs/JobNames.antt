-- The first name that comes again, found among names in order.
use Rattle.std.proofs.Common.{◌≡◌, ℕ, zero, suc, ◌+◌, ◌<◌, ◌≤◌, ◌==◌, ◌&&◌, ◌||◌, Bool, true, false, cond, List, [], ◌∷◌, ◌++◌, length, map, take, Option, Some, None, refl, sym, ap, ◌∙◌, subst, append_assoc, arith}
use Rattle.std.specs.Prelude.{nat_le, nat_lt, option_map, slice_get, slice_index_or}
use Rattle.std.specs.List.{Contains, cons_option, filter_map, list_any}
use Rattle.std.specs.List.Sorted.{IsPermutation, IsSorted}
use Rattle.std.specs.Option.{option_to_list}
use Rattle.std.specs.Str.{bytes_eq}
use denote.Ref.{Bor}
use Rattle.std.specs.Cmp.{IsTotalOrder}
use Rattle.std.specs.Cmp.Lexicographic.{slice_cmp}
use Rattle.std.specs.declared.cmp.Ordering.{Ordering}
use Rattle.std.specs.declared.cmp.Ordering.TheVariants.{Less, Equal, Greater}
use Rattle.std.specs.Ordering.{MatchOrdering, is_eq, is_lt, nat_cmp, ordering_reverse, ordering_then}
use Rattle.std.proofs.lemmas.Bool.{and_from, and_parts, eq-eqb, lt-ltb, ltb-false, ltb-true, leb-true, leb-false}
use Rattle.std.proofs.lemmas.Cmp.{nat_cmp_total, nat_list_cmp_total, on_total, ranked, then_total}
use Rattle.std.proofs.lemmas.List.{append-nil, map-append}
use Rattle.std.proofs.lemmas.List.Sorted.{Contains-permutation, IsPermutation-map, IsPermutation-sym, ranks_by, sorted_far}
use Rattle.std.proofs.lemmas.Map.Text.{is_eq-slice_cmp}
use Rattle.std.proofs.lemmas.Slice.Eq.{bytes_eq-Decides}
use Rattle.jground.specs.jbase.FirstFaults.{fault_if, first_along}
use Rattle.jground.proofs.JbaseProofs.Firsts.{first_found, none_fails}
use Rattle.jjob.specs.declared.line.Said.TheVariants.{Prop}
use Rattle.jjob.specs.JobLines.{SaysNoProp, is_kept, said_of}
use Rattle.jjob.proofs.JobParser.{says_no_name}
use Rattle.jjob.specs.JobNames.{again_from, digest, first_again, is_again, least_again, least_with, name_of, names_again, note_of, notes, plain, with_next}

abbrev Note : Type 0
Note = ℕ × List ℕ × ℕ

-- ---- what a list holds

contains_head : {X : Type 0} (x : X) (xs : List X) → Contains (x ∷ xs) x
contains_head {X} x xs = (0, omega arith, refl)

contains_more : {X : Type 0} (x y : X) (xs : List X) → Contains xs x → Contains (y ∷ xs) x
contains_more {X} x y xs c = (suc c.0, omega (arith, c.1), c.2)

contains_behind : {X : Type 0} (x : X) (xs ys : List X) → Contains ys x → Contains (xs ++ ys) x
contains_behind {X} x [] ys c = c
contains_behind x (y ∷ xs) ys c = contains_more x y (xs ++ ys) (contains_behind x xs ys c)

contains_none : {X : Type 0} (x : X) → Contains [] x → ⊥
contains_none {X} x c = omega (arith, c.1)

contains_cases : {X : Type 0} (x y : X) (xs : List X) (P : Type 0) → Contains (y ∷ xs) x → (y ≡ x → P) → (Contains xs x → P) → P
contains_cases {X} x y xs P c f g = go c.0 c.1 c.2
  where
    go : (k : ℕ) → k < length (y ∷ xs) → slice_index_or (y ∷ xs) k x ≡ x → P
    go zero l e = f e
    go (suc k) l e = g (k, omega (arith, l), e)

contains_map : {X Y : Type 0} (f : X → Y) (y : Y) (xs : List X) → Contains (map f xs) y → (x : X) × Contains xs x × (f x ≡ y)
contains_map {X} {Y} f y [] c = absurd (contains_none y c)
contains_map {X} {Y} f y (x ∷ xs) c = contains_cases y (f x) (map f xs) ((z : X) × Contains (x ∷ xs) z × (f z ≡ y)) c
    (λ e. (x, contains_head x xs, e))
    (λ more. let r = contains_map f y xs more in (r.0, contains_more r.0 x xs r.1, r.2))

-- ---- what is noted of lines

-- a note is one of a line that says a property
record IsNoted (number : ℕ) (lines : List (List ℕ)) (note : Note) : Type 0 where
  pub place : ℕ
  pub line : List ℕ
  pub there : slice_get lines place ≡ Some line
  pub named : name_of line ≡ Some note.1
  pub told : note.0 ≡ digest note.1
  pub at : note.2 ≡ number + place

noted_next : (number : ℕ) (line : List ℕ) (more : List (List ℕ)) (note : Note) → IsNoted (number + 1) more note → IsNoted number (line ∷ more) note
noted_next number line more note r = record {
  place = suc r.place;
  line = r.line;
  there = r.there;
  named = r.named;
  told = r.told;
  at = omega (arith, r.at);
}

noted : (number : ℕ) (lines : List (List ℕ)) (note : Note) → Contains (notes number lines) note → IsNoted number lines note
unfolding notes
noted number [] note c = absurd (contains_none note c)
noted number (line ∷ more) note c = go (name_of line) refl c (λ behind. noted_next number line more note (noted (number + 1) more note behind))
  where
    go : (name : Option (List ℕ)) → name_of line ≡ name → Contains (option_to_list (option_map (λ n. (digest n, n, number)) name) ++ notes (number + 1) more) note
        → (Contains (notes (number + 1) more) note → IsNoted number (line ∷ more) note)
        → IsNoted number (line ∷ more) note
    go None is c later = later c
    go (Some name) is c later = contains_cases note (digest name, name, number) (notes (number + 1) more) (IsNoted number (line ∷ more) note) c
        (λ e. subst (λ (n : Note). IsNoted number (line ∷ more) n) e (record { place = 0; line = line; there = refl; named = is; told = refl; at = omega arith })) later

-- each line that says a property is noted
has_note : (number : ℕ) (lines : List (List ℕ)) (place : ℕ) (line name : List ℕ) → slice_get lines place ≡ Some line → name_of line ≡ Some name
    → Contains (notes number lines) (digest name, name, number + place)
unfolding notes
has_note number [] place line name there is = cc
has_note number (first ∷ more) zero line name there is =
    let same : first ≡ line = (let e = there in cc) in
    let here : name_of first ≡ Some name = ap name_of same ∙ is in
    let at : number + 0 ≡ number = omega arith in
    rw (here, at) (contains_head (digest name, name, number) (notes (number + 1) more))
has_note number (first ∷ more) (suc place) line name there is =
    let at : number + suc place ≡ number + 1 + place = omega arith in
    rw at (contains_behind (digest name, name, number + 1 + place) (note_of number first) (notes (number + 1) more) (has_note (number + 1) more place line name there is))

-- ---- names of lines in front

named_before : (lines : List (List ℕ)) (i j : ℕ) (line name : List ℕ) → j < i → slice_get lines j ≡ Some line → name_of line ≡ Some name
    → list_any (bytes_eq name) (filter_map name_of (take i lines)) ≡ true
named_before [] i j line name below there is = cc
named_before (first ∷ more) zero j line name below there is = absurd (omega (arith, below))
named_before (first ∷ more) (suc i) zero line name below there is =
    let same : first ≡ line = (let e = there in cc) in
    let here : name_of first ≡ Some name = ap name_of same ∙ is in
    rw (here, (bytes_eq-Decides name name).1 refl) refl
named_before (first ∷ more) (suc i) (suc j) line name below there is = go (name_of first) (named_before more i j line name (omega (arith, below)) there is)
  where
    or_any : (b any : Bool) → any ≡ true → (b || any) ≡ true
    or_any true any e = refl
    or_any false any e = e

    go : (own : Option (List ℕ)) → list_any (bytes_eq name) (filter_map name_of (take i more)) ≡ true
        → list_any (bytes_eq name) (cons_option own (filter_map name_of (take i more))) ≡ true
    go None e = e
    go (Some other) e = or_any (bytes_eq name other) (list_any (bytes_eq name) (filter_map name_of (take i more))) e

-- a line in front that says the name
pub record IsNamed (lines : List (List ℕ)) (i : ℕ) (name : List ℕ) : Type 0 where
  pub place : ℕ
  pub line : List ℕ
  pub below : place < i
  pub there : slice_get lines place ≡ Some line
  pub named : name_of line ≡ Some name

named_more : (first : List ℕ) (more : List (List ℕ)) (i : ℕ) (name : List ℕ) → IsNamed more i name → IsNamed (first ∷ more) (suc i) name
named_more first more i name r = record { place = suc r.place; line = r.line; below = omega (arith, r.below); there = r.there; named = r.named }

pub before_named : (lines : List (List ℕ)) (i : ℕ) (name : List ℕ) → list_any (bytes_eq name) (filter_map name_of (take i lines)) ≡ true → IsNamed lines i name
before_named [] zero name e = cc
before_named [] (suc i) name e = cc
before_named (first ∷ more) zero name e = cc
before_named (first ∷ more) (suc i) name e = go (name_of first) refl e (λ x. named_more first more i name (before_named more i name x))
  where
    same : (own : List ℕ) (b : Bool) → name_of first ≡ Some own → bytes_eq name own ≡ b → (b || list_any (bytes_eq name) (filter_map name_of (take i more))) ≡ true
        → (list_any (bytes_eq name) (filter_map name_of (take i more)) ≡ true → IsNamed (first ∷ more) (suc i) name) → IsNamed (first ∷ more) (suc i) name
    same own true is eq e later = record { place = 0; line = first; below = omega arith; there = refl; named = is ∙ ap (λ (n : List ℕ). Some n) (sym ((bytes_eq-Decides name own).0 eq)) }
    same own false is eq e later = later e

    go : (own : Option (List ℕ)) → name_of first ≡ own → list_any (bytes_eq name) (cons_option own (filter_map name_of (take i more))) ≡ true
        → (list_any (bytes_eq name) (filter_map name_of (take i more)) ≡ true → IsNamed (first ∷ more) (suc i) name) → IsNamed (first ∷ more) (suc i) name
    go None is e later = later e
    go (Some own) is e later = same own (bytes_eq name own) is refl e later

-- ---- the order of notes

abbrev key_cmp : Note → Note → Ordering
key_cmp x y = ordering_then (nat_cmp x.0 y.0) (slice_cmp nat_cmp x.1 y.1)

abbrev note_cmp : Note → Note → Ordering
note_cmp x y = ordering_then (key_cmp x y) (nat_cmp x.2 y.2)

key_total : IsTotalOrder key_cmp
key_total = then_total (on_total (λ (t : Note). t.0) nat_cmp_total) (on_total (λ (t : Note). t.1) nat_list_cmp_total)

note_total : IsTotalOrder note_cmp
note_total = then_total key_total (on_total (λ (t : Note). t.2) nat_cmp_total)

-- two notes have one name
abbrev Same : Note → Note → Type 0
Same x y = (x.0 ≡ y.0) × (x.1 ≡ y.1)

not_less : (a b : ℕ) → is_lt (nat_cmp a b) ≡ false → b ≤ a
not_less a b e = go (nat_cmp a b) (ranked a b (nat_cmp a b) refl) e
  where
    go : (o : Ordering) → MatchOrdering o (a < b) (a ≡ b) (b < a) → is_lt o ≡ false → b ≤ a
    go Less m e = cc
    go Equal m e = omega (arith, m)
    go Greater m e = omega (arith, m)

less : (a b : ℕ) → a < b → nat_cmp a b ≡ Less
less a b l = go (nat_cmp a b) (ranked a b (nat_cmp a b) refl)
  where
    go : (o : Ordering) → MatchOrdering o (a < b) (a ≡ b) (b < a) → o ≡ Less
    go Less m = refl
    go Equal m = absurd (omega (arith, m, l))
    go Greater m = absurd (omega (arith, m, l))

equal_keys : (x y : Note) → Same x y → key_cmp x y ≡ Equal
equal_keys x y same =
    let number : nat_cmp x.0 y.0 ≡ Equal = go (nat_cmp x.0 y.0) (ranked x.0 y.0 (nat_cmp x.0 y.0) refl) in
    let bytes : is_eq (slice_cmp nat_cmp x.1 y.1) ≡ true = is_eq-slice_cmp x.1 y.1 ∙ (bytes_eq-Decides x.1 y.1).1 same.1 in
    ap (λ (o : Ordering). ordering_then o (slice_cmp nat_cmp x.1 y.1)) number ∙ is (slice_cmp nat_cmp x.1 y.1) bytes
  where
    go : (o : Ordering) → MatchOrdering o (x.0 < y.0) (x.0 ≡ y.0) (y.0 < x.0) → o ≡ Equal
    go Less m = absurd (omega (arith, m, same.0))
    go Equal m = refl
    go Greater m = absurd (omega (arith, m, same.0))

    is : (o : Ordering) → is_eq o ≡ true → o ≡ Equal
    is Less e = cc
    is Equal e = refl
    is Greater e = cc

both_equal : (o p : Ordering) → ordering_then o p ≡ Equal → (o ≡ Equal) × (p ≡ Equal)
both_equal Less p e = cc
both_equal Equal p e = (refl, e)
both_equal Greater p e = cc

same_keys : (x y : Note) → key_cmp x y ≡ Equal → Same x y
same_keys x y e =
    let both = both_equal (nat_cmp x.0 y.0) (slice_cmp nat_cmp x.1 y.1) e in
    (ranked x.0 y.0 Equal (sym both.0), (bytes_eq-Decides x.1 y.1).0 (sym (is_eq-slice_cmp x.1 y.1) ∙ ap is_eq both.1))

first_not_less : (o p : Ordering) → is_lt (ordering_then o p) ≡ false → is_lt o ≡ false
first_not_less Less p e = e
first_not_less Equal p e = refl
first_not_less Greater p e = refl

neither : (o : Ordering) → is_lt o ≡ false → is_lt (ordering_reverse o) ≡ false → o ≡ Equal
neither Less e f = cc
neither Equal e f = refl
neither Greater e f = cc

second_not_less : (o p : Ordering) → o ≡ Equal → is_lt (ordering_then o p) ≡ false → is_lt p ≡ false
second_not_less o p is e = rw is at e

-- what stands between two notes of one name has this name and a number between theirs
between : (low mid high : Note) → is_lt (note_cmp mid low) ≡ false → is_lt (note_cmp high mid) ≡ false → Same low high → Same mid low × (low.2 ≤ mid.2) × (mid.2 ≤ high.2)
between low mid high up down same =
    let left : is_lt (key_cmp mid low) ≡ false = first_not_less (key_cmp mid low) (nat_cmp mid.2 low.2) up in
    let right : is_lt (key_cmp high mid) ≡ false = first_not_less (key_cmp high mid) (nat_cmp high.2 mid.2) down in
    let moved : key_cmp low mid ≡ key_cmp high mid = key_total.congr low high mid (equal_keys low high same) in
    let back : is_lt (ordering_reverse (key_cmp mid low)) ≡ false = ap is_lt (sym (key_total.antisymm low mid)) ∙ ap is_lt moved ∙ right in
    let one : key_cmp mid low ≡ Equal = neither (key_cmp mid low) left back in
    let here = same_keys mid low one in
    let two : key_cmp high mid ≡ Equal = equal_keys high mid (sym same.0 ∙ sym here.0, sym same.1 ∙ sym here.1) in (
      here,
      not_less mid.2 low.2 (second_not_less (key_cmp mid low) (nat_cmp mid.2 low.2) one up),
      not_less high.2 mid.2 (second_not_less (key_cmp high mid) (nat_cmp high.2 mid.2) two down),
    )

-- a note of one name and a lesser number comes first
comes_first : (x y : Note) → Same x y → x.2 < y.2 → is_lt (note_cmp x y) ≡ true
comes_first x y same l =
    ap (λ (o : Ordering). is_lt (ordering_then o (nat_cmp x.2 y.2))) (equal_keys x y same) ∙ ap is_lt (less x.2 y.2 l)

is_again_from : (x y : Note) → Same x y → x.2 < y.2 → is_again x y ≡ true
is_again_from x y same l = and_from (x.0 == y.0 && bytes_eq x.1 y.1) (nat_lt x.2 y.2) (and_from (x.0 == y.0) (bytes_eq x.1 y.1) (eq-eqb x.0 y.0 same.0) ((bytes_eq-Decides x.1 y.1).1 same.1)) (lt-ltb x.2 y.2 l)

again_says : (x y : Note) → is_again x y ≡ true → (x.1 ≡ y.1) × (x.2 < y.2)
again_says x y e =
    let both = and_parts (x.0 == y.0 && bytes_eq x.1 y.1) (nat_lt x.2 y.2) e in
    let keys = and_parts (x.0 == y.0) (bytes_eq x.1 y.1) both.0 in
    ((bytes_eq-Decides x.1 y.1).0 keys.1, ltb-true x.2 y.2 both.1)

-- ---- notes in order

-- none of them stands before the first
abbrev Floor : Note → List Note → Type 0
Floor x ys = (y : Note) → Contains ys y → is_lt (note_cmp y x) ≡ false

abbrev Rising : List Note → Type 0
Rising [] = Unit {0}
Rising (x ∷ xs) = Floor x xs × Rising xs

abbrev raw_cmp : ℕ × Bor (List ℕ) × ℕ → ℕ × Bor (List ℕ) × ℕ → Ordering
raw_cmp x y = note_cmp (plain x) (plain y)

rising_from : (xs : List (ℕ × Bor (List ℕ) × ℕ))
    → ((i j : ℕ) (d : ℕ × Bor (List ℕ) × ℕ) → i ≤ j → j < length xs → is_lt (raw_cmp (slice_index_or xs j d) (slice_index_or xs i d)) ≡ false) → Rising (map plain xs)
rising_from [] far = tt
rising_from (x ∷ xs) far = (
  λ y c. let raw = contains_map plain y xs c in
      subst (λ (n : Note). is_lt (note_cmp n (plain x)) ≡ false) (ap plain raw.1.2 ∙ raw.2) (far 0 (suc raw.1.0) raw.0 (omega arith) (omega (arith, raw.1.1))),
  rising_from xs (λ i j d l m. far (suc i) (suc j) d (omega (arith, l)) (omega (arith, m))),
)

rising : (xs : List (ℕ × Bor (List ℕ) × ℕ)) → IsSorted raw_cmp xs → Rising (map plain xs)
rising xs up = rising_from xs (λ i j d l m. sorted_far (λ x y. is_lt (raw_cmp x y)) (ranks_by note_total plain) xs up i j d l m)

-- ---- the least number

-- there is a number, and it is at most n
abbrev Below : Option ℕ → ℕ → Type 0
Below o n = (k : ℕ) × (o ≡ Some k) × (k ≤ n)

least_below : (least : Option ℕ) (number : ℕ) → Below (least_with least number) number
least_below None number = (number, refl, omega arith)
least_below (Some least) number = go (nat_le least number) refl
  where
    go : (b : Bool) → nat_le least number ≡ b → Below (cond b (Some least) (Some number)) number
    go true e = (least, refl, leb-true least number e)
    go false e = (number, refl, omega arith)

least_keeps : (least : Option ℕ) (number m : ℕ) → Below least m → Below (least_with least number) m
least_keeps None number m b = let e = b.1 in absurd cc
least_keeps (Some least) number m b = let e : least ≡ b.0 = (let x = b.1 in cc) in go (nat_le least number) refl (omega (arith, e, b.2))
  where
    go : (t : Bool) → nat_le least number ≡ t → least ≤ m → Below (cond t (Some least) (Some number)) m
    go true e low = (least, refl, low)
    go false e low = (number, refl, omega (arith, low, leb-false least number e))

next_keeps : (least : Option ℕ) (last next : Note) (m : ℕ) → Below least m → Below (with_next least last next) m
next_keeps least last next m b = go (is_again last next)
  where
    go : (t : Bool) → Below (cond t (least_with least next.2) least) m
    go true = least_keeps least next.2 m b
    go false = b

next_here : (least : Option ℕ) (last next : Note) (m : ℕ) → is_again last next ≡ true → next.2 ≤ m → Below (with_next least last next) m
next_here least last next m again l =
    let b = least_below least next.2 in
    rw again (b.0, b.1, omega (arith, b.2, l))

again_keeps : (least : Option ℕ) (last : Note) (more : List Note) (m : ℕ) → Below least m → Below (again_from least last more) m
unfolding again_from
again_keeps least last [] m b = b
again_keeps least last (next ∷ more) m b = again_keeps (with_next least last next) next more m (next_keeps least last next m b)

-- two notes of one name, the second with the number
record Again (xs : List Note) (number : ℕ) : Type 0 where
  pub first : Note
  pub second : Note
  pub has_first : Contains xs first
  pub has_second : Contains xs second
  pub again : is_again first second ≡ true
  pub at : second.2 ≡ number

again_more : (x : Note) (xs : List Note) (number : ℕ) → Again xs number → Again (x ∷ xs) number
again_more x xs number a = record {
  first = a.first;
  second = a.second;
  has_first = contains_more a.first x xs a.has_first;
  has_second = contains_more a.second x xs a.has_second;
  again = a.again;
  at = a.at;
}

least_from : (least : Option ℕ) (number k : ℕ) (P : Type 0) → least_with least number ≡ Some k → (least ≡ Some k → P) → (number ≡ k → P) → P
least_from None number k P e f g = g (let x = e in cc)
least_from (Some least) number k P e f g = go (nat_le least number) e
  where
    go : (t : Bool) → cond t (Some least) (Some number) ≡ Some k → P
    go true e = f e
    go false e = g (let x = e in cc)

next_from : (least : Option ℕ) (last next : Note) (k : ℕ) (P : Type 0) → with_next least last next ≡ Some k → (least ≡ Some k → P)
    → (is_again last next ≡ true → next.2 ≡ k → P) → P
next_from least last next k P e f g = go (is_again last next) refl e
  where
    go : (t : Bool) → is_again last next ≡ t → cond t (least_with least next.2) least ≡ Some k → P
    go true is e = least_from least next.2 k P e f (g is)
    go false is e = f e

again_sound : (least : Option ℕ) (last : Note) (more : List Note) (k : ℕ) (P : Type 0) → again_from least last more ≡ Some k → (least ≡ Some k → P)
    → (Again (last ∷ more) k → P) → P
unfolding again_from
again_sound least last [] k P e f g = f e
again_sound least last (next ∷ more) k P e f g = again_sound (with_next least last next) next more k P e
    (λ here. next_from least last next k P here f (λ is at. g (record {
      first = last;
      second = next;
      has_first = contains_head last (next ∷ more);
      has_second = contains_more next last (next ∷ more) (contains_head next more);
      again = is;
      at = at;
    })))
    (λ a. g (again_more last (next ∷ more) k a))

-- a number that is given is one of a name that stands again
found_again : (xs : List Note) (k : ℕ) → least_again xs ≡ Some k → Again xs k
found_again [] k e = cc
found_again (first ∷ more) k e = again_sound None first more k (Again (first ∷ more) k) e (λ x. absurd cc) (λ a. a)

-- a name stands again behind the first
again_first : (least : Option ℕ) (last next : Note) (more : List Note) (b : Note) → Rising (last ∷ next ∷ more) → Contains (next ∷ more) b → Same last b → last.2 < b.2
    → ((c : Note) → Contains (next ∷ more) c → Same c b → c.2 < b.2 → Below (again_from (with_next least last next) next more) b.2)
    → Below (again_from (with_next least last next) next more) b.2
again_first least last next more b up here same l behind = contains_cases b next more (Below (again_from (with_next least last next) next more) b.2) here
    (λ e. again_keeps (with_next least last next) next more b.2
    (next_here least last next b.2 (subst (λ (n : Note). is_again last n ≡ true) (sym e) (is_again_from last b same l)) (let at : next.2 ≡ b.2 = ap (λ (n : Note). n.2) e in omega (arith, at))))
    (λ c. let mid = between last next b (up.0 next (contains_head next more)) (up.1.0 b c) same in go (nat_lt last.2 next.2) refl mid)
  where
    go : (t : Bool) → nat_lt last.2 next.2 ≡ t → Same next last × (last.2 ≤ next.2) × (next.2 ≤ b.2) → Below (again_from (with_next least last next) next more) b.2
    go true e mid = again_keeps (with_next least last next) next more b.2 (next_here least last next b.2 (is_again_from last next (sym mid.0.0, sym mid.0.1) (ltb-true last.2 next.2 e)) mid.2)
    go false e mid = behind next (contains_head next more) (mid.0.0 ∙ same.0, mid.0.1 ∙ same.1) (omega (arith, ltb-false last.2 next.2 e, l))

again_least : (least : Option ℕ) (last : Note) (more : List Note) (a b : Note) → Rising (last ∷ more) → Contains (last ∷ more) a → Contains (last ∷ more) b → Same a b
    → a.2 < b.2 → Below (again_from least last more) b.2
unfolding again_from
again_least least last [] a b up ca cb same l =
    contains_cases a last [] (Below least b.2) ca (λ e. contains_cases b last [] (Below least b.2) cb (λ f. let at : a.2 ≡ b.2 = ap (λ (n : Note). n.2) (sym e ∙ f) in absurd (omega (arith, at, l))) (λ n. absurd (contains_none b n)))
    (λ n. absurd (contains_none a n))
again_least least last (next ∷ more) a b up ca cb same l = contains_cases b last (next ∷ more) (Below (again_from (with_next least last next) next more) b.2) cb
    (λ f. contains_cases a last (next ∷ more) (Below (again_from (with_next least last next) next more) b.2) ca
    (λ e. let at : a.2 ≡ b.2 = ap (λ (n : Note). n.2) (sym e ∙ f) in absurd (omega (arith, at, l)))
    (λ c. let one : is_lt (note_cmp a b) ≡ false = subst (λ (n : Note). is_lt (note_cmp a n) ≡ false) f (up.0 a c) in let two = comes_first a b same l in absurd cc))
    (λ cb. contains_cases a last (next ∷ more) (Below (again_from (with_next least last next) next more) b.2) ca
    (λ e. again_first least last next more b up cb (ap (λ (n : Note). n.0) e ∙ same.0, ap (λ (n : Note). n.1) e ∙ same.1) (let at : last.2 ≡ a.2 = ap (λ (n : Note). n.2) e in omega (arith, at, l))
    (λ c cc' s m. again_least (with_next least last next) next more c b up.1 cc' cb s m))
    (λ ca. again_least (with_next least last next) next more a b up.1 ca cb same l))

-- each name that stands again has a number that isn't below the least
least_of_all : (xs : List Note) (a b : Note) → Rising xs → Contains xs a → Contains xs b → Same a b → a.2 < b.2 → Below (least_again xs) b.2
least_of_all [] a b up ca cb same l = absurd (contains_none a ca)
least_of_all (first ∷ more) a b up ca cb same l = again_least None first more a b up ca cb same l

-- ---- the first line

abbrev test : List (List ℕ) → ℕ → List ℕ → Option ℕ
test lines i line = fault_if (names_again (take i lines) line) (i + 1)

-- a line that says a name again
record Fails (lines : List (List ℕ)) (number : ℕ) : Type 0 where
  pub place : ℕ
  pub line : List ℕ
  pub there : slice_get lines place ≡ Some line
  pub again : names_again (take place lines) line ≡ true
  pub at : number ≡ place + 1

fails : (lines : List (List ℕ)) (xs : List Note) (k : ℕ) → IsPermutation (notes 1 lines) xs → Again xs k → Fails lines k
fails lines xs k moved a =
    let back = IsPermutation-sym (notes 1 lines) xs moved in
    let first = noted 1 lines a.first (Contains-permutation xs (notes 1 lines) a.first back a.has_first) in
    let second = noted 1 lines a.second (Contains-permutation xs (notes 1 lines) a.second back a.has_second) in
    let says = again_says a.first a.second a.again in
    let named : name_of first.line ≡ Some a.second.1 = first.named ∙ ap (λ (n : List ℕ). Some n) says.0 in
    record {
      place = second.place;
      line = second.line;
      there = second.there;
      again = rw second.named (named_before lines second.place first.place first.line a.second.1 (omega (arith, says.1, first.at, second.at)) first.there named);
      at = omega (arith, a.at, second.at);
    }

falls : (lines : List (List ℕ)) (xs : List Note) (place : ℕ) (line : List ℕ) → IsPermutation (notes 1 lines) xs → Rising xs → slice_get lines place ≡ Some line
    → names_again (take place lines) line ≡ true → Below (least_again xs) (place + 1)
falls lines xs place line moved up there again = go (name_of line) refl again
  where
    go : (name : Option (List ℕ)) → name_of line ≡ name → names_again (take place lines) line ≡ true → Below (least_again xs) (place + 1)
    go None is e = absurd (let x : false ≡ true = (rw is at e) in cc)
    go (Some name) is e =
        let before = before_named lines place name (rw is at e) in
        let one = Contains-permutation (notes 1 lines) xs (digest name, name, 1 + before.place) moved (has_note 1 lines before.place before.line name before.there before.named) in
        let two = Contains-permutation (notes 1 lines) xs (digest name, name, 1 + place) moved (has_note 1 lines place line name there is) in
        let r = least_of_all xs (digest name, name, 1 + before.place) (digest name, name, 1 + place) up one two (refl, refl) (omega (arith, before.below)) in
        (r.0, r.1, omega (arith, r.2))

fault_is : (b : Bool) (n f : ℕ) → fault_if b n ≡ Some f → (b ≡ true) × (f ≡ n)
fault_is true n f e = (refl, let x = e in cc)
fault_is false n f e = cc

no_fault : (b : Bool) (n : ℕ) → fault_if b n ≡ None → b ≡ false
no_fault true n e = cc
no_fault false n e = refl

one_place : (k at p q : ℕ) → q ≤ p → (q < p → ⊥) → at ≡ p + 1 → k ≡ q + 1 → k ≡ at
one_place k at p q le late a b = omega (arith, le, late, a, b)

least_is : (lines : List (List ℕ)) (xs : List Note) → IsPermutation (notes 1 lines) xs → Rising xs → least_again xs ≡ first_again lines
unfolding first_again
least_is lines xs moved up = go (least_again xs) (first_along (test lines) 0 lines) refl refl
  where
    go : (least first : Option ℕ) → least_again xs ≡ least → first_along (test lines) 0 lines ≡ first → least ≡ first
    go None None l f = refl
    go None (Some at) l f =
        let r = first_found (test lines) lines at f in
        let bad = fault_is (names_again (take r.0 lines) r.1) (r.0 + 1) at r.3 in
        let below = falls lines xs r.0 r.1 moved up r.2 bad.0 in
        absurd (let x : None ≡ Some below.0 = sym l ∙ below.1 in cc)
    go (Some k) None l f =
        let r = fails lines xs k moved (found_again xs k l) in
        let good = no_fault (names_again (take r.place lines) r.line) (r.place + 1) (none_fails (test lines) lines r.place r.line f r.there) in
        absurd (let x : true ≡ false = sym r.again ∙ good in cc)
    go (Some k) (Some at) l f =
        let r = first_found (test lines) lines at f in
        let bad = fault_is (names_again (take r.0 lines) r.1) (r.0 + 1) at r.3 in
        let below = falls lines xs r.0 r.1 moved up r.2 bad.0 in
        let same : k ≡ below.0 = (let x : Some k ≡ Some below.0 = sym l ∙ below.1 in cc) in
        let own = fails lines xs k moved (found_again xs k l) in
        ap (λ (n : ℕ). Some n) (one_place k at r.0 own.place (omega (arith, below.2, same, own.at)) (λ early. let good = no_fault (names_again (take own.place lines) own.line) (own.place + 1) (r.4 own.place own.line early own.there) in
        let x : true ≡ false = sym own.again ∙ good in cc) bad.1 own.at)

-- the least number in notes that were sorted is that of the first line that says a name again
pub sorted_again : (lines : List (List ℕ)) (old new : List (ℕ × Bor (List ℕ) × ℕ)) → map plain old ≡ notes 1 lines → IsPermutation old new → IsSorted raw_cmp new
    → least_again (map plain new) ≡ first_again lines
sorted_again lines old new is moved up = least_is lines (map plain new) (subst (λ (ns : List Note). IsPermutation ns (map plain new)) is (IsPermutation-map plain old new moved)) (rising new up)

-- ---- noting lines one by one

-- one more line is noted
pub notes_more : (done now : List (ℕ × Bor (List ℕ) × ℕ)) (number : ℕ) (left : List (List ℕ)) (line : List ℕ) (more : List (List ℕ)) (total : List Note) → left ≡ line ∷ more
    → map plain now ≡ map plain done ++ note_of number line → map plain done ++ notes number left ≡ total
    → map plain now ++ notes (number + 1) more ≡ total
unfolding notes
notes_more done now number left line more total here is so_far =
    ap (λ (ns : List Note). ns ++ notes (number + 1) more) is ∙ append_assoc (map plain done) (note_of number line) (notes (number + 1) more)
    ∙ ap (λ (ls : List (List ℕ)). map plain done ++ notes number ls) (sym here) ∙ so_far

-- the last line is noted
pub notes_end : (done now : List (ℕ × Bor (List ℕ) × ℕ)) (number : ℕ) (left : List (List ℕ)) (line : List ℕ) (total : List Note) → left ≡ line ∷ []
    → map plain now ≡ map plain done ++ note_of number line → map plain done ++ notes number left ≡ total → map plain now ≡ total
unfolding notes
notes_end done now number left line total here is so_far = sym (append-nil (map plain now)) ∙ notes_more done now number left line [] total here is so_far

-- a line that says a property
pub noted_prop : (line name value : List ℕ) → is_kept line ≡ true → said_of line ≡ Some (Prop name value) → name_of line ≡ Some name
unfolding name_of
noted_prop line name value kept says = rw (kept, says) refl

-- a line that is skipped
pub noted_none : (line : List ℕ) → is_kept line ≡ false → name_of line ≡ None
unfolding name_of
noted_none line skipped = rw skipped refl

note_none : (ns : List Note) (number : ℕ) (line : List ℕ) → name_of line ≡ None → ns ≡ ns ++ note_of number line
note_none ns number line is = rw is (sym (append-nil ns))

-- a line that is skipped
pub note_skipped : (ns : List Note) (number : ℕ) (line : List ℕ) → is_kept line ≡ false → ns ≡ ns ++ note_of number line
note_skipped ns number line skipped = note_none ns number line (noted_none line skipped)

-- a line that says no property
pub note_other : (ns : List Note) (number : ℕ) (line : List ℕ) → SaysNoProp line → ns ≡ ns ++ note_of number line
note_other ns number line other = note_none ns number line (says_no_name line other)

-- a property is noted
pub note_prop : (done now : List (ℕ × Bor (List ℕ) × ℕ)) (number told : ℕ) (name : Bor (List ℕ)) (line value : List ℕ) → is_kept line ≡ true
    → said_of line ≡ Some (Prop name.now value) → told ≡ digest name.now → now ≡ done ++ (told, name, number) ∷ []
    → map plain now ≡ map plain done ++ note_of number line
note_prop done now number told name line value kept says at is =
    let one : (told, name.now, number) ∷ [] ≡ note_of number line = rw (at, noted_prop line name.now value kept says) refl in
    ap (map plain) is ∙ map-append plain done ((told, name, number) ∷ []) ∙ ap (λ (l : List Note). map plain done ++ l) one

-- ---- going along notes

pub least_none : (names : List (ℕ × Bor (List ℕ) × ℕ)) → length names ≡ 0 → None ≡ least_again (map plain names)
least_none [] e = refl
least_none (x ∷ xs) e = absurd cc

pub least_begins : (names : List (ℕ × Bor (List ℕ) × ℕ)) (first : ℕ × Bor (List ℕ) × ℕ) (more : List (ℕ × Bor (List ℕ) × ℕ)) → names ≡ first ∷ more
    → again_from None (plain first) (map plain more) ≡ least_again (map plain names)
least_begins names first more is = ap (λ (xs : List (ℕ × Bor (List ℕ) × ℕ)). least_again (map plain xs)) (sym is)
