-- Texts in modified UTF-8 (JVMS 4.4.7), cut in front of a byte below 128 and put one behind the other.
use Rattle.std.proofs.Common.{◌≡◌, ℕ, zero, suc, ◌+◌, ◌/◌, ◌%◌, ◌≤◌, ◌<◌, Bool, true, false, cond, eqb, ltb, List, [], ◌∷◌, ◌++◌, Ok, Err, refl, sym, ap, subst, ◌∙◌, arith}
use Rattle.std.specs.Prelude.{IsTrue, nat_lt, Result}
use Rattle.std.specs.List.{AllByRecursion, flat_map, list_all}
use Rattle.std.specs.Result.{is_ok}
use Rattle.std.proofs.lemmas.Bool.{ltb-true}
use Rattle.std.proofs.lemmas.Grind.{flat_map-append}
use Rattle.jground.specs.declared.jformat.error.Fault.{Fault}
use Rattle.jground.specs.jformat.Format.{IsBytes}
use Rattle.jground.proofs.JformatProofs.ReadingSteps.{both, first_true, second_true}
use Rattle.jground.specs.jtext.Modified.{group}
use Rattle.jground.specs.jtext.Modified as modified
use Rattle.jground.proofs.JtextProofs.Groups.{text_law}
use Rattle.jclass.specs.PoolChecks.{is_modified}

-- ---- bytes

abbrev pub are_bytes : List ℕ → Bool
are_bytes text = list_all (λ b. nat_lt b 256) text

pub bytes_of : (text : List ℕ) → IsTrue (are_bytes text) → IsBytes text
bytes_of [] h i = omega arith
bytes_of (b ∷ bs) h zero = ltb-true b 256 (first_true (nat_lt b 256) (are_bytes bs) h)
bytes_of (b ∷ bs) h (suc i) = bytes_of bs (second_true (nat_lt b 256) (are_bytes bs) h) i

pub all_join : {A : Type 0} (p : A → Bool) (xs ys : List A) → IsTrue (list_all p xs) → IsTrue (list_all p ys) → IsTrue (list_all p (xs ++ ys))
all_join p [] ys h k = k
all_join p (x ∷ xs) ys h k = both (p x) (list_all p (xs ++ ys)) (first_true (p x) (list_all p xs) h) (all_join p xs ys (second_true (p x) (list_all p xs) h) k)

pub all_first : {A : Type 0} (p : A → Bool) (xs ys : List A) → IsTrue (list_all p (xs ++ ys)) → IsTrue (list_all p xs)
all_first p [] ys h = refl
all_first p (x ∷ xs) ys h = both (p x) (list_all p xs) (first_true (p x) (list_all p (xs ++ ys)) h) (all_first p xs ys (second_true (p x) (list_all p (xs ++ ys)) h))

pub all_second : {A : Type 0} (p : A → Bool) (xs ys : List A) → IsTrue (list_all p (xs ++ ys)) → IsTrue (list_all p ys)
all_second p [] ys h = h
all_second p (x ∷ xs) ys h = all_second p xs ys (second_true (p x) (list_all p (xs ++ ys)) h)

-- ---- groups

-- A unit's group: behind its first byte stand bytes from 128 on, and none behind a first byte below 128.
record IsGroup (g : List ℕ) : Type 0 where
  pub first : ℕ
  pub tail : List ℕ
  pub is : g ≡ first ∷ tail
  pub high : AllByRecursion (λ b. 128 ≤ b) tail
  pub alone : first < 128 → tail ≡ []

group_by : (u : ℕ) (p q r : Bool) → IsGroup (cond p (192 ∷ 128 ∷ []) (cond q (u ∷ []) (cond r ((192 + u / 64) ∷ (128 + u % 64) ∷ []) ((224 + u / 4096) ∷ (128 + u / 64 % 64) ∷ (128 + u % 64) ∷ []))))
group_by u true q r = record { first = 192; tail = 128 ∷ []; is = refl; high = (omega arith, tt); alone = λ h. absurd (omega arith) }
group_by u false true r = record { first = u; tail = []; is = refl; high = tt; alone = λ h. refl }
group_by u false false true = record { first = 192 + u / 64; tail = (128 + u % 64) ∷ []; is = refl; high = (omega arith, tt); alone = λ h. absurd (omega arith) }
group_by u false false false = record { first = 224 + u / 4096; tail = (128 + u / 64 % 64) ∷ (128 + u % 64) ∷ []; is = refl; high = (omega arith, (omega arith, tt)); alone = λ h. absurd (omega arith) }

group_is : (u : ℕ) → IsGroup (group u)
group_is u = group_by u (eqb u 0) (ltb u 128) (ltb u 2048)

abbrev fit : List ℕ → Bool
fit us = list_all (λ u. nat_lt u 65536) us

-- units, and their groups one behind the other
record Units (text : List ℕ) : Type 0 where
  pub units : List ℕ
  pub good : IsTrue (fit units)
  pub is : text ≡ flat_map group units

units_from : (text : List ℕ) (r : Result (List ℕ) (Fault (Unit {0}))) → IsBytes text → modified.text.read text ≡ r → IsTrue (is_ok r) → Units text
units_from text (Ok us) bytes e h = let t = text_law.takes text us bytes e in record { units = us; good = t.0; is = t.1 }
units_from text (Err d) bytes e h = absurd cc

units_of : (text : List ℕ) → IsTrue (are_bytes text) → IsTrue (is_modified text) → Units text
unfolding is_modified
units_of text bytes h = units_from text (modified.text.read text) (bytes_of text bytes) refl h

of_units : (text : List ℕ) → Units text → IsTrue (is_modified text)
unfolding is_modified
of_units text u = ap (λ (t : List ℕ). is_ok (modified.text.read t)) u.is ∙ ap is_ok (text_law.again u.units u.good)

-- ---- one behind the other

pub join : (xs ys : List ℕ) → IsTrue (are_bytes xs) → IsTrue (are_bytes ys) → IsTrue (is_modified xs) → IsTrue (is_modified ys) → IsTrue (is_modified (xs ++ ys))
join xs ys a b h k =
    let u = units_of xs a h in
    let v = units_of ys b k in
    of_units (xs ++ ys) (record {
      units = u.units ++ v.units;
      good = all_join (λ n. nat_lt n 65536) u.units v.units u.good v.good;
      is = ap (λ (l : List ℕ). l ++ ys) u.is ∙ ap (λ (l : List ℕ). flat_map group u.units ++ l) v.is ∙ sym (flat_map-append group u.units v.units);
    })

-- ---- cut

-- what stands behind high bytes, where a low byte stands in it
record Behind (xs tail : List ℕ) (b : ℕ) (ys rest : List ℕ) : Type 0 where
  pub others : List ℕ
  pub front : xs ≡ tail ++ others
  pub back : others ++ b ∷ ys ≡ rest

behind_high : (xs tail : List ℕ) (b : ℕ) (ys rest : List ℕ) → b < 128 → AllByRecursion (λ c. 128 ≤ c) tail → xs ++ b ∷ ys ≡ tail ++ rest → Behind xs tail b ys rest
behind_high xs [] b ys rest low high e = record { others = xs; front = refl; back = e }
behind_high [] (t ∷ tail) b ys rest low high e = let same : b ≡ t = cc in let above : 128 ≤ t = high.0 in absurd (omega arith)
behind_high (x ∷ xs) (t ∷ tail) b ys rest low high e =
    let same : x ≡ t = cc in
    let others : xs ++ b ∷ ys ≡ tail ++ rest = cc in
    let k = behind_high xs tail b ys rest low high.1 others in
    record { others = k.others; front = ap (λ (y : ℕ). y ∷ xs) same ∙ ap (λ (l : List ℕ). t ∷ l) k.front; back = k.back }

record Cut (xs ys : List ℕ) : Type 0 where
  pub front : Units xs
  pub back : Units ys

cut_group : (u : ℕ) (us : List ℕ) (x : ℕ) (xs : List ℕ) (b : ℕ) (ys : List ℕ) (g : List ℕ) → IsGroup g → group u ≡ g → b < 128 → IsTrue (fit (u ∷ us)) → x ∷ (xs ++ b ∷ ys) ≡ g ++ flat_map group us
    → ((others : List ℕ) → others ++ b ∷ ys ≡ flat_map group us → Cut others (b ∷ ys)) → Cut (x ∷ xs) (b ∷ ys)
cut_group u us x xs b ys g is same low good e more =
    let whole : x ∷ (xs ++ b ∷ ys) ≡ is.first ∷ (is.tail ++ flat_map group us) = e ∙ ap (λ (l : List ℕ). l ++ flat_map group us) is.is in
    let first : x ≡ is.first = cc in
    let rest : xs ++ b ∷ ys ≡ is.tail ++ flat_map group us = cc in
    let k = behind_high xs is.tail b ys (flat_map group us) low is.high rest in
    let c = more k.others k.back in
    let front : x ∷ xs ≡ g ++ k.others = ap (λ (y : ℕ). y ∷ xs) first ∙ ap (λ (l : List ℕ). is.first ∷ l) k.front ∙ ap (λ (l : List ℕ). l ++ k.others) (sym is.is) in
    record {
      front = record {
        units = u ∷ c.front.units;
        good = both (nat_lt u 65536) (fit c.front.units) (first_true (nat_lt u 65536) (fit us) good) c.front.good;
        is = front ∙ ap (λ (l : List ℕ). l ++ k.others) (sym same) ∙ ap (λ (l : List ℕ). group u ++ l) c.front.is;
      };
      back = c.back;
    }

cut_at : (us xs : List ℕ) (b : ℕ) (ys : List ℕ) → b < 128 → IsTrue (fit us) → xs ++ b ∷ ys ≡ flat_map group us → Cut xs (b ∷ ys)
cut_at us [] b ys low good e = record { front = record { units = []; good = refl; is = refl }; back = record { units = us; good = good; is = e } }
cut_at [] (x ∷ xs) b ys low good e = absurd cc
cut_at (u ∷ us) (x ∷ xs) b ys low good e =
    cut_group u us x xs b ys (group u) (group_is u) refl low good e
    (λ others back. cut_at us others b ys low (second_true (nat_lt u 65536) (fit us) good) back)

-- in front of a byte below 128, which belongs to no group that begins before it
pub cut : (xs : List ℕ) (b : ℕ) (ys : List ℕ) → b < 128 → IsTrue (are_bytes (xs ++ b ∷ ys)) → IsTrue (is_modified (xs ++ b ∷ ys)) → IsTrue (is_modified xs) × IsTrue (is_modified (b ∷ ys))
cut xs b ys low bytes h =
    let u = units_of (xs ++ b ∷ ys) bytes h in
    let c = cut_at u.units xs b ys low u.good u.is in
    (of_units xs c.front, of_units (b ∷ ys) c.back)

-- and behind it
behind_low : (b : ℕ) (ys us : List ℕ) → b < 128 → IsTrue (fit us) → b ∷ ys ≡ flat_map group us → Units ys
behind_low b ys [] low good e = absurd cc
behind_low b ys (u ∷ us) low good e =
    let g = group_is u in
    let whole : b ∷ ys ≡ g.first ∷ (g.tail ++ flat_map group us) = e ∙ ap (λ (l : List ℕ). l ++ flat_map group us) g.is in
    let first : b ≡ g.first = cc in
    let none = g.alone (subst (λ (n : ℕ). n < 128) first low) in
    let rest : ys ≡ g.tail ++ flat_map group us = cc in
    record { units = us; good = second_true (nat_lt u 65536) (fit us) good; is = rest ∙ ap (λ (l : List ℕ). l ++ flat_map group us) none }

pub without_first : (b : ℕ) (ys : List ℕ) → b < 128 → IsTrue (are_bytes (b ∷ ys)) → IsTrue (is_modified (b ∷ ys)) → IsTrue (is_modified ys)
without_first b ys low bytes h =
    let u = units_of (b ∷ ys) bytes h in
    of_units ys (behind_low b ys u.units low u.good u.is)
