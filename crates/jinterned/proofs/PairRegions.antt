-- Pairs in regions, one behind the other.
use Rattle.std.proofs.Common.{◌≡◌, ◌∙◌, ℕ, zero, suc, ◌+◌, ◌-◌, ◌*◌, ◌/◌, ◌%◌, ◌<◌, ◌≤◌, List, [], ◌∷◌, ◌++◌, length, drop, take, Some, refl, sym, ap, arith, append_assoc}
use Rattle.std.specs.Prelude.{slice_get, slice_set, get_or}
use Rattle.std.proofs.lemmas.List.{length-append, length-drop, length-take-le, append-nil, drop-append-le, take-append-le, get_or_read}
use Rattle.std.proofs.lemmas.Option.{slice_get-get_or}
use Rattle.std.proofs.Math.Seq.{drop-append-add}
use Rattle.jinterned.specs.declared.pairs.Pair.{Pair}
use Rattle.jinterned.specs.PairLists.{BeginsWith}
use Rattle.jinterned.specs.PairRegions.{AreFilled, IsFilled, all_of}
use Rattle.jinterned.proofs.DigestChains.{front}

fits : (r : List Pair) (rs : List (List Pair)) → IsFilled r rs → length r ≤ 65536
fits r [] f = f
fits r (s ∷ rs) f = omega (arith, f)

long_one : (r : List Pair) → length (all_of (r ∷ [])) ≡ length r
long_one r = ap length (append-nil r)

long_all : (r : List Pair) (rs : List (List Pair)) → length (all_of (r ∷ rs)) ≡ length r + length (all_of rs)
long_all r rs = length-append r (all_of rs)

-- ---- the region of a place

-- Where a pair stands: its region, its place there, and what stands behind that region.
pub record Stands (rs : List (List Pair)) (k q i : ℕ) : Type 0 where
  pub there : q < length rs
  pub below : i < length (get_or rs q [])
  pub more : List Pair
  pub is : drop k (all_of rs) ≡ drop i (get_or rs q []) ++ more

in_first : (r : List Pair) (rs : List (List Pair)) (i : ℕ) → IsFilled r rs → i < 65536 → i < length (all_of (r ∷ rs)) → i < length r
in_first r [] i f small lt = omega (arith, lt, long_one r)
in_first r (s ∷ rs) i f small lt = omega (arith, f, small)

pub stands : (rs : List (List Pair)) (k q i : ℕ) → k ≡ q * 65536 + i → i < 65536 → AreFilled rs → k < length (all_of rs) → Stands rs k q i
stands [] k q i is small f lt = absurd (omega (arith, lt))
stands (r ∷ rs) k zero i is small f lt =
    let same : k ≡ i = omega (arith, is) in
    let first : i < length r = in_first r rs i f.0 small (omega (arith, lt, same)) in
    record {
      there = omega arith;
      below = first;
      more = all_of rs;
      is = ap (λ (j : ℕ). drop j (r ++ all_of rs)) same ∙ drop-append-le i r (all_of rs) (omega (arith, first));
    }
stands (r ∷ []) k (suc q) i is small f lt = absurd (omega (arith, lt, is, f.0, long_one r))
stands (r ∷ s ∷ rs) k (suc q) i is small f lt =
    let next : k ≡ length r + (q * 65536 + i) = omega (arith, is, f.0) in
    let again = stands (s ∷ rs) (q * 65536 + i) q i refl small f.1 (omega (arith, next, lt, long_all r (s ∷ rs))) in
    record {
      there = omega (arith, again.there);
      below = again.below;
      more = again.more;
      is = ap (λ (j : ℕ). drop j (r ++ all_of (s ∷ rs))) next ∙ drop-append-add r (all_of (s ∷ rs)) (q * 65536 + i) ∙ again.is;
    }

pub stands_at : (rs : List (List Pair)) (k : ℕ) → AreFilled rs → k < length (all_of rs) → Stands rs k (k / 65536) (k % 65536)
stands_at rs k f lt = stands rs k (k / 65536) (k % 65536) (omega arith) (omega arith) f lt

-- ---- one more region

pub few : (rs : List (List Pair)) → AreFilled rs → length (all_of rs) ≤ 65536 * length rs
few [] f = omega arith
few (r ∷ rs) f = omega (arith, fits r rs f.0, few rs f.1, long_all r rs)

pub opened : (rs : List (List Pair)) → AreFilled rs → length rs ≤ length (all_of rs) / 65536 → AreFilled (rs ++ [] ∷ [])
opened [] f full = (omega arith, tt)
opened (r ∷ []) f full = (omega (arith, full, f.0, long_one r), (omega arith, tt))
opened (r ∷ s ∷ rs) f full = (f.0, opened (s ∷ rs) f.1 (omega (arith, full, f.0, long_all r (s ∷ rs))))

pub opened_same : (rs : List (List Pair)) → all_of (rs ++ [] ∷ []) ≡ all_of rs
opened_same [] = refl
opened_same (r ∷ rs) = ap (λ (ps : List Pair). r ++ ps) (opened_same rs)

-- ---- one more pair

still_filled : (r s x : List Pair) (rs : List (List Pair)) (at : ℕ) → IsFilled r (s ∷ rs) → IsFilled r (slice_set (s ∷ rs) at x)
still_filled r s x rs zero f = f
still_filled r s x rs (suc at) f = f

-- all pairs with one more, which the region takes that has room
pub record IsPut (rs : List (List Pair)) (at : ℕ) (p : Pair) : Type 0 where
  pub all : all_of (slice_set rs at (get_or rs at [] ++ p ∷ [])) ≡ all_of rs ++ p ∷ []
  pub filled : AreFilled (slice_set rs at (get_or rs at [] ++ p ∷ []))

pub put_in : (rs : List (List Pair)) (at : ℕ) (p : Pair) → AreFilled rs → at ≡ length (all_of rs) / 65536 → at < length rs → IsPut rs at p
put_in [] at p f is lt = absurd (omega (arith, lt))
put_in (r ∷ []) zero p f is lt = record {
  all = append-nil (r ++ p ∷ []) ∙ sym (ap (λ (ps : List Pair). ps ++ p ∷ []) (append-nil r));
  filled = (omega (arith, is, f.0, long_one r, length-append r (p ∷ [])), tt);
}
put_in (r ∷ []) (suc at) p f is lt = absurd (omega (arith, lt))
put_in (r ∷ s ∷ rs) zero p f is lt = absurd (omega (arith, is, f.0, long_all r (s ∷ rs)))
put_in (r ∷ s ∷ rs) (suc at) p f is lt =
    let again = put_in (s ∷ rs) at p f.1 (omega (arith, is, f.0, long_all r (s ∷ rs))) (omega (arith, lt)) in
    record {
      all = ap (λ (ps : List Pair). r ++ ps) again.all ∙ sym (append_assoc r (all_of (s ∷ rs)) (p ∷ []));
      filled = (still_filled r s (get_or (s ∷ rs) at [] ++ p ∷ []) rs at f.0, again.filled);
    }

-- ---- a place that is there

head_is : {T : Type 0} (k : ℕ) (xs : List T) → slice_get (drop k xs) 0 ≡ slice_get xs k
head_is zero xs = refl
head_is (suc k) [] = refl
head_is (suc k) (x ∷ xs) = head_is k xs

over : {T : Type 0} (xs ys : List T) (n : ℕ) → length xs ≤ n → take n (xs ++ ys) ≡ xs ++ take (n - length xs) ys
over [] ys n le = let all : n ≡ n - 0 = omega arith in ap (λ (k : ℕ). take k ys) all
over (x ∷ xs) ys zero le = absurd (omega (arith, le))
over (x ∷ xs) ys (suc n) le =
    let left : n - length xs ≡ suc n - suc (length xs) = omega arith in
    ap (λ (l : List _). x ∷ l) (over xs ys n (omega (arith, le)) ∙ ap (λ (k : ℕ). xs ++ take k ys) left)

module _ (rs : List (List Pair)) (all : List Pair) (k : ℕ) (view : all_of rs ≡ all) (filled : AreFilled rs) (lt : k < length all) where
  its : Stands rs k (k / 65536) (k % 65536)
  its = stands_at rs k filled (omega (arith, lt, ap length view))

  pub region_there : k / 65536 < length rs
  region_there = its.there

  module _ (r : List Pair) (read : r ≡ get_or rs (k / 65536) r) where
    same : r ≡ get_or rs (k / 65536) []
    same = get_or_read rs (k / 65536) r region_there read []

    pub place_there : k % 65536 < length r
    place_there = omega (arith, its.below, ap length same)

    from_there : drop k all ≡ drop (k % 65536) r ++ its.more
    from_there = ap (drop k) (sym view) ∙ its.is ∙ ap (λ (l : List Pair). drop (k % 65536) l ++ its.more) (sym same)

    some_left : 0 < length (drop (k % 65536) r)
    some_left = omega (arith, length-drop (k % 65536) r, place_there)

    pub pair_there : (d : Pair) → Some (get_or r (k % 65536) d) ≡ slice_get all k
    pair_there d =
        sym (slice_get-get_or r (k % 65536) d place_there) ∙ sym (head_is (k % 65536) r)
        ∙ sym (front 0 (drop (k % 65536) r) its.more some_left) ∙ ap (λ (l : List Pair). slice_get l 0) (sym from_there) ∙ head_is k all

    -- the pairs behind the place in its region, as many as are asked
    pub run_short : (most : ℕ) (behind cut : List Pair) → behind ≡ drop (k % 65536) r → cut ≡ take most behind → 0 < most → most < length behind → BeginsWith (take most (drop k all)) cut
    run_short most behind cut is short some few_ = record {
      some = omega (arith, some, few_, ap length short, length-take-le most behind (omega (arith, few_)));
      more = [];
      is =
          ap (take most) (from_there ∙ ap (λ (l : List Pair). l ++ its.more) (sym is))
          ∙ take-append-le most behind its.more (omega (arith, few_)) ∙ sym short ∙ sym (append-nil cut);
    }

    pub run_whole : (most : ℕ) (behind : List Pair) → behind ≡ drop (k % 65536) r → length behind ≤ most → BeginsWith (take most (drop k all)) behind
    run_whole most behind is many = record {
      some = omega (arith, some_left, ap length is);
      more = take (most - length behind) its.more;
      is = ap (take most) (from_there ∙ ap (λ (l : List Pair). l ++ its.more) (sym is)) ∙ over behind its.more most many;
    }
