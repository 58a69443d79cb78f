-- How many instructions stand in front of a place, and handlers by number.
use Rattle.std.proofs.Common.{◌≡◌, ℕ, zero, suc, ◌+◌, ◌<◌, ◌≤◌, ℤ, pos, negsuc, Bool, List, [], ◌∷◌, ◌++◌, length, get_or, take, Some, Result, Ok, Err}
use Rattle.std.proofs.Common.{refl, sym, ap, subst, ◌∙◌, arith, inl, inr, append_assoc}
use Rattle.std.specs.Prelude.{◌&&◌, ◌<ℤ◌, nat_le, nat_lt, slice_get}
use Rattle.std.specs.List.Sorted.{IsSearchInRange, IsBinarySearchResult, IsNonDecreasingBy}
use Rattle.std.specs.Ordering.{int_cmp, ordering_index}
use Rattle.std.proofs.lemmas.Bool.{cases_lt}
use Rattle.std.proofs.lemmas.Bool.Decides.{nat_tests}
use Rattle.std.proofs.lemmas.Int.{ints}
use Rattle.std.proofs.lemmas.Cmp.{int_ranked}
use Rattle.std.proofs.lemmas.List.{append-nil, length-append}
use Rattle.std.proofs.lemmas.List.Sorted.{IsNonDecreasingBy-from_default}
use Rattle.jparts.specs.declared.jcode.op.Handler.{Handler}
use Rattle.jparts.specs.declared.jcode.op.Op.TheVariants as ops
use Rattle.jparts.specs.declared.jcode.op.Placed.{Placed}
use Rattle.jparts.specs.jcode.Instructions.{Rises}
use Rattle.jresolution.specs.juses.PoolTables.{Grows, Pairs}
use Rattle.jresolution.proofs.JusesProofs.Spans.{pairs_end, pairs_step}
use Rattle.jsemantics.specs.jmachine.Unwinding.{number_at}
use Rattle.jready.specs.declared.handlers.HandlerRow.{HandlerRow}
use Rattle.jready.specs.HandlerTables.{AreHandlers, IsHandler}
use Rattle.jready.specs.TableGrowth.{AreThere, part}
use Rattle.jready.proofs.TableGrowth.{part_put}

-- ---- how many stand in front of a place

first_op : Placed
first_op = record { at = 0; op = ops.Nop }

cmp_rises : (a b : ℕ) (t : ℤ) → a ≤ b → ordering_index (int_cmp (pos a) t) ≤ ordering_index (int_cmp (pos b) t)
cmp_rises a b (pos n) le = grind (arith, nat_tests)
cmp_rises a b (negsuc n) le = omega arith

comparisons_rise : (ps : List Placed) (t : ℤ) → Rises ps → IsNonDecreasingBy (λ p. ordering_index (int_cmp (pos p.at) t)) ps
comparisons_rise ps t rise = IsNonDecreasingBy-from_default (λ p. ordering_index (int_cmp (pos p.at) t)) ps first_op (λ i j le lt.
    let places : (get_or ps i first_op).at ≤ (get_or ps j first_op).at =
    grind (arith, rise i j first_op, λ (same : i ≡ j). ap (λ (k : ℕ). (get_or ps k first_op).at) same) in
    cmp_rises (get_or ps i first_op).at (get_or ps j first_op).at t places)

-- what is found at an index
record At (ps : List Placed) (i : ℕ) (one : Placed) : Type 0 where
  less : i < length ps
  is : get_or ps i first_op ≡ one

at_index : (ps : List Placed) (i : ℕ) (one : Placed) → slice_get ps i ≡ Some one → At ps i one
at_index [] i one e = absurd cc
at_index (p ∷ ps) zero one e = record { less = omega arith; is = cc }
at_index (p ∷ ps) (suc i) one e = let h = at_index ps i one e in let lt = h.less in record { less = omega arith; is = h.is }

-- those in front of a number stand in front of a place, and no others do
abbrev Parts : List Placed → ℕ → ℕ → Type 0
Parts ps at n = (i : ℕ) → i < length ps → (i < n → (get_or ps i first_op).at < at) × (n ≤ i → at ≤ (get_or ps i first_op).at)

parts_found : (ps : List Placed) (at n : ℕ) → Rises ps → n < length ps → (get_or ps n first_op).at ≡ at → Parts ps at n
parts_found ps at n rise lt here i less = (
  λ before. let less = rise i n first_op before lt in omega arith,
  λ behind. elim (cases_lt n i) [
    | inl more ↦ let later = rise n i first_op more less in omega arith
    | inr none ↦
        let same : n ≡ i = omega arith in
        let e : (get_or ps n first_op).at ≡ (get_or ps i first_op).at = ap (λ (k : ℕ). (get_or ps k first_op).at) same in
        omega arith
  ],
)

abbrev pub number_of : Result ℕ ℕ → ℕ
number_of (Ok n) = n
number_of (Err n) = n

parted_below : (ps : List Placed) (at n : ℕ) (t : ℤ) → Rises ps → IsBinarySearchResult (λ p. int_cmp (pos p.at) t) ps (Err n) → t ≡ pos at → n ≤ length ps
    → Parts ps at n
parted_below ps at n t rise apart is le i less = (
  λ before.
      let lower : pos (get_or ps i first_op).at <ℤ t = int_ranked (pos (get_or ps i first_op).at) t _
      (sym ((apart (comparisons_rise ps t rise)).0 i first_op (omega arith) before)) in
      omega (arith, ints),
  λ behind.
      let higher : t <ℤ pos (get_or ps i first_op).at = int_ranked (pos (get_or ps i first_op).at) t _
      (sym ((apart (comparisons_rise ps t rise)).1 i first_op behind less)) in
      omega (arith, ints),
)

parted : (ps : List Placed) (at : ℕ) (t : ℤ) (r : Result ℕ ℕ) → Rises ps → IsSearchInRange r (length ps)
    → IsBinarySearchResult (λ p. int_cmp (pos p.at) t) ps r → t ≡ pos at → Parts ps at (number_of r)
parted ps at t (Ok n) rise in_range equal is =
    let same : pos (get_or ps n first_op).at ≡ t = int_ranked _ t _ (sym (equal first_op)) in
    parts_found ps at n rise in_range (omega (arith, ints))
parted ps at t (Err n) rise in_range apart is = parted_below ps at n t rise apart is in_range

tests_alike : (at x n i : ℕ) → (i < n → x < at) → (n ≤ i → at ≤ x) → nat_le at x ≡ nat_le n i
tests_alike at x n i before behind = elim (cases_lt i n) [
  | inl less ↦ let lower = before less in grind (arith, nat_tests)
  | inr more ↦ let higher = behind more in grind (arith, nat_tests)
]

counted : (ps : List Placed) (at n : ℕ) → Parts ps at n → (i : ℕ) (one : Placed) → slice_get ps i ≡ Some one → nat_le at one.at ≡ nat_le n i
counted ps at n parts i one e =
    let h = at_index ps i one e in
    let both = parts i h.less in
    ap (λ (p : Placed). nat_le at p.at) (sym h.is) ∙ tests_alike at (get_or ps i first_op).at n i both.0 both.1

pub counts : (ps : List Placed) (at : ℕ) (t : ℤ) (r : Result ℕ ℕ) → Rises ps → IsSearchInRange r (length ps)
    → IsBinarySearchResult (λ p. int_cmp (pos p.at) t) ps r → t ≡ pos at
    → (i : ℕ) (one : Placed) → slice_get ps i ≡ Some one → nat_le at one.at ≡ nat_le (number_of r) i
counts ps at t r rise in_range by is i one e = counted ps at (number_of r) (parted ps at t r rise in_range by is) i one e

-- ---- handlers

less_alike : (a b c d : ℕ) → nat_le a b ≡ nat_le c d → nat_lt b a ≡ nat_lt d c
less_alike a b c d e = grind (arith, nat_tests)

pub handler_is : (ops : List Placed) (h : Handler) (r : HandlerRow)
    → ((i : ℕ) (one : Placed) → slice_get ops i ≡ Some one → nat_le h.start one.at ≡ nat_le r.start i)
    → ((i : ℕ) (one : Placed) → slice_get ops i ≡ Some one → nat_le h.end one.at ≡ nat_le r.end i) → r.to ≡ number_at ops h.at → r.class ≡ h.class
    → IsHandler ops h r
handler_is ops h r from upto to class = record {
  range = λ i one at. ap (λ (b : Bool). b && nat_lt i r.end) (sym (from i one at))
      ∙ ap (λ (b : Bool). nat_le h.start one.at && b) (sym (less_alike h.end one.at r.end i (upto i one at)));
  to = to;
  class = class;
}

-- rows of handlers, so many of them, behind others
pub record Puts (ops : List Placed) (handlers : List Handler) (old new : List HandlerRow) (n : ℕ) : Type 0 where
  pub own : List HandlerRow
  pub lies : new ≡ old ++ own
  pub are : AreHandlers ops (take n handlers) own

pub puts_none : (ops : List Placed) (handlers : List Handler) (old : List HandlerRow) → Puts ops handlers old old 0
puts_none ops handlers old = record { own = []; lies = sym (append-nil old); are = tt }

get_any : {A : Type 0} (xs : List A) (i : ℕ) (d e : A) → i < length xs → get_or xs i d ≡ get_or xs i e
get_any [] i d e lt = absurd (omega arith)
get_any (x ∷ xs) zero d e lt = refl
get_any (x ∷ xs) (suc i) d e lt = get_any xs i d e (omega arith)

pub puts_more : (ops : List Placed) (handlers : List Handler) (old rows new : List HandlerRow) (n : ℕ) (d : Handler) (r : HandlerRow)
    → Puts ops handlers old rows n → n < length handlers → IsHandler ops (get_or handlers n d) r
    → new ≡ rows ++ r ∷ [] → Puts ops handlers old new (n + 1)
puts_more ops handlers old rows new n d r so_far lt one put = record {
  own = so_far.own ++ r ∷ [];
  lies = put ∙ ap (λ (l : List HandlerRow). l ++ r ∷ []) so_far.lies
      ∙ (let e : (old ++ so_far.own) ++ r ∷ [] ≡ old ++ (so_far.own ++ r ∷ []) = simp append_assoc in e);
  are = pairs_step (IsHandler ops) handlers n (get_or handlers n d) so_far.own r lt (get_any handlers n d (get_or handlers n d) lt) so_far.are one;
}

pairs_count : {A B : Type 0} (r : A → B → Type 0) (xs : List A) (ys : List B) → Pairs r xs ys → length ys ≡ length xs
pairs_count r [] [] h = refl
pairs_count r [] (y ∷ ys) h = absurd h
pairs_count r (x ∷ xs) [] h = absurd h
pairs_count r (x ∷ xs) (y ∷ ys) h = ap suc (pairs_count r xs ys h.1)

pub record Done (ops : List Placed) (handlers : List Handler) (old new : List HandlerRow) (first count : ℕ) : Type 0 where
  pub there : AreThere new first count
  pub are : AreHandlers ops handlers (part new first count)
  pub behind : Grows old new

pub puts_done : (ops : List Placed) (handlers : List Handler) (old new : List HandlerRow) (n first count : ℕ) → Puts ops handlers old new n
    → length handlers ≤ n → first ≡ length old → count ≡ length handlers → Done ops handlers old new first count
puts_done ops handlers old new n first count h le f c =
    let all : AreHandlers ops handlers h.own = pairs_end (IsHandler ops) handlers n h.own le h.are in
    let len : length h.own ≡ length handlers = pairs_count (IsHandler ops) handlers h.own all in
    let whole : length new ≡ length old + length h.own = ap length h.lies ∙ length-append old h.own in
    let own : part new first count ≡ h.own = ap (λ (l : List HandlerRow). part l first count) h.lies ∙ part_put old h.own first count f (c ∙ sym len) in
    record { there = omega arith; are = subst (AreHandlers ops handlers) (sym own) all; behind = (h.own, h.lies) }
