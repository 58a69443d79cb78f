-- Units of texts, cell by cell.
use Rattle.std.proofs.Common.{◌≡◌, ◌∙◌, ℕ, zero, suc, ◌+◌, ◌%◌, ◌^◌, ◌<◌, Bool, false, List, [], ◌∷◌, ◌++◌, length, drop, get_or, refl, sym, ap, ap₂, arith, add-one, append_assoc, eq-eqb, rules}
use Rattle.std.specs.Prelude.{nat_eq, slice_get, unwrap_or, ◌&&◌}
use Rattle.std.proofs.Common.{◌≢◌}
use Rattle.std.specs.Str.{bytes_eq}
use Rattle.std.proofs.Math.Nat.{mod-eq_of_lt}
use Rattle.jruntime.specs.jstate.HeapMeanings.{units_of}

-- the unit of a cell
abbrev pub unit : List ℕ → ℕ → ℕ
unit cells i = unwrap_or (slice_get cells i) 0 % 2 ^ 16

next : (cells : List ℕ) (i : ℕ) → i < length cells → units_of (drop i cells) ≡ unit cells i ∷ units_of (drop (suc i) cells)
next [] i h = absurd (omega (arith, h))
next (c ∷ cells) zero h = refl
next (c ∷ cells) (suc i) h = next cells i (omega (arith, h))

next_units : (cells : List ℕ) (i : ℕ) → i < length cells → units_of (drop i cells) ≡ unit cells i ∷ units_of (drop (i + 1) cells)
next_units cells i h = rw (add-one i) (next cells i h)

-- ---- reading

pub read_on : (us start cells : List ℕ) (i : ℕ) → i < length cells → us ++ units_of (drop i cells) ≡ start → (us ++ unit cells i ∷ []) ++ units_of (drop (i + 1) cells) ≡ start
read_on us start cells i h e = append_assoc us (unit cells i ∷ []) (units_of (drop (i + 1) cells)) ∙ ap (λ rest. us ++ rest) (sym (next_units cells i h)) ∙ e

-- ---- comparing

both_next : (xs ys : List ℕ) (i : ℕ) → i < length xs → i < length ys
    → bytes_eq (units_of (drop i xs)) (units_of (drop i ys)) ≡ (nat_eq (unit xs i) (unit ys i) && bytes_eq (units_of (drop (i + 1) xs)) (units_of (drop (i + 1) ys)))
both_next xs ys i h g = rw (next_units xs i h, next_units ys i g) refl

pub same_on : (xs ys : List ℕ) (i : ℕ) (whole : Bool) → i < length xs → i < length ys → unit xs i ≡ unit ys i
    → bytes_eq (units_of (drop i xs)) (units_of (drop i ys)) ≡ whole → bytes_eq (units_of (drop (i + 1) xs)) (units_of (drop (i + 1) ys)) ≡ whole
same_on xs ys i whole h g same e = let one = eq-eqb (unit xs i) (unit ys i) same in sym (both_next xs ys i h g ∙ ap (λ b. b && bytes_eq (units_of (drop (i + 1) xs)) (units_of (drop (i + 1) ys))) one) ∙ e

pub differs : (xs ys : List ℕ) (i : ℕ) (whole : Bool) → i < length xs → i < length ys → unit xs i ≢ unit ys i
    → bytes_eq (units_of (drop i xs)) (units_of (drop i ys)) ≡ whole → false ≡ whole
differs xs ys i whole h g other e = let one : nat_eq (unit xs i) (unit ys i) ≡ false = search rules in sym (both_next xs ys i h g ∙ ap (λ b. b && bytes_eq (units_of (drop (i + 1) xs)) (units_of (drop (i + 1) ys))) one) ∙ e

-- ---- units that are units

pub units_same : (us : List ℕ) → ((i : ℕ) → get_or us i 0 < 2 ^ 16) → units_of us ≡ us
units_same [] small = refl
units_same (u ∷ us) small = let lt : u < 2 ^ 16 = small 0 in ap₂ (λ v vs. v ∷ vs) (mod-eq_of_lt lt) (units_same us (λ i. small (suc i)))
