-- What a write leaves, and how items are counted.
use Rattle.std.proofs.Common.{◌≡◌, ◌≢◌, ◌∙◌, ℕ, zero, suc, ◌-◌, ◌<◌, List, [], ◌∷◌, length, reverse, Some, refl, sym, ap, arith}
use Rattle.std.specs.Prelude.{slice_set, slice_get}
use Rattle.std.proofs.lemmas.Option.{slice_get-get_or}
use Rattle.std.proofs.lemmas.List.{get_or-reverse, length-reverse}
use Rattle.jstacks.specs.ListStackLaws.{ReadsTheWrite, LeavesOthers, CountsBothWays, ClosesTheOpened}

set_here : {T : Type 0} (xs : List T) (i : ℕ) (x : T) → i < length xs → slice_get (slice_set xs i x) i ≡ Some x
set_here [] i x lt = absurd (omega (arith, lt))
set_here (y ∷ xs) zero x lt = refl
set_here (y ∷ xs) (suc i) x lt = set_here xs i x (omega (arith, lt))

set_there : {T : Type 0} (xs : List T) (i j : ℕ) (x : T) → j ≢ i → slice_get (slice_set xs i x) j ≡ slice_get xs j
set_there [] i j x other = refl
set_there (y ∷ xs) zero zero x other = absurd (other refl)
set_there (y ∷ xs) zero (suc j) x other = refl
set_there (y ∷ xs) (suc i) zero x other = refl
set_there (y ∷ xs) (suc i) (suc j) x other = set_there xs i j x (λ e. other (ap suc e))

turned_round : {T : Type 0} (xs : List T) (i : ℕ) → i < length xs → slice_get (reverse xs) i ≡ slice_get xs (length xs - 1 - i)
turned_round [] i lt = absurd (omega (arith, lt))
turned_round (y ∷ ys) i lt = from_default (y ∷ ys) i y lt
  where
    from_default : {T : Type 0} (xs : List T) (i : ℕ) (d : T) → i < length xs → slice_get (reverse xs) i ≡ slice_get xs (length xs - 1 - i)
    from_default xs i d lt =
        slice_get-get_or (reverse xs) i d (omega (arith, lt, length-reverse xs))
        ∙ ap Some (get_or-reverse xs i d lt)
        ∙ sym (slice_get-get_or xs (length xs - 1 - i) d (omega (arith, lt)))

pub reads_the_write : {T : Type 0} → ReadsTheWrite T
reads_the_write p i x lt = set_here p.newest i x lt

pub leaves_others : {T : Type 0} → LeavesOthers T
leaves_others p i j x other = set_there p.newest i j x other

pub counts_both_ways : {T : Type 0} → CountsBothWays T
counts_both_ways p i lt = turned_round p.newest i lt

pub closes_the_opened : {T : Type 0} → ClosesTheOpened T
closes_the_opened p first last = refl
