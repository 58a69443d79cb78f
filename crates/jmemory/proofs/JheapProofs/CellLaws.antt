-- What a write leaves.
use Rattle.std.proofs.Common.{◌≡◌, ◌≢◌, ◌∙◌, ℕ, zero, suc, ◌<◌, List, [], ◌∷◌, length, Option, Some, None, refl, ap, inl, inr, arith}
use Rattle.std.specs.Prelude.{slice_set, slice_get, unwrap_or}
use Rattle.std.specs.Option.{option_map}
use Rattle.jmemory.specs.jheap.Heaps.{Object, changed, ReadsTheWrite, LeavesOthers}

changed_here : (f : Object → Object) (n : ℕ) (os : List Object) → slice_get (changed f n os) n ≡ option_map f (slice_get os n)
changed_here f n [] = refl
changed_here f zero (x ∷ xs) = refl
changed_here f (suc n) (x ∷ xs) = changed_here f n xs

changed_there : (f : Object → Object) (n m : ℕ) (os : List Object) → m ≢ n → slice_get (changed f n os) m ≡ slice_get os m
changed_there f n m [] other = refl
changed_there f zero zero (x ∷ xs) other = absurd (other refl)
changed_there f zero (suc m) (x ∷ xs) other = refl
changed_there f (suc n) zero (x ∷ xs) other = refl
changed_there f (suc n) (suc m) (x ∷ xs) other = changed_there f n m xs (λ e. other (ap suc e))

set_here : (xs : List ℕ) (i n : ℕ) → i < length xs → unwrap_or (slice_get (slice_set xs i n) i) 0 ≡ n
set_here [] i n lt = absurd (omega (arith, lt))
set_here (x ∷ xs) zero n lt = refl
set_here (x ∷ xs) (suc i) n lt = set_here xs i n (omega (arith, lt))

set_there : (xs : List ℕ) (i j n : ℕ) → j ≢ i → slice_get (slice_set xs i n) j ≡ slice_get xs j
set_there [] i j n other = refl
set_there (x ∷ xs) zero zero n other = absurd (other refl)
set_there (x ∷ xs) zero (suc j) n other = refl
set_there (x ∷ xs) (suc i) zero n other = refl
set_there (x ∷ xs) (suc i) (suc j) n other = set_there xs i j n (λ e. other (ap suc e))

pub reads_the_write : ReadsTheWrite
reads_the_write h zero i n has = absurd (omega (arith, has))
reads_the_write h (suc o) i n has =
    ap (λ x. unwrap_or (slice_get (unwrap_or (option_map (λ (y : Object). y.cells) x) []) i) 0) (changed_here (λ x. record x { cells = slice_set x.cells i n }) o h.objects)
    ∙ go (slice_get h.objects o) has
  where
    go : (x : Option Object) → i < length (unwrap_or (option_map (λ (y : Object). y.cells) x) []) → unwrap_or (slice_get (unwrap_or (option_map (λ (y : Object). y.cells) (option_map (λ (y : Object). record y { cells = slice_set y.cells i n }) x)) []) i) 0 ≡ n
    go None lt = absurd (omega (arith, lt))
    go (Some x) lt = set_here x.cells i n lt

pub leaves_others : LeavesOthers
leaves_others h zero i n p j other = refl
leaves_others h (suc o) i n zero j other = refl
leaves_others h (suc o) i n (suc p) j (inl other) =
    ap (λ x. unwrap_or (slice_get (unwrap_or (option_map (λ (y : Object). y.cells) x) []) j) 0) (changed_there (λ x. record x { cells = slice_set x.cells i n }) o p h.objects (λ e. other (ap suc e)))
leaves_others h (suc o) i n (suc p) j (inr other) = go o p h.objects
  where
    go : (o p : ℕ) (os : List Object)
        → unwrap_or (slice_get (unwrap_or (option_map (λ (y : Object). y.cells) (slice_get (changed (λ x. record x { cells = slice_set x.cells i n }) o os) p)) []) j) 0
        ≡ unwrap_or (slice_get (unwrap_or (option_map (λ (y : Object). y.cells) (slice_get os p)) []) j) 0
    go o p [] = refl
    go zero zero (x ∷ xs) = ap (λ v. unwrap_or v 0) (set_there x.cells i j n other)
    go zero (suc p) (x ∷ xs) = refl
    go (suc o) zero (x ∷ xs) = refl
    go (suc o) (suc p) (x ∷ xs) = go o p xs
