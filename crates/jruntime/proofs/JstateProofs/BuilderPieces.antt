-- What holds of the pieces of builders stays.
use Rattle.std.proofs.Common.{◌≡◌, ℕ, zero, suc, ◌+◌, ◌≤◌, List, [], ◌∷◌, ◌++◌, length, Some, inl, inr, refl, sym, ap, arith, subst}
use Rattle.std.specs.Prelude.{◌⊎◌, slice_get, slice_set}
use Rattle.std.specs.List.{AllByRecursion}
use Rattle.std.proofs.lemmas.List.{length-append}
use Rattle.jmemory.specs.jheap.Heaps as heaps
use Rattle.jmemory.specs.jheap.Heaps.{changed, fresh}
use Rattle.jruntime.specs.jstate.HeapMeanings.{NamesWithin}
use Rattle.jruntime.specs.jstate.HeapMeaningLaws.{MadeStaysBuilt, MoreStaysBuilt, NamedStaysBuilt, WrittenStaysBuilt, with_number}
use Rattle.jruntime.proofs.JstateProofs.HeapAbstraction.{names_none}

widened : (n m : ℕ) → n ≤ m → (xs : List heaps.Object) → AllByRecursion (NamesWithin n) xs → AllByRecursion (NamesWithin m) xs
widened n m few [] all = tt
widened n m few (x ∷ xs) all = let low = all.0 in (omega (arith, low, few), widened n m few xs all.1)

-- ---- one more

pub is_appended : (xs : List heaps.Object) (y x : heaps.Object) (i : ℕ) → slice_get (xs ++ y ∷ []) i ≡ Some x → (slice_get xs i ≡ Some x) ⊎ ((i ≡ length xs) × (y ≡ x))
is_appended [] y x zero h = inr (refl, cc)
is_appended [] y x (suc i) h = cc
is_appended (z ∷ xs) y x zero h = inl h
is_appended (z ∷ xs) y x (suc i) h = further (is_appended xs y x i h)
  where
    further : (slice_get xs i ≡ Some x) ⊎ ((i ≡ length xs) × (y ≡ x)) → (slice_get xs i ≡ Some x) ⊎ ((suc i ≡ suc (length xs)) × (y ≡ x))
    further (inl old) = inl old
    further (inr (at, new)) = inr (ap (λ k. suc k) at, new)

one_more : (n : ℕ) (xs : List heaps.Object) (y : heaps.Object) → AllByRecursion (NamesWithin n) xs → NamesWithin n y → AllByRecursion (NamesWithin n) (xs ++ y ∷ [])
one_more n [] y all within = (within, tt)
one_more n (x ∷ xs) y all within = (all.0, one_more n xs y all.1 within)

pub more_stays : MoreStaysBuilt
more_stays objects one all low names =
    let long = length-append objects (one ∷ []) in
    record {
      backward = λ i x there. back i x (is_appended objects one x i there);
      within = one_more (length (objects ++ one ∷ [])) objects one
          (widened (length objects) (length (objects ++ one ∷ [])) (omega (arith, long)) objects all.within) (omega (arith, long, names));
    }
  where
    back : (i : ℕ) (x : heaps.Object) → (slice_get objects i ≡ Some x) ⊎ ((i ≡ length objects) × (one ≡ x)) → x.before ≤ i
    back i x (inl old) = all.backward i x old
    back i x (inr (at, new)) = subst (λ (y : heaps.Object). y.before ≤ i) new (omega (arith, low, at))

pub made_stays : MadeStaysBuilt
made_stays h kind len all = more_stays h.objects (fresh kind len) all (omega arith) (names_none kind len (length h.objects + 1))

-- ---- another number in a cell

module _ (i n : ℕ) where
  abbrev written : ℕ → List heaps.Object → List heaps.Object
  written o xs = changed (with_number i n) o xs

  as_many : (xs : List heaps.Object) (o : ℕ) → length (written o xs) ≡ length xs
  as_many [] o = refl
  as_many (x ∷ xs) zero = refl
  as_many (x ∷ xs) (suc o) = ap (λ k. suc k) (as_many xs o)

  still_back : (xs : List heaps.Object) (o k most : ℕ) (y : heaps.Object) → ((z : heaps.Object) → slice_get xs k ≡ Some z → z.before ≤ most)
      → slice_get (written o xs) k ≡ Some y → y.before ≤ most
  still_back [] o k most y low h = cc
  still_back (z ∷ xs) zero zero most y low h = let e : with_number i n z ≡ y = cc in let old = low z refl in rw (← e) old
  still_back (z ∷ xs) zero (suc k) most y low h = low y h
  still_back (z ∷ xs) (suc o) zero most y low h = low y h
  still_back (z ∷ xs) (suc o) (suc k) most y low h = still_back xs o k most y low h

  still_within : (count : ℕ) (xs : List heaps.Object) (o : ℕ) (x : heaps.Object) → slice_get xs o ≡ Some x → NamesWithin count (with_number i n x) → AllByRecursion (NamesWithin count) xs
      → AllByRecursion (NamesWithin count) (written o xs)
  still_within count [] o x is one all = tt
  still_within count (z ∷ xs) zero x is one all =
      let e : z ≡ x = cc in (subst (λ (y : heaps.Object). NamesWithin count (with_number i n y)) (sym e) one, all.1)
  still_within count (z ∷ xs) (suc o) x is one all = (all.0, still_within count xs o x is one all.1)

pub named_stays : NamedStaysBuilt
named_stays h zero i n x is one all = all
named_stays h (suc o) i n x is one all =
    record {
      backward = λ k y there. still_back i n h.objects o k k y (λ z at. all.backward k z at) there;
      within = subst (λ (m : ℕ). AllByRecursion (NamesWithin m) (changed (with_number i n) o h.objects)) (sym (as_many i n h.objects o)) (still_within i n (length h.objects) h.objects o x is one all.within);
    }

pub written_stays : WrittenStaysBuilt
written_stays h o i n x is none all = let no = none (slice_set x.cells i n) in named_stays h o i n x is (omega (arith, no)) all
