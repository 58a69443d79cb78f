-- Entries in chains: which one an entry is on goes by its digest.
use Rattle.std.specs.Prelude.{◌≡◌, ℕ, suc, ◌<◌, ◌≤◌, ◌-◌, List, length, Some, bit_and, map, slice_get, get_or}
use Rattle.std.proofs.Common.{◌≢◌}

-- The number is that behind the last one equal to x among the first of a list, 0 where none is.
pub record IsLast (all : List ℕ) (x count m : ℕ) : Type 0 where
  pub within : m ≤ count
  pub here : (j : ℕ) → m ≡ suc j → slice_get all j ≡ Some x
  pub later : (i : ℕ) → m ≤ i → i < count → slice_get all i ≢ Some x

-- the chain of each digest, of so many chains
abbrev pub chains_of : ℕ → List ℕ → List ℕ
chains_of count digests = map (λ d. bit_and d (count - 1)) digests

-- Each chain begins with its last entry.
abbrev pub AreHeads : List ℕ → List ℕ → Type 0
AreHeads chains heads = (p : ℕ) → p < length heads → IsLast chains p (length chains) (get_or heads p 0)

-- Each entry names the last one before it of its chain.
abbrev pub AreChained : List ℕ → List ℕ → Type 0
AreChained chains earlier = (length earlier ≡ length chains) × ((i p : ℕ) → slice_get chains i ≡ Some p → IsLast chains p i (get_or earlier i 0))

abbrev pub AreLinked : List ℕ → List ℕ → List ℕ → Type 0
AreLinked digests heads earlier = (0 < length heads) × AreHeads (chains_of (length heads) digests) heads
    × AreChained (chains_of (length heads) digests) earlier

-- What has a digest is all on one chain, and the number is that behind one of its entries, or 0.
pub record IsOn (digests earlier : List ℕ) (digest at : ℕ) : Type 0 where
  pub chains : List ℕ
  pub chain : ℕ
  pub long : length digests ≡ length chains
  pub chained : AreChained chains earlier
  pub its : (i : ℕ) → slice_get digests i ≡ Some digest → slice_get chains i ≡ Some chain
  pub here : (j : ℕ) → at ≡ suc j → slice_get chains j ≡ Some chain
