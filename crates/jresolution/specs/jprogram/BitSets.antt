-- Sets of numbers, a bit each, in words of 64 bits.
use Rattle.std.specs.Prelude.{◌≡◌, ℕ, ◌/◌, ◌%◌, Bool, ◌||◌, ◌==◌, List, slice_index_or}
use Rattle.std.specs.Int.{bit_at}

-- the word at a place; behind the last there are none but zeros
abbrev pub word_at : List ℕ → ℕ → ℕ
word_at words i = slice_index_or words i 0

-- a number is in the set
unfoldable pub has : List ℕ → ℕ → Bool
has words n = bit_at (word_at words (n / 64)) (n % 64) == 1

-- a set has a number besides
abbrev pub Puts : ℕ → List ℕ → List ℕ → Type 0
Puts number old new = (n : ℕ) → has new n ≡ (has old n || n == number)

-- a set has those of another one besides
abbrev pub Joins : List ℕ → List ℕ → List ℕ → Type 0
Joins other old new = (n : ℕ) → has new n ≡ (has old n || has other n)
